-- Document 01, refusal 4: "register not among $4000..$4013, $4015, $4017".
use Rattle.std.specs.Prelude.{ℕ, Bool, leb, eqb}
use Rattle.arith.specs.Pick.{both, either}

unfoldable pub is_register : ℕ → Bool
is_register register =
    either (both (leb 0x4000 register) (leb register 0x4013)) (either (eqb register 0x4015) (eqb register 0x4017))

-- Between crates: how the first byte at fault is found; proved to be `reach` (proofs/ScanLaws).
-- How the code finds the first byte at fault: how many bytes of a line suit a form, from the front.
use Rattle.std.specs.Prelude.{ℕ, suc, List, [], ◌∷◌}
use Rattle.arith.specs.Pick.{pick}
use Rattle.log_form.specs.Forms.{suits}

unfoldable pub common : List ℕ → List ℕ → ℕ
common [] s = 0
common (f ∷ fs) [] = 0
common (f ∷ fs) (c ∷ s) = pick (suits f c) (suc (common fs s)) 0

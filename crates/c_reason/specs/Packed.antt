-- A refusal's number in words at the boundary.
use Rattle.std.specs.Prelude.{ℕ, ◌*◌, ◌^◌, List}
use Rattle.text_print.specs.Printed.{placed}
use Rattle.perch_reasons.specs.Reasons.{reason_text}

-- "2^32 x bytes written"
abbrev pub reason_packed : ℕ → List ℕ → ℕ
reason_packed number text = 2 ^ 32 * placed text 0 (reason_text number)

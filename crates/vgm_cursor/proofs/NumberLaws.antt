-- An answer has the number, the place and the act of what is said. Assumes nothing.
use mathlib.Core.Path.{◌≡◌, ap}
use Rattle.log_cursor.specs.Stepping.{FoundIs}
use Rattle.log_cursor.proofs.NumberLaws.{found_numbers}
use Rattle.vgm_cursor.specs.declared.Stepped.{Stepped}
use Rattle.vgm_cursor.specs.Walking.{Go, stepped_of}

pub with_numbers : (r : Stepped) (g : Go) → r ≡ stepped_of g → (r ≡ stepped_of g) × FoundIs g.said r.found
with_numbers r g e = (e, found_numbers r.found g.said (ap (λ (s : Stepped). s.found) e))

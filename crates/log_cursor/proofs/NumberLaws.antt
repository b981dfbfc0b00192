-- The number, place and value of an answer, from what is said. Assumes nothing.
use mathlib.Core.Path.{◌≡◌, refl, ap}
use Rattle.log_line.specs.declared.Act.{Act}
use Rattle.reading.specs.Saying.{Said, over, on, says, refused}
use Rattle.log_cursor.specs.declared.Given.{Given}
use Rattle.log_cursor.specs.declared.Stepped.{Stepped}
use Rattle.log_cursor.specs.Stepping.{Go, told, stepped_of, FoundIs}

found_is : (w : Said Act) → FoundIs w (told w)
found_is over = (refl, refl, refl)
found_is on = (refl, refl, refl)
found_is (says a) = (refl, refl, refl)
found_is (refused k p) = (refl, refl, refl)

pub found_numbers : (r : Given) (w : Said Act) → r ≡ told w → FoundIs w r
found_numbers r w e = rw e (found_is w)

pub with_numbers : (r : Stepped) (g : Go) → r ≡ stepped_of g → (r ≡ stepped_of g) × FoundIs g.said r.found
with_numbers r g e = (e, found_numbers r.found g.said (ap (λ (s : Stepped). s.found) e))

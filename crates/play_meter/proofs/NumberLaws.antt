-- An answer has the number, the place and the wait of what is said. Assumes nothing.
use mathlib.Core.Path.{◌≡◌, refl}
use Rattle.reading.specs.Saying.{Said, over, on, says, refused}
use Rattle.play_meter.specs.declared.waits.Passed.{Passed}
use Rattle.play_meter.specs.Meters.{WaitMeter}
use Rattle.play_meter.specs.Passing.{Go, pass_next, passed, NextIs}

next_is : (w : Said WaitMeter) → NextIs w (pass_next w)
next_is over = (refl, refl, refl)
next_is on = (refl, refl, refl)
next_is (says x) = (refl, refl, refl)
next_is (refused k q) = (refl, refl, refl)

pub with_numbers : (r : Passed) (g : Go) → r ≡ passed g → (r ≡ passed g) × NextIs g.said r.next
with_numbers r g e = (e, rw e (next_is g.said))

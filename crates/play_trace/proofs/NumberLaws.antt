-- An answer has the number, the place and the event of what is said. Assumes nothing.
use Prim.Native.Nat.{ℕ}
use mathlib.Core.Path.{◌≡◌, refl}
use Rattle.reading.specs.Saying.{Said, over, on, says, refused}
use Rattle.play_trace.specs.declared.Event.{Event}
use Rattle.play_trace.specs.declared.Passed.{Passed}
use Rattle.play_trace.specs.Stepping.{Go, next_of, place_time, passed, NextIs}

next_is : (w : Said Event) (t : ℕ) → NextIs w (next_of w t)
next_is over t = (refl, refl, refl)
next_is on t = (refl, refl, refl)
next_is (says e) t = (refl, refl, refl)
next_is (refused k q) t = (refl, refl, refl)

pub with_numbers : (r : Passed) (g : Go) → r ≡ passed g → (r ≡ passed g) × NextIs g.said r.next
with_numbers r g e = (e, rw e (next_is g.said (place_time g.state)))

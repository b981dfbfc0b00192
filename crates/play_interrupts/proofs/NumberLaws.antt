-- An answer has the number, the place and the change of what is said. Assumes nothing.
use Prim.Native.Nat.{ℕ}
use mathlib.Core.Path.{◌≡◌, refl}
use Rattle.reading.specs.Saying.{Said, over, on, says, refused}
use Rattle.play_interrupts.specs.declared.Change.{Change}
use Rattle.play_interrupts.specs.declared.Passed.{Passed}
use Rattle.play_interrupts.specs.Stepping.{Go, next_of, passed, NextIs}

next_is : (w : Said Change) (t : ℕ) → NextIs w (next_of w t)
next_is over t = (refl, refl, refl)
next_is on t = (refl, refl, refl)
next_is (says c) t = (refl, refl, refl)
next_is (refused k q) t = (refl, refl, refl)

pub with_numbers : (r : Passed) (g : Go) → r ≡ passed g → (r ≡ passed g) × NextIs g.said r.next
with_numbers r g e = (e, rw e (next_is g.said g.state.moment.time))

-- An answer has the number, the place and the count of what is said. Assumes nothing.
use Prim.Native.Nat.{ℕ}
use mathlib.Core.Path.{◌≡◌, refl}
use mathlib.Core.List.{List}
use Rattle.reading.specs.Saying.{Said, over, on, says, refused}
use Rattle.play_samples.specs.declared.Passed.{Passed}
use Rattle.play_samples.specs.Stepping.{Go, heard, next_of, passed, NextIs}

next_is : (w : Said (List ℕ)) → NextIs w (next_of w)
unfolding heard
next_is over = (refl, refl, refl)
next_is on = (refl, refl, refl)
next_is (says l) = (refl, refl, refl)
next_is (refused k q) = (refl, refl, refl)

pub next_numbers : (r : Passed) (g : Go) → r ≡ passed g → NextIs g.said r.next
next_numbers r g e = rw e (next_is g.said)

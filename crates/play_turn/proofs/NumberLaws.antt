-- A turn has the number, the place and the entry of what is said. Assumes nothing.
use mathlib.Core.Path.{◌≡◌, refl}
use Rattle.reading.specs.Saying.{Said, over, on, says, refused}
use Rattle.play_text.specs.declared.Entry.{Entry}
use Rattle.play_rules.specs.Turns.{Go}
use Rattle.play_turn.specs.declared.Went.{Went}
use Rattle.play_turn.specs.Turned.{told_as, went, ToldIs}

told_is : (w : Said Entry) → ToldIs w (told_as w)
told_is over = (refl, refl, refl)
told_is on = (refl, refl, refl)
told_is (says n) = (refl, refl, refl)
told_is (refused k p) = (refl, refl, refl)

pub told_numbers : (r : Went) (g : Go) → r ≡ went g → ToldIs g.said r.told
told_numbers r g e = rw e (told_is g.said)

-- What a step meets has the number, the place and the act of what the cursor says. Assumes nothing.
use Prim.Native.Nat.{ℕ}
use mathlib.Core.Path.{◌≡◌, refl}
use mathlib.Core.List.{List}
use Rattle.log_line.specs.declared.Act.{Act}
use Rattle.log_line.specs.declared.Act.TheVariants.{Wait, Access}
use Rattle.reading.specs.Saying.{Said, over, on, says, refused}
use Rattle.recording_cursor.specs.declared.Cursor.{Cursor}
use Rattle.recording_cursor.specs.Stepping.{step_of, told}
use Rattle.play_walk.specs.declared.Moment.{Moment}
use Rattle.play_walk.specs.declared.Walked.{Walked}
use Rattle.play_walk.specs.Walk.{act_met, given_met, walk_step, MetIs}

met_is : (w : Said Act) (m : Moment) (c : Cursor) → MetIs w (given_met (told w) m c).met
unfolding given_met act_met
met_is over m c = (refl, refl, refl)
met_is on m c = (refl, refl, refl)
met_is (says (Wait n)) m c = (refl, refl, refl)
met_is (says (Access x)) m c = (refl, refl, refl)
met_is (refused k p) m c = (refl, refl, refl)

pub met_numbers : (log : List ℕ) (m : Moment) (w : Walked) → w ≡ walk_step log m → MetIs (step_of log m.cursor).said w.met
unfolding walk_step
met_numbers log m w e = rw e (met_is (step_of log m.cursor).said m (step_of log m.cursor).state)

-- What the run owes the law of the leap: where a stretch ends, and that a quiet one is passed by the law.
use Rattle.std.specs.Prelude.{ℕ, ◌+◌, ◌-◌, min, ◌≡◌, List, eqb}
use Rattle.arith.specs.Pick.{pick}
use Rattle.leap_law.specs.Frame.{before_step}
use Rattle.leap_law.specs.Quiet.{quiet_after}
use Rattle.chip.specs.declared.State.{State}
use Rattle.run_answer.specs.Run.{stored}
use Rattle.run_loops.specs.declared.Stretch.{Stretch}

-- where a stretch ends that may go `left` clocks: before the next frame step, and before the last of them, which is worked by itself
unfoldable pub stretch_end : ℕ → State → ℕ
stretch_end left s = min (left - 1) (before_step s)

-- the records and the words with that of a clock, where its level is another than it was: that of the clock before a stretch is written where the stretch
-- begins, which finds that level anyway, and `Passed` counts from there
abbrev pub marked_records : ℕ → ℕ → ℕ → ℕ
marked_records n level was = pick (eqb level was) n (n + 1)

abbrev pub marked_words : List ℕ → ℕ → ℕ → ℕ → ℕ → List ℕ
marked_words words n clock level was = pick (eqb level was) words (stored words n clock level)

-- "The run passes such stretches by that law": a quiet stretch goes to its end in one leap, writes nothing, and its state is the law's
pub record Passed (s : State) (end n : ℕ) (before after : List ℕ) (r : Stretch) : Type 0 where
  pub clocks : r.clocks ≡ end
  pub records : r.records ≡ n
  pub words : after ≡ before
  pub state : r.state ≡ quiet_after end s

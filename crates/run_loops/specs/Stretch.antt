-- Helper: nobody has to believe this; what the run's loops hold between two events. What a quiet stretch owes stands in specs/Leap.
-- What working a stretch of clocks that bring no frame step promises.
use Rattle.std.specs.Prelude.{ℕ, ◌+◌, ◌/◌, ◌≤◌, ◌≡◌, true, List, length}
use Rattle.arith.specs.Iterate.{iterate}
use Rattle.leap_law.specs.Frame.{before_step}
use Rattle.chip.specs.Clock.{chip_clock}
use Rattle.chip.specs.Level.{state_level}
use Rattle.chip.specs.Range.{in_range}
use Rattle.leap_law.specs.Quiet.{Quiet}
use Rattle.leap_stretch.proofs.LaggedLaws.{Lagging}
use Rattle.run_answer.specs.Held.{Held}
use Rattle.chip.specs.declared.State.{State}
use Rattle.leap_stretch.specs.declared.Lags.{Lags}
use Rattle.run_loops.specs.declared.Stretch.{Stretch}
use Rattle.run_loops.specs.Leap.{Passed}

-- At clock `l.now` of a stretch of at most `end` clocks that began in s with `base` clocks done; n records are written.
pub record Standing (memory : List ℕ) (s : State) (end base : ℕ) (words : List ℕ) (l : Lags) (n : ℕ) : Type 0 where
  pub ranged : in_range s ≡ true
  pub short : end ≤ before_step s
  pub far : base + end ≤ 1000000
  pub lagging : Lagging memory s l
  pub now : l.now ≤ end
  pub most : n ≤ length words / 2
  pub few : n ≤ base + l.now

-- Worked on to there from clock `from`, where n was `records` and the words were `before`: whatever run it is part of goes on being held.
pub record Worked (memory : List ℕ) (s : State) (end base from records : ℕ) (before words : List ℕ) (l : Lags) (n : ℕ) : Type 0 where
  pub standing : Standing memory s end base words l n
  pub on : from ≤ l.now
  pub same_length : length words ≡ length before
  pub held :
      (s₀ : State) (words₀ : List ℕ)
      → Held memory s₀ words₀ before (iterate (chip_clock memory) from s) (base + from) records
      → Held memory s₀ words₀ words (iterate (chip_clock memory) l.now s) (base + l.now) n

-- A stretch of at most `end` clocks, entered with `base` clocks done and n records: whatever run it is part of goes on being held. Where it
-- stops for want of room is fixed by the plain reading that it is part of.
pub record Stretched (memory : List ℕ) (s : State) (end base n : ℕ) (before after : List ℕ) (r : Stretch) : Type 0 where
  pub most : r.clocks ≤ end
  pub level : r.level ≡ state_level r.state
  pub ranged : in_range r.state ≡ true
  pub held :
      (s₀ : State) (words₀ : List ℕ)
      → Held memory s₀ words₀ before s base n
      → Held memory s₀ words₀ after r.state (base + r.clocks) r.records
  pub quiet : Quiet s → Passed s end n before after r

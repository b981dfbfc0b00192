-- One step to the next wait. Assumes nothing.
use Prim.Native.Nat.{ℕ, ◌+◌, ◌≤◌, ◌<◌}
use mathlib.Core.Path.{◌≡◌, ◌∙◌}
use mathlib.Core.Bool.{true, false}
use mathlib.Core.List.{List, [], append-nil}
use borrow.Author.Tests.{eq-eqb, ne_eqb, le-leb, lt-leb}
use lib.ListN.{length}
use Rattle.chip.specs.Level.{state_level}
use Rattle.chip.specs.Range.{in_range}
use Rattle.chip.specs.declared.State.{State}
use Rattle.reading.specs.Saying.{refused}
use Rattle.play_rules.specs.Sound.{waited}
use Rattle.play_walk.specs.declared.Moment.{Moment}
use Rattle.play_walk.specs.declared.Met.{Met}
use Rattle.play_walk.specs.Walk.{moment_of, walk_step}
use Rattle.meter.specs.declared.Metering.{Metering}
use Rattle.meter.specs.Spans.{span_at, told_of}
use Rattle.meter.proofs.Answers.{told_is}
use Rattle.play_meter.specs.declared.Heard.{Heard}
use Rattle.play_meter.specs.declared.waits.Next.{Next}
use Rattle.play_meter.specs.Meters.{levels_of, wait_meter}
use Rattle.play_meter.specs.Passing.{go, met_pass, pass_of, passed_of, passed}
use Rattle.play_meter.specs.Walking.{changed, clocks_on}
use Rattle.play_meter.proofs.HeardLaws.{levels_waited}

-- the levels of a wait's own lines
wait_levels : (memory : List ℕ) (n t : ℕ) (s : State) → levels_of (waited memory n t (state_level s) s (λ t last s. [])) ≡ changed memory n s
unfolding levels_of
wait_levels memory n t s = levels_waited memory n t s (λ t last s. []) ∙ append-nil (changed memory n s)

-- a wait worked with the level at its beginning
pub wait_passed : (memory : List ℕ) (n : ℕ) (m : Moment) (h : Heard) (after : Moment) (meter : Metering ℕ) → h ≡ clocks_on memory n m.state (span_at (state_level m.state))
    → meter ≡ told_of h.span.low h.span.high → after ≡ moment_of m.cursor h.state (m.time + n)
    → passed_of (Next.Wait m.time n meter) after ≡ passed (met_pass memory (Met.Wait n) m)
unfolding met_pass wait_meter clocks_on
wait_passed memory n m h after meter e f i =
    rw (f, i, e, wait_levels memory n m.time m.state, ← told_is (state_level m.state) (changed memory n m.state))

-- a step by its tests
module _ (log memory : List ℕ) (m : Moment) where
  pub pass_one : (length memory ≡ 32768 → ⊥) → go (refused 1 0) m ≡ pass_of log memory m
  unfolding pass_of
  pass_one h = rw (ne_eqb (length memory) 32768 h)

  module _ (long : length memory ≡ 32768) where
    pub pass_two : in_range m.state ≡ false → go (refused 2 0) m ≡ pass_of log memory m
    unfolding pass_of
    pass_two e = rw (eq-eqb (length memory) 32768 long, e)

    module _ (ranged : in_range m.state ≡ true) where
      pub pass_nine : 2000000000 < m.time → go (refused 9 0) m ≡ pass_of log memory m
      unfolding pass_of
      pass_nine h = rw (eq-eqb (length memory) 32768 long, ranged, lt-leb m.time 2000000000 h)

      pub pass_some : m.time ≤ 2000000000 → met_pass memory (walk_step log m).met (walk_step log m).moment ≡ pass_of log memory m
      unfolding pass_of
      pass_some h = rw (eq-eqb (length memory) 32768 long, ranged, le-leb m.time 2000000000 h)

-- One step by its tests. Assumes nothing.
use Prim.Native.Nat.{ℕ, ◌+◌, ◌-◌, ◌≤◌, ◌<◌}
use mathlib.Core.Path.{◌≡◌}
use mathlib.Core.Bool.{true, false}
use mathlib.Core.List.{List}
use borrow.Author.Tests.{eq-eqb, ne_eqb, le-leb, lt-leb}
use lib.ListN.{length}
use Rattle.arith.specs.Iterate.{iterate}
use Rattle.chip.specs.Clock.{chip_clock}
use Rattle.chip.specs.declared.State.{State}
use Rattle.chip.specs.Range.{in_range}
use Rattle.reading.specs.Saying.{refused}
use Rattle.play_walk.specs.Walk.{moment_of, walk_step}
use Rattle.play_interrupts.specs.declared.Place.{Place}
use Rattle.play_interrupts.specs.declared.Next.{Next}
use Rattle.play_interrupts.specs.Changes.{flags_of, same_flags, change_of, changed}
use Rattle.play_interrupts.specs.Stepping.{go, place_of, until_change, change_said, clocks_step, met_step, place_step, step_of, next_of, passed_of, passed}

-- k clocks of a wait, worked
pub clocks_passed : (memory : List ℕ) (p : Place) (k u : ℕ) (far : State) (n : Next) (q : Place) → k ≡ u → far ≡ iterate (chip_clock memory) k p.moment.state
    → n ≡ next_of (change_said (changed (p.moment.time + k) p.moment.state far)) (p.moment.time + k)
    → q ≡ place_of (moment_of p.moment.cursor far (p.moment.time + k)) (p.left - k) → passed_of n q ≡ passed (clocks_step memory u p)
unfolding clocks_step
clocks_passed memory p k u far n q e f g h = rw (← e, g, h, f)

-- by alike flags, and by others
module _ (t : ℕ) (s next : State) where
  pub next_none : same_flags (flags_of s) (flags_of next) ≡ true → Next.Moved ≡ next_of (change_said (changed t s next)) t
  unfolding changed change_said
  next_none e = rw e

  pub next_some : same_flags (flags_of s) (flags_of next) ≡ false → Next.Changed (change_of t (flags_of s) (flags_of next)) ≡ next_of (change_said (changed t s next)) t
  unfolding changed change_said
  next_some e = rw e

module _ (log memory : List ℕ) (p : Place) where
  pub place_log : p.left ≡ 0 → met_step p.moment.state (walk_step log p.moment).met (walk_step log p.moment).moment ≡ place_step log memory p
  unfolding place_step
  place_log h = rw (eq-eqb p.left 0 h)

  module _ (some : p.left ≡ 0 → ⊥) where
    pub place_three : 1000000 < p.left → go (refused 3 0) p ≡ place_step log memory p
    unfolding place_step
    place_three h = rw (ne_eqb p.left 0 some, lt-leb p.left 1000000 h)

    pub place_clocks : p.left ≤ 1000000 → clocks_step memory (until_change memory p.left p.moment.state) p ≡ place_step log memory p
    unfolding place_step
    place_clocks h = rw (ne_eqb p.left 0 some, le-leb p.left 1000000 h)

  pub step_one : (length memory ≡ 32768 → ⊥) → go (refused 1 0) p ≡ step_of log memory p
  unfolding step_of
  step_one h = rw (ne_eqb (length memory) 32768 h)

  module _ (long : length memory ≡ 32768) where
    pub step_two : in_range p.moment.state ≡ false → go (refused 2 0) p ≡ step_of log memory p
    unfolding step_of
    step_two e = rw (eq-eqb (length memory) 32768 long, e)

    module _ (ranged : in_range p.moment.state ≡ true) where
      pub step_nine : 2000000000 < p.moment.time → go (refused 9 0) p ≡ step_of log memory p
      unfolding step_of
      step_nine h = rw (eq-eqb (length memory) 32768 long, ranged, lt-leb p.moment.time 2000000000 h)

      pub step_some : p.moment.time ≤ 2000000000 → place_step log memory p ≡ step_of log memory p
      unfolding step_of
      step_some h = rw (eq-eqb (length memory) 32768 long, ranged, le-leb p.moment.time 2000000000 h)

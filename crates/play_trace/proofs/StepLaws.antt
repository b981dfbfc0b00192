-- One step by its tests. Assumes nothing.
use Prim.Native.Nat.{ℕ, ◌+◌, ◌-◌, ◌≤◌, ◌<◌, min}
use mathlib.Core.Path.{◌≡◌, refl, ap}
use mathlib.Core.Bool.{Bool, true, false}
use mathlib.Core.List.{List, [], ◌∷◌}
use native.Mathlib.Omega.{arith}
use borrow.Author.Tests.{eq-eqb, ne_eqb, le-leb, lt-leb, eqb-true, leb-true}
use lib.Dec.{leb}
use lib.ListN.{length}
use Rattle.arith.specs.Iterate.{iterate}
use Rattle.arith.specs.Pick.{pick}
use Rattle.chip.specs.Clock.{chip_clock}
use Rattle.chip.specs.declared.State.{State}
use Rattle.chip.specs.Range.{in_range}
use Rattle.chip_api.specs.Answer.{is_memory}
use Rattle.chip_seen.specs.Seen.{seen_of, same_seen}
use Rattle.reading.specs.Saying.{over, on, refused}
use Rattle.play_walk.specs.Walk.{moment_of, walk_step}
use Rattle.play_trace.specs.declared.Event.{Event}
use Rattle.play_trace.specs.declared.Place.{Place}
use Rattle.play_trace.specs.declared.Next.{Next}
use Rattle.play_trace.specs.Window.{shown_at, clock_event}
use Rattle.play_trace.specs.Stepping.{go, place_of, begins_at, clocks_past, approach, outside_step, until_seen, event_said, clocks_step, met_step, inside_step}
use Rattle.play_trace.specs.Stepping.{refusal_of, step_of, next_of, place_time, passed_of, passed}

-- an event, or none, is never the end: no time is told
event_next : (l : List Event) (a b : ℕ) → next_of (event_said l) a ≡ next_of (event_said l) b
unfolding event_said
event_next [] a b = refl
event_next (e ∷ l) a b = refl

-- k clocks of a wait, worked
pub clocks_passed : (memory : List ℕ) (p : Place) (k u : ℕ) (far : State) (n : Next) (q : Place) → k ≡ u → far ≡ iterate (chip_clock memory) k p.moment.state
    → n ≡ next_of (event_said (clock_event (p.moment.time + k) p.moment.state far)) (p.moment.time + k)
    → q ≡ place_of (moment_of p.moment.cursor far (p.moment.time + k)) (p.left - k) 0 p.begun → passed_of n q ≡ passed (clocks_step memory u p)
unfolding clocks_step clocks_past
clocks_passed memory p k u far n q e f g h =
    let there = iterate (chip_clock memory) k p.moment.state in
    let t = p.moment.time + k in
    let here = place_of (moment_of p.moment.cursor there t) (p.left - k) 0 p.begun in
    rw (← e, g, h, f) (ap (λ (x : Next). passed_of x here) (event_next (clock_event t p.moment.state there) t (place_time here)))

-- clocks leapt over, on the way to the window
pub clocks_far : (memory : List ℕ) (p : Place) (k u : ℕ) (far : State) (q : Place) → k ≡ u → far ≡ iterate (chip_clock memory) k p.moment.state
    → q ≡ place_of (moment_of p.moment.cursor far (p.moment.time + k)) (p.left - k) 0 p.begun
    → passed_of Next.Moved q ≡ passed (go on (clocks_past memory u p))
unfolding clocks_past
clocks_far memory p k u far q e f h = rw (← e, h, f)

-- by what is seen
module _ (t : ℕ) (s next : State) where
  pub next_none : same_seen (seen_of s) (seen_of next) ≡ true → Next.Moved ≡ next_of (event_said (clock_event t s next)) t
  unfolding clock_event event_said
  next_none e = rw e

  pub next_some : same_seen (seen_of s) (seen_of next) ≡ false
      → Next.Shown (Event.Clocked (seen_of s) (shown_at next t 0)) ≡ next_of (event_said (clock_event t s next)) t
  unfolding clock_event event_said
  next_some e = rw e

-- before the window
module _ (log memory : List ℕ) (from : ℕ) (p : Place) where
  pub outside_begins : from ≤ p.moment.time → begins_at p ≡ outside_step log memory from p
  unfolding outside_step
  outside_begins h = rw (le-leb from p.moment.time h)

  module _ (early : p.moment.time < from) where
    pub outside_log : p.left ≡ 0 → approach p (walk_step log p.moment).met (walk_step log p.moment).moment ≡ outside_step log memory from p
    unfolding outside_step
    outside_log h = rw (lt-leb from p.moment.time early, eq-eqb p.left 0 h)

    pub outside_clocks : (p.left ≡ 0 → ⊥) → go on (clocks_past memory (min p.left (from - p.moment.time)) p) ≡ outside_step log memory from p
    unfolding outside_step
    outside_clocks h = rw (lt-leb from p.moment.time early, ne_eqb p.left 0 h)

-- in it
module _ (log memory : List ℕ) (until : ℕ) (p : Place) where
  pub inside_over : until ≤ p.moment.time → go over p ≡ inside_step log memory until p
  unfolding inside_step
  inside_over h = rw (le-leb until p.moment.time h)

  module _ (early : p.moment.time < until) where
    pub inside_log : p.left ≡ 0 → met_step p (walk_step log p.moment).met (walk_step log p.moment).moment ≡ inside_step log memory until p
    unfolding inside_step
    inside_log h = rw (lt-leb until p.moment.time early, eq-eqb p.left 0 h)

    pub inside_clocks : (p.left ≡ 0 → ⊥)
        → clocks_step memory (until_seen memory (min p.left (until - p.moment.time)) p.moment.state) p ≡ inside_step log memory until p
    unfolding inside_step
    inside_clocks h = rw (lt-leb until p.moment.time early, ne_eqb p.left 0 h)

-- what is known of a place that nothing refuses
pub record Fine (memory : List ℕ) (p : Place) : Type 0 where
  pub long : length memory ≡ 32768
  pub ranged : in_range p.moment.state ≡ true
  pub low : p.left ≤ 1000000
  pub early : p.moment.time ≤ 2000000000

module _ (memory : List ℕ) (p : Place) where
  pub refusal_one : (length memory ≡ 32768 → ⊥) → 1 ≡ refusal_of memory p
  unfolding refusal_of
  refusal_one h = rw (ne_eqb (length memory) 32768 h)

  module _ (long : length memory ≡ 32768) where
    pub refusal_two : in_range p.moment.state ≡ false → 2 ≡ refusal_of memory p
    unfolding refusal_of
    refusal_two e = rw (eq-eqb (length memory) 32768 long, e)

    module _ (ranged : in_range p.moment.state ≡ true) where
      pub refusal_three : 1000000 < p.left → 3 ≡ refusal_of memory p
      unfolding refusal_of
      refusal_three h = rw (eq-eqb (length memory) 32768 long, ranged, lt-leb p.left 1000000 h)

      module _ (low : p.left ≤ 1000000) where
        pub refusal_nine : 2000000000 < p.moment.time → 9 ≡ refusal_of memory p
        unfolding refusal_of
        refusal_nine h = rw (eq-eqb (length memory) 32768 long, ranged, le-leb p.left 1000000 low, lt-leb p.moment.time 2000000000 h)

        pub refusal_none : p.moment.time ≤ 2000000000 → 0 ≡ refusal_of memory p
        unfolding refusal_of
        refusal_none h = rw (eq-eqb (length memory) 32768 long, ranged, le-leb p.left 1000000 low, le-leb p.moment.time 2000000000 h)

  pub fine : refusal_of memory p ≡ 0 → Fine memory p
  unfolding refusal_of
  fine z =
      by (is_memory memory) (in_range p.moment.state) (leb p.left 1000000) (leb p.moment.time 2000000000) refl refl refl refl z
    where
      by : (a b c d : Bool) → is_memory memory ≡ a → in_range p.moment.state ≡ b → leb p.left 1000000 ≡ c → leb p.moment.time 2000000000 ≡ d
          → ◌≡◌ {A = ℕ} (pick a (pick b (pick c (pick d 0 9) 3) 2) 1) 0 → Fine memory p
      by true true true true e f g h i =
          record { long = eqb-true (length memory) 32768 e; ranged = f; low = leb-true p.left 1000000 g; early = leb-true p.moment.time 2000000000 h }
      by true true true false e f g h i = absurd (omega arith)
      by true true false d e f g h i = absurd (omega arith)
      by true false c d e f g h i = absurd (omega arith)
      by false b c d e f g h i = absurd (omega arith)

module _ (log memory : List ℕ) (from until : ℕ) (p : Place) where
  pub step_refused : (refusal_of memory p ≡ 0 → ⊥) → go (refused (refusal_of memory p) 0) p ≡ step_of log memory from until p
  unfolding step_of
  step_refused h = rw (ne_eqb (refusal_of memory p) 0 h)

  module _ (none : refusal_of memory p ≡ 0) where
    pub step_inside : p.begun ≡ true → inside_step log memory until p ≡ step_of log memory from until p
    unfolding step_of
    step_inside e = rw (eq-eqb (refusal_of memory p) 0 none, e)

    pub step_outside : p.begun ≡ false → outside_step log memory from p ≡ step_of log memory from until p
    unfolding step_of
    step_outside e = rw (eq-eqb (refusal_of memory p) 0 none, e)

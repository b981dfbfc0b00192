-- The events of a wait, event by event. Assumes nothing.
use Prim.Native.Nat.{ℕ, zero, suc, ◌+◌, ◌-◌, ◌≤◌, ◌<◌}
use mathlib.Core.Path.{◌≡◌, refl, ap, sym, ◌∙◌}
use mathlib.Core.Bool.{Bool, true, false}
use mathlib.Core.List.{List, [], ◌++◌, append_assoc, append-nil}
use native.Mathlib.Nat.{add-zero, zero-add, suc-add}
use native.Mathlib.Omega.{arith}
use Rattle.arith.specs.Iterate.{iterate}
use Rattle.arith.specs.Pick.{pick}
use Rattle.arith.proofs.PickLaws.{pick_both}
use Rattle.chip.specs.Clock.{chip_clock}
use Rattle.chip.specs.declared.State.{State}
use Rattle.chip_seen.specs.Seen.{seen_of, same_seen}
use Rattle.play_trace.specs.declared.Event.{Event}
use Rattle.play_trace.specs.Window.{clock_event, clocks_events}
use Rattle.play_trace.specs.Stepping.{until_seen}
use Rattle.play_trace.proofs.SeenLaws.{seen_self, seen_is}

module _ (memory : List ℕ) where
  abbrev on : ℕ → State → State
  on = iterate (chip_clock memory)

  -- no event from a state to itself
  unchanged : (t : ℕ) (s : State) → [] ≡ clock_event t s s
  unfolding clock_event
  unchanged t s = rw (seen_self (seen_of s))

  -- a + b clocks are a, then b
  pub events_add : (a b t : ℕ) (s : State) → clocks_events memory (a + b) t s ≡ clocks_events memory a t s ++ clocks_events memory b (t + a) (on a s)
  unfolding clocks_events iterate
  events_add zero b t s = rw (zero-add, add-zero) refl
  events_add (suc a) b t s =
      let s' = chip_clock memory s in
      let e : t + 1 + a ≡ t + suc a = omega arith in
      rw suc-add
      (rw (events_add a b (t + 1) s', e)
      (sym (append_assoc (clock_event (t + 1) s s') (clocks_events memory a (t + 1) s') (clocks_events memory b (t + suc a) (on a s')))))

  -- by what is seen
  event_none : (t : ℕ) (s next : State) → same_seen (seen_of s) (seen_of next) ≡ true → clock_event t s next ≡ []
  unfolding clock_event
  event_none t s next e = rw e

  event_alike : (t : ℕ) (s s' next : State) → seen_of s ≡ seen_of s' → clock_event t s next ≡ clock_event t s' next
  unfolding clock_event
  event_alike t s s' next e = rw e

  -- a clock that changes nothing, in front of k that bring an event at the last
  quiet : (k t : ℕ) (s : State) → same_seen (seen_of s) (seen_of (chip_clock memory s)) ≡ true
      → clocks_events memory k (t + 1) (chip_clock memory s) ≡ clock_event (t + 1 + k) (chip_clock memory s) (on k (chip_clock memory s))
      → clocks_events memory (suc k) t s ≡ clock_event (t + suc k) s (on (suc k) s)
  unfolding clocks_events iterate
  quiet k t s e h =
      let s' = chip_clock memory s in
      let i : t + 1 + k ≡ t + suc k = omega arith in
      ap (λ (l : List Event). l ++ clocks_events memory k (t + 1) s') (event_none (t + 1) s s' e)
      ∙ (h ∙ (ap (λ (j : ℕ). clock_event j s' (on k s')) i ∙ sym (event_alike (t + suc k) s s' (on k s') (seen_is _ _ e))))

  one : (t : ℕ) (s : State) → clocks_events memory 1 t s ≡ clock_event (t + 1) s (on 1 s)
  unfolding clocks_events iterate
  one t s = append-nil (clock_event (t + 1) s (chip_clock memory s))

  -- UP TO THE FIRST EVENT there is that one, or none
  pub until_events : (n t : ℕ) (s : State)
      → clocks_events memory (until_seen memory n s) t s ≡ clock_event (t + until_seen memory n s) s (on (until_seen memory n s) s)
  unfolding until_seen clocks_events iterate
  until_events zero t s = unchanged (t + 0) s
  until_events (suc n) t s = by (same_seen (seen_of s) (seen_of (chip_clock memory s))) refl (until_events n (t + 1) (chip_clock memory s))
    where
      by : (b : Bool) → same_seen (seen_of s) (seen_of (chip_clock memory s)) ≡ b
          → clocks_events memory (until_seen memory n (chip_clock memory s)) (t + 1) (chip_clock memory s)
          ≡ clock_event (t + 1 + until_seen memory n (chip_clock memory s)) (chip_clock memory s)
          (on (until_seen memory n (chip_clock memory s)) (chip_clock memory s))
          → clocks_events memory (pick b (suc (until_seen memory n (chip_clock memory s))) 1) t s
          ≡ clock_event (t + pick b (suc (until_seen memory n (chip_clock memory s))) 1) s (on (pick b (suc (until_seen memory n (chip_clock memory s))) 1) s)
      by true e h = quiet (until_seen memory n (chip_clock memory s)) t s e h
      by false e h = one t s

  -- at most all of the clocks, and one at least
  pub until_most : (n : ℕ) (s : State) → until_seen memory n s ≤ n
  unfolding until_seen
  until_most zero s = omega arith
  until_most (suc n) s =
      pick_both (λ (k : ℕ). k ≤ suc n) (same_seen (seen_of s) (seen_of (chip_clock memory s))) (omega (arith, until_most n (chip_clock memory s))) (omega arith)

  pub until_some : (n : ℕ) (s : State) → 0 < until_seen memory (suc n) s
  unfolding until_seen
  until_some n s = pick_both (λ (k : ℕ). 0 < k) (same_seen (seen_of s) (seen_of (chip_clock memory s))) (omega arith) (omega arith)

-- The first clock that is asked for, without working any. Assumes nothing.
use Prim.Native.Nat.{ℕ, zero, suc}
use mathlib.Core.Path.{◌≡◌, refl, ap, ◌∙◌}
use mathlib.Core.Bool.{Bool, true, false}
use mathlib.Core.List.{List}
use native.Mathlib.Omega.{arith}
use borrow.Author.Tests.{eq-eqb}
use Rattle.arith.specs.Pick.{pick}
use Rattle.chip.specs.Clock.{chip_clock}
use Rattle.chip.specs.Range.{in_range, Bytes}
use Rattle.chip.specs.declared.State.{State}
use Rattle.chip.proofs.RangeLaws.{StateRanged, state_in_lem, clock_kept}
use Rattle.leap_line.specs.Until.{within}
use Rattle.leap_line.proofs.CountLaws.{Counts, Size, none, one, more, size, within_more, within_one, within_never, within_none}
use Rattle.leap_line.proofs.LineLaws.{frame_flag_counts, dmc_flag_counts, line_counts}
use Rattle.run_answer.specs.Run.{number}
use Rattle.run_answer.proofs.AnswerLaws.{number_fine}
use Rattle.run_interrupt.specs.Next.{holds, later, first_in, next_interrupt}
use Rattle.run_interrupt.specs.Closed.{until_of, rise_in}
use Rattle.run_interrupt.specs.declared.Asked.{Asked}
use Rattle.run_interrupt.specs.declared.Asked.TheVariants.{Line, Frame, Dmc}
use Rattle.run_interrupt.specs.declared.Rise.{Rise}
use Rattle.run_interrupt.specs.declared.Rise.TheVariants.{At, Never}

-- ONE CLOCK, whatever is asked for
asked_counts : (a : Asked) (memory : List ℕ) (s : State) → StateRanged s
    → Counts (until_of a s) (holds a s) (holds a (chip_clock memory s)) (until_of a (chip_clock memory s))
unfolding holds until_of
asked_counts Line memory s h = line_counts memory s h
asked_counts Frame memory s h = frame_flag_counts memory s
asked_counts Dmc memory s h = dmc_flag_counts memory s h

-- what is answered of a flag that is f now, u clocks before it is set
abbrev risen : Bool → ℕ → ℕ → Rise
risen f u n = pick f (At 0) (rise_in u n)

risen_none : (f : Bool) (u : ℕ) → pick f (At 0) Never ≡ risen f u 0
unfolding rise_in
risen_none f u = rw (within_none u)

-- a clock, and what is left
risen_on : (f f' : Bool) (u u' n : ℕ) → Counts u f f' u' → pick f (At 0) (later (risen f' u' n)) ≡ risen f u (suc n)
unfolding rise_in later
risen_on true f' u u' n c = refl
risen_on false f' u u' n c = go (size u)
  where
    go : Size u → later (pick f' (At 0) (pick (within u' n) (At u') Never)) ≡ pick (within u (suc n)) (At u) Never
    go (none e) = rw (c.else (λ z. omega arith), within_never u' n (c.never e), within_never u (suc n) e)
    go (one e) = rw (c.now e, within_one u n e) (ap At (omega arith))
    go (more h) = rw (c.else (λ z. omega arith), within_more n h (c.on h)) (by (within u (suc n)))
      where
        by : (b : Bool) → later (pick b (At u') Never) ≡ pick b (At u) Never
        by true = ap At (omega (arith, c.on h))
        by false = refl

firsts : (a : Asked) (memory : List ℕ) → Bytes memory → (n : ℕ) (s : State) → StateRanged s
    → first_in a memory n s ≡ risen (holds a s) (until_of a s) n
unfolding first_in
firsts a memory bytes zero s h = risen_none (holds a s) (until_of a s)
firsts a memory bytes (suc n) s h =
    ap (λ (r : Rise). pick (holds a s) (At 0) (later r)) (firsts a memory bytes n (chip_clock memory s) (clock_kept memory bytes s h))
    ∙ risen_on (holds a s) (holds a (chip_clock memory s)) (until_of a s) (until_of a (chip_clock memory s)) n (asked_counts a memory s h)

-- THE FIRST CLOCK, clock by clock, is now or the one that `until_of` says
pub first_is : (a : Asked) (memory : List ℕ) → Bytes memory → (n : ℕ) (s : State) → in_range s ≡ true
    → first_in a memory n s ≡ pick (holds a s) (At 0) (rise_in (until_of a s) n)
first_is a memory bytes n s h = firsts a memory bytes n s (state_in_lem s h)

-- AND SO IS WHAT IS ANSWERED, where nothing is refused
pub next_is : (a : Asked) (memory : List ℕ) → Bytes memory → (s : State) (count : ℕ) → number memory s count ≡ 0
    → next_interrupt a memory s count ≡ pick (holds a s) (At 0) (rise_in (until_of a s) count)
unfolding next_interrupt
next_is a memory bytes s count e = rw (eq-eqb _ 0 e) (first_is a memory bytes count s (number_fine memory s count e).1)

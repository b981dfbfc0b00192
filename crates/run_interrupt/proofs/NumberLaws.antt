-- The number and the clocks of an answer. Assumes nothing.
use Prim.Native.Nat.{ℕ, zero, suc}
use mathlib.Core.Path.{◌≡◌, refl, sym, ◌∙◌}
use mathlib.Core.Bool.{Bool, true, false}
use mathlib.Core.List.{List}
use lib.Dec.{eqb}
use borrow.Author.Tests.{eqb-true}
use Rattle.arith.specs.Pick.{pick}
use Rattle.chip.specs.Clock.{chip_clock}
use Rattle.chip.specs.declared.State.{State}
use Rattle.run_answer.specs.Run.{number}
use Rattle.run_interrupt.specs.declared.Asked.{Asked}
use Rattle.run_interrupt.specs.declared.Rise.{Rise}
use Rattle.run_interrupt.specs.declared.Rise.TheVariants.{At, Never, Refused}
use Rattle.run_interrupt.specs.Next.{holds, later, first_in, next_interrupt, rise_number, rise_clocks, clocks_to}

later_number : (r : Rise) → rise_number (later r) ≡ rise_number r
unfolding later
later_number (At k) = refl
later_number Never = refl
later_number (Refused n) = refl

-- the first clock is no refusal
first_number_lem : (a : Asked) (memory : List ℕ) (n : ℕ) (s : State) → rise_number (first_in a memory n s) ≡ 0
unfolding first_in
first_number_lem a memory zero s = by (holds a s)
  where
    by : (b : Bool) → rise_number (pick b (At 0) Never) ≡ 0
    by true = refl
    by false = refl
first_number_lem a memory (suc n) s =
    by (holds a s) (first_in a memory n (chip_clock memory s)) (first_number_lem a memory n (chip_clock memory s))
  where
    by : (b : Bool) (r : Rise) → rise_number r ≡ 0 → rise_number (pick b (At 0) (later r)) ≡ 0
    by true r e = refl
    by false r e = later_number r ∙ e

module _ (a : Asked) (memory : List ℕ) (s : State) (count : ℕ) where
  numbers : (rise_number (next_interrupt a memory s count) ≡ number memory s count) × (rise_clocks (next_interrupt a memory s count) ≡ clocks_to a memory s count)
  unfolding next_interrupt clocks_to
  numbers = by (number memory s count) (eqb (number memory s count) 0) refl (first_in a memory count s) (first_number_lem a memory count s)
    where
      by : (n : ℕ) (b : Bool) → eqb n 0 ≡ b → (r : Rise) → rise_number r ≡ 0
          → (rise_number (pick b r (Refused n)) ≡ n) × (rise_clocks (pick b r (Refused n)) ≡ pick b (rise_clocks r) 0)
      by n true e r z = (z ∙ sym (eqb-true n 0 e), refl)
      by n false e r z = (refl, refl)

  -- of an answer that is the definition's
  pub rise_numbers : (r : Rise) → r ≡ next_interrupt a memory s count
      → (r ≡ next_interrupt a memory s count) × ((rise_number r ≡ number memory s count) × (rise_clocks r ≡ clocks_to a memory s count))
  rise_numbers r e = (e, rw e numbers)

-- What an answer says of the plain clock: the least clock, none before, and from there on it stays. Assumes nothing.
use Prim.Native.Nat.{ℕ, zero, suc, ◌≤◌, ◌<◌}
use mathlib.Core.Path.{◌≡◌, refl, ◌∙◌}
use mathlib.Core.Bool.{Bool, true, false}
use mathlib.Core.List.{List}
use native.Mathlib.Numerals.{add-one}
use native.Mathlib.Omega.{arith}
use Rattle.arith.specs.Iterate.{iterate}
use Rattle.arith.specs.Pick.{pick}
use Rattle.arith.proofs.IterateLaws.{iterate_keeps}
use Rattle.arith.proofs.PickLaws.{pick_both}
use Rattle.chip.specs.Clock.{chip_clock}
use Rattle.chip.specs.declared.State.{State}
use Rattle.leap_line.proofs.LineLaws.{frame_stays, dmc_stays, line_stays}
use Rattle.run_interrupt.specs.Next.{holds, later, first_in, rise_number, First, Says, Rises}
use Rattle.run_interrupt.specs.declared.Asked.{Asked}
use Rattle.run_interrupt.specs.declared.Asked.TheVariants.{Line, Frame, Dmc}
use Rattle.run_interrupt.specs.declared.Rise.{Rise}
use Rattle.run_interrupt.specs.declared.Rise.TheVariants.{At, Never, Refused}

-- no clock clears a flag
stays : (a : Asked) (memory : List ℕ) (s : State) → holds a s ≡ true → holds a (chip_clock memory s) ≡ true
unfolding holds
stays Line memory s e = line_stays memory s e
stays Frame memory s e = frame_stays memory s e
stays Dmc memory s e = dmc_stays memory s e

module _ (a : Asked) (memory : List ℕ) where
  abbrev on : ℕ → State → State
  on = iterate (chip_clock memory)

  at_once : (s : State) → holds a s ≡ true → First a memory s 0
  unfolding iterate
  at_once s e =
      record {
        there = e;
        not_before = λ j h. absurd (omega arith);
        from_there = λ j h. iterate_keeps (λ (x : State). holds a x ≡ true) (chip_clock memory) (stays a memory) j s e;
      }

  -- it doesn't hold now, and after a clock an answer says so: a clock earlier so does the next
  module _ (s : State) (clear : holds a s ≡ false) where
    before : (k : ℕ) → ((j : ℕ) → j < k → holds a (on j (chip_clock memory s)) ≡ false) → (j : ℕ) → j < suc k → holds a (on j s) ≡ false
    unfolding iterate
    before k f zero h = clear
    before k f (suc j) h = f j (omega arith)

    from : (k : ℕ) → ((j : ℕ) → k ≤ j → holds a (on j (chip_clock memory s)) ≡ true) → (j : ℕ) → suc k ≤ j → holds a (on j s) ≡ true
    unfolding iterate
    from k f zero h = absurd (omega arith)
    from k f (suc j) h = f j (omega arith)

    there : (k : ℕ) → holds a (on k (chip_clock memory s)) ≡ true → holds a (on (suc k) s) ≡ true
    unfolding iterate
    there k e = e

    earlier : (n : ℕ) (r : Rise) → Says a memory (chip_clock memory s) n r → Says a memory s (suc n) (later r)
    unfolding later
    earlier n (At k) (l, f) =
        rw (add-one k) (omega arith, record { there = there k f.there; not_before = before k f.not_before; from_there = from k f.from_there })
    earlier n Never f = λ j h. before (suc n) (λ i l. f i (omega arith)) j (omega arith)
    earlier n (Refused m) f = f

  none_now : (s : State) → holds a s ≡ false → Says a memory s 0 Never
  unfolding iterate
  none_now s clear zero h = clear
  none_now s clear (suc j) h = absurd (omega arith)

  says : (n : ℕ) (s : State) → Says a memory s n (first_in a memory n s)
  unfolding first_in
  says zero s = go (holds a s) refl
    where
      go : (b : Bool) → holds a s ≡ b → Says a memory s 0 (pick b (At 0) Never)
      go true e = (omega arith, at_once s e)
      go false e = none_now s e
  says (suc n) s = go (holds a s) refl (says n (chip_clock memory s))
    where
      go : (b : Bool) → holds a s ≡ b → Says a memory (chip_clock memory s) n (first_in a memory n (chip_clock memory s))
          → Says a memory s (suc n) (pick b (At 0) (later (first_in a memory n (chip_clock memory s))))
      go true e f = (omega arith, at_once s e)
      go false e f = earlier s e n (first_in a memory n (chip_clock memory s)) f

  later_number : (r : Rise) → rise_number (later r) ≡ rise_number r
  unfolding later
  later_number (At k) = refl
  later_number Never = refl
  later_number (Refused n) = refl

  -- what is found is no refusal
  pub first_number_lem : (n : ℕ) (s : State) → rise_number (first_in a memory n s) ≡ 0
  unfolding first_in
  first_number_lem zero s = pick_both (λ (r : Rise). rise_number r ≡ 0) (holds a s) refl refl
  first_number_lem (suc n) s =
      pick_both (λ (r : Rise). rise_number r ≡ 0) (holds a s) refl (later_number (first_in a memory n (chip_clock memory s)) ∙ first_number_lem n (chip_clock memory s))

-- EVERY ANSWER SAYS SO
pub rises : Rises
rises a memory s n = says a memory n s

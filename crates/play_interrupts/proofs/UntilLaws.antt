-- The clocks up to a change, by the next of each flag. Assumes nothing.
use Prim.Native.Nat.{ℕ, zero, suc, ◌+◌, ◌≤◌, min}
use mathlib.Core.Path.{◌≡◌, refl, ◌∙◌}
use mathlib.Core.Bool.{Bool, true, false}
use mathlib.Core.List.{List}
use native.Mathlib.Omega.{arith}
use borrow.Author.Tests.{eq-eqb, ne_eqb}
use lib.ListN.{length}
use Rattle.arith.specs.Pick.{pick, both}
use Rattle.chip.specs.Clock.{chip_clock}
use Rattle.chip.specs.Range.{in_range}
use Rattle.chip.specs.declared.State.{State}
use Rattle.leap_line.proofs.LineLaws.{frame_stays, dmc_stays, line_stays}
use Rattle.run_answer.proofs.AnswerLaws.{number_none}
use Rattle.run_interrupt.specs.declared.Asked.{Asked}
use Rattle.run_interrupt.specs.declared.Asked.TheVariants.{Line, Frame, Dmc}
use Rattle.run_interrupt.specs.declared.Rise.{Rise}
use Rattle.run_interrupt.specs.declared.Rise.TheVariants.{At, Never, Refused}
use Rattle.run_interrupt.specs.Next.{holds, later, first_in, next_interrupt}
use Rattle.play_interrupts.specs.Changes.{flags_of, same, same_flags}
use Rattle.play_interrupts.specs.Closed.{rise_or, least_rise}
use Rattle.play_interrupts.specs.Stepping.{until_change}

-- no clock clears a flag
stays : (a : Asked) (memory : List ℕ) (s : State) → holds a s ≡ true → holds a (chip_clock memory s) ≡ true
unfolding holds
stays Line memory s e = line_stays memory s e
stays Frame memory s e = frame_stays memory s e
stays Dmc memory s e = dmc_stays memory s e

-- a clock earlier, of an answer that isn't now
earlier : (r : Rise) (n : ℕ) → rise_or (later (later r)) (suc n) ≡ suc (rise_or (later r) n)
unfolding rise_or later
earlier (At k) n =
    rw (ne_eqb (k + 1 + 1) 0 (λ z. omega arith), ne_eqb (k + 1) 0 (λ z. omega arith)) (omega arith)
earlier Never n = refl
earlier (Refused m) n = refl

module _ (a : Asked) (memory : List ℕ) where
  -- the clocks up to the one that sets it; n where there is none
  abbrev to : ℕ → State → ℕ
  to n s = rise_or (first_in a memory n s) n

  to_none : (s : State) → to 0 s ≡ 0
  unfolding first_in rise_or
  to_none s = by (holds a s)
    where
      by : (b : Bool) → rise_or (pick b (At 0) Never) 0 ≡ 0
      by true = refl
      by false = refl

  first_now : (n : ℕ) (s : State) → holds a s ≡ true → first_in a memory n s ≡ At 0
  unfolding first_in
  first_now zero s e = rw e refl
  first_now (suc n) s e = rw e refl

  to_later : (n : ℕ) (s : State) → holds a s ≡ false → rise_or (later (first_in a memory n s)) (suc n) ≡ suc (to n s)
  unfolding first_in rise_or later
  to_later zero s e = rw e refl
  to_later (suc n) s e = rw e (earlier (first_in a memory n (chip_clock memory s)) (suc n))

  -- ONE CLOCK
  to_on : (n : ℕ) (s : State) → to (suc n) s ≡ pick (same (holds a s) (holds a (chip_clock memory s))) (suc (to n (chip_clock memory s))) 1
  unfolding first_in rise_or later
  to_on n s = go (holds a s) (holds a (chip_clock memory s)) refl refl
    where
      go : (b d : Bool) → holds a s ≡ b → holds a (chip_clock memory s) ≡ d
          → rise_or (pick b (At 0) (later (first_in a memory n (chip_clock memory s)))) (suc n) ≡ pick (same b d) (suc (to n (chip_clock memory s))) 1
      go true true e f = rw (first_now n (chip_clock memory s) f) refl
      go true false e f = let z = stays a memory s e in let y : true ≡ false = cc in absurd (let x : ◌≡◌ {A = ℕ} 0 1 = cc in omega arith)
      go false true e f = rw (first_now n (chip_clock memory s) f) refl
      go false false e f = to_later n (chip_clock memory s) f

-- the least of three
three : (a b c : Bool) (x y z : ℕ)
    → min (min (pick a (suc x) 1) (pick b (suc y) 1)) (pick c (suc z) 1) ≡ pick (both a (both b c)) (suc (min (min x y) z)) 1
three true true true x y z = omega arith
three true true false x y z = omega arith
three true false true x y z = omega arith
three true false false x y z = omega arith
three false true true x y z = omega arith
three false true false x y z = omega arith
three false false true x y z = omega arith
three false false false x y z = omega arith

module _ (memory : List ℕ) where
  least_is : (n : ℕ) (s : State) → min (min (to Frame memory n s) (to Dmc memory n s)) (to Line memory n s) ≡ until_change memory n s
  unfolding until_change same_flags flags_of holds
  least_is zero s = rw (to_none Frame memory s, to_none Dmc memory s, to_none Line memory s) refl
  least_is (suc n) s =
      let s' = chip_clock memory s in
      rw (to_on Frame memory n s, to_on Dmc memory n s, to_on Line memory n s)
      (three (same (holds Frame s) (holds Frame s')) (same (holds Dmc s) (holds Dmc s')) (same (holds Line s) (holds Line s'))
      (to Frame memory n s') (to Dmc memory n s') (to Line memory n s')
      ∙ rw (least_is n s') refl)

  -- THE LEAST OF THE THREE ANSWERS is the clocks up to the first change
  pub until_is : (n : ℕ) (s : State) → length memory ≡ 32768 → in_range s ≡ true → n ≤ 1000000 → least_rise memory n s ≡ until_change memory n s
  unfolding least_rise next_interrupt
  until_is n s long fine low = rw (eq-eqb _ 0 (number_none memory s n long fine low)) (least_is n s)

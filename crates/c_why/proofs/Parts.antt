-- Number and value can be had again from the one number, and tell every answer from every other. Assumes nothing.
use Prim.Native.Nat.{ℕ, ◌+◌, ◌-◌, ◌/◌, ◌%◌, ◌^◌, ◌≤◌}
use mathlib.Core.Path.{◌≡◌, refl}
use mathlib.Core.Bool.{false}
use native.Mathlib.Omega.{arith}
use lib.Dec.{leb, eqb}
use borrow.Author.Tests.{le-leb}
use Rattle.arith.specs.Pick.{pick, either}
use Rattle.arith.proofs.PickLaws.{pick_both}
use Rattle.chip.specs.Range.{in_range}
use Rattle.chip.specs.declared.State.{State}
use Rattle.chip_why.specs.Why.{why_answer}
use Rattle.chip_why.specs.Value.{reason_number, why_number}
use Rattle.chip_why.specs.declared.Reason.{Reason}
use Rattle.chip_why.specs.declared.Reason.TheVariants.{Refused, NotEnabled, LengthZero, PeriodLow, TargetHigh, StepLow, VolumeZero, Sounds}
use Rattle.chip_why.proofs.Numbers.{refusals, nought, never_nought}
use Rattle.c_why.specs.Packed.{value_of, why_packed}

number_most : (channel : ℕ) (s : State) → reason_number (why_answer channel s) ≤ 24
unfolding why_number
number_most channel s =
    let P : ℕ → Type 0 = λ k. k ≤ 24 in
    rw (refusals channel s)
    (pick_both P (in_range s) (pick_both P (either (eqb channel 0) (either (eqb channel 1) (eqb channel 3))) (omega arith) (omega arith)) (omega arith))

-- THE PARTS OF AN ANSWER
pub apart : (channel : ℕ) (s : State)
    → let r = why_answer channel s in
    (why_packed r % 2 ^ 8 ≡ reason_number r) × (why_packed r / 2 ^ 8 ≡ value_of r)
apart channel s = let h = number_most channel s in (omega arith, omega arith)

-- an answer, from its number and its value
abbrev reason_of : ℕ → ℕ → Reason
reason_of number value =
    pick (eqb number 0)
    (pick (leb 16 value) (Sounds (value - 16))
    (pick (eqb value 1) NotEnabled
    (pick (eqb value 2) LengthZero
    (pick (eqb value 3) PeriodLow
    (pick (eqb value 4) TargetHigh (pick (eqb value 5) StepLow VolumeZero))))))
    (Refused number)

told_apart : (r : Reason) → nought r ≡ false → reason_of (reason_number r) (value_of r) ≡ r
told_apart (Refused n) h = rw h
told_apart NotEnabled h = refl
told_apart LengthZero h = refl
told_apart PeriodLow h = refl
told_apart TargetHigh h = refl
told_apart StepLow h = refl
told_apart VolumeZero h = refl
told_apart (Sounds n) h =
    let e : 16 + n - 16 ≡ n = omega arith in
    rw (le-leb 16 (16 + n) (omega arith), e)

-- THE ANSWER CAN BE HAD AGAIN WHOLE
pub told : (channel : ℕ) (s : State)
    → let r = why_answer channel s in
    reason_of (why_packed r % 2 ^ 8) (why_packed r / 2 ^ 8) ≡ r
told channel s = rw ((apart channel s).0, (apart channel s).1) (told_apart (why_answer channel s) (never_nought channel s))

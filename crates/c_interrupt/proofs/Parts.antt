-- Each part of the number can be had again. Assumes nothing.
use Prim.Native.Nat.{ℕ, ◌/◌, ◌%◌, ◌^◌, ◌≤◌}
use mathlib.Core.Path.{◌≡◌}
use mathlib.Core.List.{List}
use native.Mathlib.Omega.{arith}
use lib.Dec.{eqb, leb}
use Rattle.arith.proofs.PickLaws.{pick_both}
use Rattle.chip.specs.Range.{in_range}
use Rattle.chip.specs.declared.State.{State}
use Rattle.chip_api.specs.Answer.{is_memory}
use Rattle.run_answer.specs.Run.{number}
use Rattle.run_interrupt.specs.Next.{next_interrupt, rise_number, rise_clocks}
use Rattle.run_interrupt.specs.declared.Asked.{Asked}
use Rattle.run_interrupt.specs.declared.Rise.{Rise}
use Rattle.run_interrupt.specs.declared.Rise.TheVariants.{At, Never, Refused}
use Rattle.run_interrupt.proofs.RiseLaws.{first_number_lem}
use Rattle.c_interrupt.specs.Packed.{found_flag, rise_packed}

run_most : (memory : List ℕ) (s : State) (count : ℕ) → number memory s count ≤ 3
unfolding number
run_most memory s count =
    let P : ℕ → Type 0 = λ k. k ≤ 3 in
    pick_both P (is_memory memory) (pick_both P (in_range s) (pick_both P (leb count 1_000_000) (omega arith) (omega arith)) (omega arith)) (omega arith)

next_most : (a : Asked) (memory : List ℕ) (s : State) (count : ℕ) → rise_number (next_interrupt a memory s count) ≤ 3
unfolding next_interrupt
next_most a memory s count =
    pick_both (λ (r : Rise). rise_number r ≤ 3) (eqb (number memory s count) 0) (let e = first_number_lem a memory count s in omega arith)
    (run_most memory s count)

found_most : (r : Rise) → found_flag r ≤ 1
found_most (At k) = omega arith
found_most Never = omega arith
found_most (Refused n) = omega arith

-- THE PARTS: the low 8 bits are the number, the next 24 whether there is such a clock, those above the clocks
pub apart : (a : Asked) (memory : List ℕ) (s : State) (count : ℕ)
    → let r = next_interrupt a memory s count in
    (rise_packed r % 2 ^ 8 ≡ rise_number r) × ((rise_packed r / 2 ^ 8 % 2 ^ 24 ≡ found_flag r) × (rise_packed r / 2 ^ 32 ≡ rise_clocks r))
apart a memory s count =
    let n = next_most a memory s count in
    let f = found_most (next_interrupt a memory s count) in
    (omega arith, (omega arith, omega arith))

-- The words have 60 bytes at most. Assumes nothing.
use Prim.Native.Nat.{ℕ, ◌≤◌}
use mathlib.Core.List.{List}
use native.Mathlib.Omega.{arith}
use Rattle.arith.proofs.PickLaws.{pick_both}
use Rattle.text_print.specs.Printed.{fits, placed}
use Rattle.perch_reasons.specs.Reasons.{reason_text}
use Rattle.perch_reasons.proofs.Sizes.{reason_size}

pub reason_fits : (number : ℕ) (text : List ℕ) → placed text 0 (reason_text number) ≤ 60
unfolding placed
reason_fits number text =
    let s = reason_size number in
    pick_both (λ (n : ℕ). n ≤ 60) (fits text 0 (reason_text number)) (omega arith) (omega arith)

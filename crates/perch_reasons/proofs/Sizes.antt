-- How long the words are. Assumes nothing.
use Prim.Native.Nat.{ℕ, ◌≤◌}
use mathlib.Core.List.{List}
use lib.Dec.{eqb, lit≤}
use lib.ListN.{length}
use Rattle.arith.proofs.PickLaws.{pick_both}
use Rattle.perch_reasons.specs.Reasons.{reason_text}

abbrev Short : List ℕ → Type 0
Short s = length s ≤ 60

pub reason_size : (n : ℕ) → length (reason_text n) ≤ 60
unfolding reason_text
reason_size n =
    pick_both Short (eqb n 1) (lit≤ tt)
    (pick_both Short (eqb n 2) (lit≤ tt)
    (pick_both Short (eqb n 3) (lit≤ tt)
    (pick_both Short (eqb n 4) (lit≤ tt)
    (pick_both Short (eqb n 5) (lit≤ tt)
    (pick_both Short (eqb n 7) (lit≤ tt)
    (pick_both Short (eqb n 8) (lit≤ tt)
    (pick_both Short (eqb n 9) (lit≤ tt)
    (pick_both Short (eqb n 10) (lit≤ tt)
    (pick_both Short (eqb n 11) (lit≤ tt)
    (pick_both Short (eqb n 12) (lit≤ tt)
    (pick_both Short (eqb n 13) (lit≤ tt)
    (pick_both Short (eqb n 14) (lit≤ tt)
    (pick_both Short (eqb n 15) (lit≤ tt)
    (pick_both Short (eqb n 16) (lit≤ tt)
    (pick_both Short (eqb n 17) (lit≤ tt)
    (pick_both Short (eqb n 18) (lit≤ tt)
    (pick_both Short (eqb n 19) (lit≤ tt)
    (pick_both Short (eqb n 20) (lit≤ tt)
    (pick_both Short (eqb n 21) (lit≤ tt)
    (pick_both Short (eqb n 22) (lit≤ tt)
    (pick_both Short (eqb n 23) (lit≤ tt)
    (pick_both Short (eqb n 24) (lit≤ tt)
    (pick_both Short (eqb n 25) (lit≤ tt)
    (pick_both Short (eqb n 26) (lit≤ tt)
    (pick_both Short (eqb n 27) (lit≤ tt)
    (pick_both Short (eqb n 28) (lit≤ tt)
    (pick_both Short (eqb n 29) (lit≤ tt)
    (pick_both Short (eqb n 30) (lit≤ tt)
    (pick_both Short (eqb n 31) (lit≤ tt)
    (pick_both Short (eqb n 32) (lit≤ tt)
    (pick_both Short (eqb n 33) (lit≤ tt)
    (pick_both Short (eqb n 34) (lit≤ tt)
    (pick_both Short (eqb n 35) (lit≤ tt)
    (pick_both Short (eqb n 36) (lit≤ tt)
    (lit≤ tt)))))))))))))))))))))))))))))))))))

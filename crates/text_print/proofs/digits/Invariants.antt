-- The loop's invariant: what is left to be stored makes the whole; a turn stores two digits, `fill_pair`. Assumes nothing.
use Prim.Native.Nat.{◌≤◌}
use mathlib.Core.Path.{◌≡◌}
use lib.ListN.{length}
use lib.Seq.{sets}
use Rattle.text_print.specs.Printed.{digits_in}
use Rattle.text_print.proofs.digits.Given as goal

abbrev pub invariant-loop-i : goal.invariant-loop-i
invariant-loop-i l =
    (l.i ≤ l.k) × (length l.out ≡ length l.initial.out) × (sets l.out l.at (digits_in l.i l.left) ≡ sets l.initial.out l.at (digits_in l.k l.n))

abbrev pub decreases-loop-i : goal.decreases-loop-i
decreases-loop-i l = l.i

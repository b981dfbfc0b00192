-- The loop's invariant: what stands behind the digits passed, which say n, decides the rest. Assumes nothing.
use Prim.Native.Nat.{◌+◌, ◌≤◌}
use mathlib.Core.Path.{◌≡◌}
use lib.ListN.{drop}
use Rattle.log_form.specs.Forms.{goes_on, reach}
use Rattle.log_form.proofs.number_from.Given as goal

abbrev pub invariant-loop-i : goal.invariant-loop-i
invariant-loop-i l = (l.n ≤ l.hi) × (reach (goes_on l.lo l.hi l.first) l.s ≡ l.i + reach (goes_on l.lo l.hi l.n) (drop l.i l.s))

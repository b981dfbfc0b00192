-- The loop's invariant: the bytes passed suit, and what is left of both decides the rest. Assumes nothing.
use Prim.Native.Nat.{◌+◌}
use mathlib.Core.Path.{◌≡◌}
use lib.ListN.{drop}
use Rattle.log_form.specs.Matching.{common}
use Rattle.log_form.proofs.common_bytes.Given as goal

abbrev pub invariant-loop-i : goal.invariant-loop-i
invariant-loop-i l = common l.form l.l ≡ l.i + common (drop l.i l.form) (drop l.i l.l)

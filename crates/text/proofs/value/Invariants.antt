-- The loop's invariant: what is left, behind the number so far, says what all of s says. Assumes nothing.
use Prim.Native.Nat.{◌≤◌}
use mathlib.Core.Path.{◌≡◌}
use lib.ListN.{drop}
use Rattle.text.specs.Numbers.{capped}
use Rattle.text.specs.Decimal.{digits}
use Rattle.text.proofs.value.Given as goal

abbrev pub invariant-loop-c : goal.invariant-loop-c
invariant-loop-c l = (l.n ≤ 4294967296) × (capped (digits 0 l.s) ≡ capped (digits l.n (drop l.c-index l.s)))

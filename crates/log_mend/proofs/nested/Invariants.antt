-- The loop's invariant: the rest of the lines leads from what is carried to what all lines lead to; a turn is `nest_on`. Assumes nothing.
use Prim.Native.Nat.{◌-◌, ◌≤◌}
use mathlib.Core.Path.{◌≡◌}
use lib.ListN.{length}
use Rattle.log_rules.specs.Lines.{lines_of}
use Rattle.log_rules.proofs.JudgeLaws.{lines_from}
use Rattle.log_mend.specs.Nesting.{no_nest, nest_lines}
use Rattle.log_mend.proofs.nested.Given as goal

abbrev pub invariant-loop-at : goal.invariant-loop-at
invariant-loop-at l = (l.at ≤ length l.log) × (l.s.depth ≤ l.at) × (nest_lines l.want 0 (lines_of l.log) no_nest ≡ nest_lines l.want l.at (lines_from l.log l.at) l.s)

abbrev pub decreases-loop-at : goal.decreases-loop-at
decreases-loop-at l = length l.log - l.at

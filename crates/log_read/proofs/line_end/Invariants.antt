-- The loop's invariant: the line from `at` ends where the line from i does; a turn is `len_more`, the end `len_feed` or `len_none`. Assumes nothing.
use Rattle.std.proofs.Common.{◌≡◌, ◌≤◌, length, max}
use Rattle.log_rules.specs.Lines.{next_line}
use Rattle.log_read.proofs.line_end.Given as goal

abbrev pub invariant-loop-i : goal.invariant-loop-i
invariant-loop-i l = (next_line l.log l.at ≡ next_line l.log l.i) × (l.i ≤ max l.at (length l.log))

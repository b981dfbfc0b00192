use Rattle.perch_vcd.specs.Text.{head_text}
use Rattle.lines_stdout.proofs.PourLaws.{writes_cut, writes_two}
use Rattle.vcd_stdout.proofs.traced.Goals as goal

pub returns-then-not-head : goal.returns-then-not-head
returns-then-not-head c = writes_cut head_text _ (rw c.if-not-head.true at c.head.ensures)

pub returns : goal.returns
returns c = writes_two head_text _ c.events.result (rw c.if-not-head.false at c.head.ensures) c.events.ensures

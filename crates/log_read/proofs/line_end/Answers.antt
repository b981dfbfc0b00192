use Rattle.std.proofs.Common.{arith}
use Rattle.log_rules.proofs.PlaceLaws.{len_feed, len_more, len_none}
use Rattle.log_rules.specs.Lines.{next_line}
use Rattle.log_read.proofs.line_end.Goals as goal

pub returns-then-log-i-eq10 : goal.returns-then-log-i-eq10
unfolding next_line
returns-then-log-i-eq10 c =
    let log = c.args.log.now in
    let i = c.loop-i.i in
    let f = len_feed log i (omega arith) c.if-log-i-eq10.true in
    omega arith

pub loop-i-preserved : goal.loop-i-preserved
unfolding next_line
loop-i-preserved c =
    let log = c.args.log.now in
    let i = c.loop-i.i in
    let f = len_more log i (omega arith) c.if-log-i-eq10.false in
    (omega arith, omega arith)

pub returns : goal.returns
unfolding next_line
returns c =
    let log = c.args.log.now in
    let i = c.loop-i.i in
    let f = len_none log i (omega arith) in
    omega arith

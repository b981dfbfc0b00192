use mathlib.Core.Path.{sym}
use native.Mathlib.Omega.{arith}
use Rattle.c_import.proofs.Apart.{value_done, value_refused}
use Rattle.c_import.proofs.value_of.Goals as goal

pub returns-then-a-eq0 : goal.returns-then-a-eq0
returns-then-a-eq0 c =
    let short = c.requires c.if-a-eq0.true in
    (sym (value_done c.args.a c.if-a-eq0.true), omega arith)

pub returns : goal.returns
returns c = (sym (value_refused c.args.a c.if-a-eq0.false), omega arith)

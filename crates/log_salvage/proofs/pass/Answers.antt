use borrow.Author.Tests.{lt-ltb, le-ltb}
use Rattle.log_salvage.proofs.EndLaws.{passed}
use Rattle.log_salvage.proofs.pass.Goals as goal

pub returns-then-t-gt2000000000 : goal.returns-then-t-gt2000000000
returns-then-t-gt2000000000 c =
    let a = c.args in
    let s = c.sift-s in
    let shut = c.close-closed in
    let e = c.end-ended in
    passed a.log.now a.out.now a.list.now _ _ s.result s.ensures.sifts _ _ _ shut.ensures.by_index _ _ _ e.ensures _ (rw (lt-ltb _ _ c.if-t-gt2000000000.true))

pub returns-else-t-gt2000000000 : goal.returns-else-t-gt2000000000
returns-else-t-gt2000000000 c =
    let a = c.args in
    let s = c.sift-s in
    let shut = c.close-closed in
    let e = c.end-ended in
    passed a.log.now a.out.now a.list.now _ _ s.result s.ensures.sifts _ _ _ shut.ensures.by_index _ _ _ e.ensures _ (rw (le-ltb _ _ c.if-t-gt2000000000.false))

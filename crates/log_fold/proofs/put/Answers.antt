use Rattle.text_print.proofs.PieceLaws.{put_last}
use Rattle.log_fold.proofs.MoveLaws.{move_plain, move_looped}
use Rattle.log_fold.proofs.put.Goals as goal

pub returns-then-c-eq0 : goal.returns-then-c-eq0
returns-then-c-eq0 c =
    let w = c.fixed in
    let e = move_plain c.args.c c.args.body.now c.if-c-eq0.true in
    rw e (put_last c.args.out.now c.args.to c.args.body.now w.new.out w.result (rw e at c.requires) w.ensures.value w.ensures.out_after)

pub put_loop-requires : goal.put_loop-requires
put_loop-requires c =
    rw (move_looped c.args.c c.args.body.now c.if-c-eq0.false) at c.requires

pub returns : goal.returns
returns c =
    rw (move_looped c.args.c c.args.body.now c.if-c-eq0.false) c.put_loop.ensures

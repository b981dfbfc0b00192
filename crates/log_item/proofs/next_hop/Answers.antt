-- The answers are the cases of `next_is` for what is read at the place: no item, an act, a loop, or another line by `next_other`. Assumes nothing.
use Rattle.std.proofs.Common.{arith}
use Rattle.log_rules.proofs.Descent.{answer_small}
use Rattle.log_item.proofs.HopLaws.{next_is, next_other}
use Rattle.log_item.proofs.next_hop.Goals as goal

pub returns-in_default : goal.returns-in_default
returns-in_default c =
    let h = rw (← c.read.ensures.value) at (next_is c.args.log.now c.args.at c.args.depth c.args.r c.requires.0 c.requires.1) in
    rw c.in_default.is at h

pub overflow_add-depth : goal.overflow_add-depth
overflow_add-depth c =
    let h = rw (← c.read.ensures.value) at (next_is c.args.log.now c.args.at c.args.depth c.args.r c.requires.0 c.requires.1) in
    let g = rw c.in-Loop.is at (rw c.in-Ok.is at h) in
    omega (arith, g.0)

pub inside-requires : goal.inside-requires
inside-requires c =
    let h = rw (← c.read.ensures.value) at (next_is c.args.log.now c.args.at c.args.depth c.args.r c.requires.0 c.requires.1) in
    let g = rw c.in-Loop.is at (rw c.in-Ok.is at h) in
    (rw c.read_block.ensures.value (answer_small _), omega arith, g.0)

pub returns-in-One : goal.returns-in-One
returns-in-One c =
    let h = rw (← c.read.ensures.value) at (next_is c.args.log.now c.args.at c.args.depth c.args.r c.requires.0 c.requires.1) in
    rw c.stay.ensures (rw c.in-One.is at (rw c.in-Ok.is at h))

pub returns-in-Loop : goal.returns-in-Loop
returns-in-Loop c =
    let h = rw (← c.read.ensures.value) at (next_is c.args.log.now c.args.at c.args.depth c.args.r c.requires.0 c.requires.1) in
    let g = rw c.in-Loop.is at (rw c.in-Ok.is at h) in
    rw (c.inside.ensures, c.from.ensures, c.read_block.ensures.value) g.1

pub returns-in_default-l : goal.returns-in_default-l
returns-in_default-l c =
    let h = rw (← c.read.ensures.value) at (next_is c.args.log.now c.args.at c.args.depth c.args.r c.requires.0 c.requires.1) in
    next_other c.args.log.now c.args.at c.args.depth c.args.r c.in-Ok.l c.in-Ok.next c.in_default-l.not-One c.in_default-l.not-Loop (rw c.in-Ok.is at h)

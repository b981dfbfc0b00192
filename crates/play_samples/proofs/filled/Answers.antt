use native.Mathlib.Omega.{arith}
use Rattle.play_samples.proofs.PenLaws.{slow}
use Rattle.play_samples.proofs.FillLaws.{filling_start, filling_bounded, filling_length, filling_room, filling_on, filling_end}
use Rattle.play_samples.proofs.filled.Goals as goal

pub loop-pen-init : goal.loop-pen-init
loop-pen-init c =
    let a = c.args in
    filling_start a.c a.out.now a.p a.v a.clocks c.requires.1

pub put_sample-requires : goal.put_sample-requires
put_sample-requires c =
    let l = c.loop-pen in
    let a = c.args in
    filling_room a.c a.out.now a.p a.v a.clocks l.out l.pen l.left (omega arith) l.invariant c.requires.0 c.loop-pen-test.true

pub overflow_add-at : goal.overflow_add-at
overflow_add-at c =
    let l = c.loop-pen in
    let a = c.args in
    let room = filling_room a.c a.out.now a.p a.v a.clocks l.out l.pen l.left (omega arith) l.invariant c.requires.0 c.loop-pen-test.true in
    let same = filling_length a.c a.out.now a.p a.v a.clocks l.out l.pen l.left (omega arith) l.invariant c.requires.0 in
    omega (arith, room, same, c.ranges)

pub next_pen-pen-requires : goal.next_pen-pen-requires
next_pen-pen-requires c =
    slow c.args.c c.requires.0.holding.paced

pub loop-pen-smaller : goal.loop-pen-smaller
loop-pen-smaller c =
    let l = c.loop-pen in
    let a = c.args in
    let b = filling_bounded a.c a.out.now a.p a.v a.clocks l.out l.pen l.left (omega arith) l.invariant c.requires.0 in
    omega (arith, b.some, c.loop-pen-test.true)

pub loop-pen-preserved : goal.loop-pen-preserved
loop-pen-preserved c =
    let l = c.loop-pen in
    let a = c.args in
    rw (c.next_pen-pen.ensures, c.put_sample.ensures)
    (filling_on a.c a.out.now a.p a.v a.clocks l.out l.pen l.left (omega arith) l.invariant c.loop-pen-test.true)

pub within-requires : goal.within-requires
within-requires c =
    let l = c.loop-pen in
    let a = c.args in
    (filling_bounded a.c a.out.now a.p a.v a.clocks l.out l.pen l.left (omega arith) l.invariant c.requires.0, omega (arith, c.loop-pen-test.false, l.invariant.fresh.all))

pub shape_of-out : goal.shape_of-out
shape_of-out c =
    let l = c.loop-pen in
    let a = c.args in
    filling_length a.c a.out.now a.p a.v a.clocks l.out l.pen l.left (omega arith) l.invariant c.requires.0

pub returns : goal.returns
returns c =
    let l = c.loop-pen in
    let a = c.args in
    rw c.within.ensures
    (filling_end a.c a.out.now a.p a.v a.clocks l.out l.pen l.left (omega arith) l.invariant c.loop-pen-test.false)

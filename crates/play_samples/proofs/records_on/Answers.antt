use native.Mathlib.Omega.{arith}
use Rattle.play_samples.proofs.RoomLaws.{fit_few}
use Rattle.play_samples.proofs.WriteLaws.{writes_length}
use Rattle.play_samples.proofs.MovingLaws.{moving_start, moving_on, moving_end}
use Rattle.play_samples.proofs.records_on.Goals as goal

pub pace_of-c-requires : goal.pace_of-c-requires
pace_of-c-requires c = c.requires.fit.right

pub pen_of-pen-requires : goal.pen_of-pen-requires
pen_of-pen-requires c = (c.requires.fit.right, c.requires.fit.order)

pub loop-i-init : goal.loop-i-init
loop-i-init c =
    let a = c.args in
    (omega arith, moving_start a.pal a.rate a.words.now a.n a.done c.requires.recorded a.out.now a.at a.a a.level (omega arith) c.requires.fit _ c.pen_of-pen.ensures.0 c.pen_of-pen.ensures.1)

pub overflow_mul-k : goal.overflow_mul-k
overflow_mul-k c = omega (arith, c.loop-i-test, c.requires.recorded.size)

pub overflow_add-j : goal.overflow_add-j
overflow_add-j c = omega (arith, c.loop-i-test, c.requires.recorded.size)

pub offset_bounds-words-k : goal.offset_bounds-words-k
offset_bounds-words-k c = omega (arith, c.loop-i-test, c.requires.recorded.size)

pub bounds-words-k : goal.bounds-words-k
bounds-words-k c = omega (arith, c.loop-i-test, c.requires.recorded.size)

pub overflow_sub-clock : goal.overflow_sub-clock
overflow_sub-clock c =
    let l = c.loop-i in
    let a = c.args in
    let o =
    moving_on a.pal a.rate a.words.now a.n a.done c.requires.recorded a.out.now a.at a.a a.level l.out l.pen l.v l.from l.i
    c.requires.done_in_bounds l.invariant.1 (omega (arith, c.loop-i-test)) in
    omega (arith, o.behind)

pub overflow_sub-clock-in-loop-i : goal.overflow_sub-clock-in-loop-i
overflow_sub-clock-in-loop-i c =
    let l = c.loop-i in
    let a = c.args in
    let o =
    moving_on a.pal a.rate a.words.now a.n a.done c.requires.recorded a.out.now a.at a.a a.level l.out l.pen l.v l.from l.i
    c.requires.done_in_bounds l.invariant.1 (omega (arith, c.loop-i-test)) in
    omega (arith, o.behind)

pub held_on-pen-requires : goal.held_on-pen-requires
held_on-pen-requires c =
    let l = c.loop-i in
    let a = c.args in
    let o =
    moving_on a.pal a.rate a.words.now a.n a.done c.requires.recorded a.out.now a.at a.a a.level l.out l.pen l.v l.from l.i
    c.requires.done_in_bounds l.invariant.1 (omega (arith, c.loop-i-test)) in
    rw c.pace_of-c.ensures o.roomy

pub offset_bounds-words-j : goal.offset_bounds-words-j
offset_bounds-words-j c = omega (arith, c.loop-i-test, c.requires.recorded.size, c.well_formed)

pub bounds-words-j : goal.bounds-words-j
bounds-words-j c = omega (arith, c.loop-i-test, c.requires.recorded.size)

pub overflow_cast-v : goal.overflow_cast-v
overflow_cast-v c =
    let l = c.loop-i in
    let a = c.args in
    let o =
    moving_on a.pal a.rate a.words.now a.n a.done c.requires.recorded a.out.now a.at a.a a.level l.out l.pen l.v l.from l.i
    c.requires.done_in_bounds l.invariant.1 (omega (arith, c.loop-i-test)) in
    omega (arith, o.small)

pub loop-i-preserved : goal.loop-i-preserved
loop-i-preserved c =
    let l = c.loop-i in
    let a = c.args in
    let o =
    moving_on a.pal a.rate a.words.now a.n a.done c.requires.recorded a.out.now a.at a.a a.level l.out l.pen l.v l.from l.i
    c.requires.done_in_bounds l.invariant.1 (omega (arith, c.loop-i-test)) in
    (omega (arith, c.loop-i-test), o.on _ _ (rw c.pace_of-c.ensures at c.held_on-pen.ensures))

pub overflow_sub-done : goal.overflow_sub-done
overflow_sub-done c =
    let l = c.loop-i in
    let a = c.args in
    let o =
    moving_end a.pal a.rate a.words.now a.n a.done c.requires.recorded a.out.now a.at a.a a.level l.out l.pen l.v l.from l.i
    c.requires.done_in_bounds l.invariant.1 (omega (arith, c.loop-i-test.false)) in
    o.most

pub held_on-last-requires : goal.held_on-last-requires
held_on-last-requires c =
    let l = c.loop-i in
    let a = c.args in
    let o =
    moving_end a.pal a.rate a.words.now a.n a.done c.requires.recorded a.out.now a.at a.a a.level l.out l.pen l.v l.from l.i
    c.requires.done_in_bounds l.invariant.1 (omega (arith, c.loop-i-test.false)) in
    rw c.pace_of-c.ensures o.roomy

pub written_by-requires : goal.written_by-requires
written_by-requires c =
    let l = c.loop-i in
    let a = c.args in
    let o =
    moving_end a.pal a.rate a.words.now a.n a.done c.requires.recorded a.out.now a.at a.a a.level l.out l.pen l.v l.from l.i
    c.requires.done_in_bounds l.invariant.1 (omega (arith, c.loop-i-test.false)) in
    let w = o.all _ _ (rw c.pace_of-c.ensures at c.held_on-last.ensures) in
    (omega (arith, c.requires.fit.early), fit_few a.pal a.rate a.a a.done c.requires.fit, omega (arith, w.place))

pub shape_of-out : goal.shape_of-out
shape_of-out c =
    let l = c.loop-i in
    let a = c.args in
    let o =
    moving_end a.pal a.rate a.words.now a.n a.done c.requires.recorded a.out.now a.at a.a a.level l.out l.pen l.v l.from l.i
    c.requires.done_in_bounds l.invariant.1 (omega (arith, c.loop-i-test.false)) in
    writes_length (o.all _ _ (rw c.pace_of-c.ensures at c.held_on-last.ensures))

pub returns : goal.returns
returns c =
    let l = c.loop-i in
    let a = c.args in
    let o =
    moving_end a.pal a.rate a.words.now a.n a.done c.requires.recorded a.out.now a.at a.a a.level l.out l.pen l.v l.from l.i
    c.requires.done_in_bounds l.invariant.1 (omega (arith, c.loop-i-test.false)) in
    rw c.written_by.ensures (o.all _ _ (rw c.pace_of-c.ensures at c.held_on-last.ensures))

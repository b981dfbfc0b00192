use Prim.Native.Nat.{◌-◌}
use mathlib.Core.Path.{refl}
use native.Mathlib.Omega.{arith}
use Rattle.run_levels.specs.Levels.{clocks_levels}
use Rattle.play_samples.proofs.WriteLaws.{ahead_start}
use Rattle.play_samples.proofs.RunLaws.{running_room, running_on, running_end}
use Rattle.play_samples.proofs.runs_on.Goals as goal

pub loop-left-init : goal.loop-left-init
loop-left-init c =
    let a = c.args in (
      refl,
      record {
        fine = c.requires.memory_len.1;
        fit = c.requires.fit;
        state = refl;
        ahead = ahead_start a.s.pal a.rate a.out.now 0 a.a (clocks_levels a.memory.now a.k a.s);
      },
    )

pub run_on-w-requires : goal.run_on-w-requires
run_on-w-requires c =
    let l = c.loop-left in
    let a = c.args in record { memory_len = (c.requires.memory_len.0, l.invariant.1.fine, omega (arith, l.invariant.0, c.requires.memory_len.2), c.loop-left-test.true); fit = l.invariant.1.fit; s_in_bounds = running_room a.memory.now a.s.pal a.rate a.k a.s a.out.now a.a l.out l.place l.sampler l.left l.state l.invariant.1 c.requires.s_in_bounds }

pub overflow_sub-left : goal.overflow_sub-left
overflow_sub-left c = c.run_on-w.ensures.done_nonzero.1

pub loop-left-smaller : goal.loop-left-smaller
loop-left-smaller c =
    let r = c.run_on-w.ensures.done_nonzero in
    omega (arith, r.0, r.1)

pub loop-left-preserved : goal.loop-left-preserved
loop-left-preserved c =
    let l = c.loop-left in
    let a = c.args in
    let r = c.run_on-w.ensures in
    (omega (arith, c.words-1.given, l.invariant.0), running_on a.memory.now a.s.pal a.rate a.k a.s a.out.now a.a l.out l.place l.sampler l.left l.state l.invariant.1 _ _ _ _ _ r.done_nonzero.1 r.done_nonzero.2 r.state_value r.writes)

pub shape_of-words : goal.shape_of-words
shape_of-words c = c.loop-left.invariant.0

pub shape_of-out : goal.shape_of-out
shape_of-out c = c.loop-left.invariant.1.ahead.size

pub returns : goal.returns
returns c =
    let l = c.loop-left in
    let a = c.args in
    let e = running_end a.memory.now a.s.pal a.rate a.k a.s a.out.now a.a l.out l.place l.sampler l.left l.state l.invariant.1 (omega (arith, c.loop-left-test.false)) in record { state_value = e.0; writes = e.1 }

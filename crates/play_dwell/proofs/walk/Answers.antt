use Prim.Native.Nat.{◌+◌, ◌-◌}
use mathlib.Core.Path.{◌≡◌, refl}
use native.Mathlib.Omega.{arith}
use Rattle.chip.specs.Range.{Bytes}
use Rattle.play_dwell.proofs.WalkLaws.{walk_start_lem, walk_few, walk_on, walk_left}
use Rattle.play_dwell.proofs.walk.Goals as goal

pub loop-init : goal.loop-init
loop-init c =
    (rw c.start-m.ensures (walk_start_lem c.args.log.now c.args.memory.now c.requires.log_value.0), refl)

pub met_on-d-requires : goal.met_on-d-requires
met_on-d-requires c =
    let l = c.loop in
    let p = c.step-w in
    let few = walk_few c.args.log.now c.args.memory.now l.m l.table (2000002 - l.counter) l.invariant.0 p.result p.ensures.value in record { memory_len = (c.requires.log_value.1, p.ensures.state_value l.invariant.0.ranged); counts_len = (l.invariant.0.size, few); in_bounds = omega (arith, l.invariant.1, c.requires.in_bounds) }

pub shape_of-words-then-d : goal.shape_of-words-then-d
shape_of-words-then-d c =
    let l = c.loop in
    omega (arith, c.words-1.given, l.invariant.1)

pub returns-then-d : goal.returns-then-d
returns-then-d c =
    let f = c.met_on-d in
    let p = c.step-w in
    let l = c.loop in
    let a = c.args in
    let bytes : Bytes a.memory.now = λ i. omega (arith, c.type_inv.memory i) in
    let w = walk_on a.log.now a.memory.now bytes l.m l.table (2000002 - l.counter) l.invariant.0 p.result p.ensures.value in
    (w f.result f.ensures.value f.ensures.state_value).over c.if-d.true

pub loop-preserved : goal.loop-preserved
loop-preserved c =
    let f = c.met_on-d in
    let p = c.step-w in
    let l = c.loop in
    let a = c.args in
    let bytes : Bytes a.memory.now = λ i. omega (arith, c.type_inv.memory i) in
    let w = walk_on a.log.now a.memory.now bytes l.m l.table (2000002 - l.counter) l.invariant.0 p.result p.ensures.value in
    let o = w f.result f.ensures.value f.ensures.state_value in
    let e : 2000002 - (l.counter + 1) ≡ 2000002 - l.counter - 1 = omega arith in (
      rw (c.moment_of-m.ensures, e) (o.on c.if-d.false p.result.moment.time),
      omega (arith, c.words-1.given, l.invariant.1),
    )

pub shape_of-words : goal.shape_of-words
shape_of-words c = c.loop.invariant.1

pub returns : goal.returns
returns c =
    let a = c.args in
    let l = c.loop in
    walk_left a.log.now a.memory.now l.m l.table (2000002 - l.counter) l.invariant.0 (omega (arith, c.loop-test.false))

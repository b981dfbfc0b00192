use mathlib.Core.Path.{refl}
use native.Mathlib.Omega.{arith}
use lib.ListN.{length}
use Rattle.log_rules.specs.Tree.{turns}
use Rattle.vgm_measure.specs.Measure.{count_said}
use Rattle.vgm_measure.proofs.BoundLaws.{stood_few, stood_more}
use Rattle.vgm_measure.proofs.count_said.Goals as goal

pub returns-in-Wait : goal.returns-in-Wait
unfolding count_said
returns-in-Wait c = let p = c.args.pal in
    let k = c.args.k in
    let q = c.requires.0 in
    let l = c.requires.1 in
    let f = stood_few p k.samples l.clocks in
    let b = stood_more p k.samples c.in-Wait.n in
    rw c.in-Wait.is (refl, record { samples = omega arith; clock = omega arith; turns = q.turns; length = q.length })

pub returns-in-Write : goal.returns-in-Write
unfolding count_said
returns-in-Write c = rw c.in-Write.is c.count_write.ensures

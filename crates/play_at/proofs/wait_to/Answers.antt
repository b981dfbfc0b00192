use Prim.Native.Nat.{◌-◌}
use mathlib.Core.Path.{refl, ◌∙◌}
use native.Mathlib.Omega.{arith}
use Rattle.play_walk.proofs.ClockLaws.{clocks_on_is}
use Rattle.play_at.proofs.WalkLaws.{cut_fine, whole_fine}
use Rattle.play_at.proofs.wait_to.Goals as goal

pub returns-then-left-wait : goal.returns-then-left-wait
returns-then-left-wait c =
    let a = c.args in
    let k = c.clocks_on-cut in let pair = cut_fine a.memory.now a.clock a.n a.m c.stand_of.result k.result c.requires.1 (omega (arith, c.if-left-wait.true, c.from-wait.ensures))
    (k.ensures.value ∙ clocks_on_is a.memory.now (a.clock - a.m.time) a.m.state c.requires.0 c.requires.1.ranged) (k.ensures.result_value c.requires.1.ranged) (c.stand_of.ensures ∙ rw c.moment_of.ensures refl) in record { value = pair.0; fine = pair.1 }

pub overflow_add-m : goal.overflow_add-m
overflow_add-m c = omega (arith, c.if-left-wait.false, c.requires.1.early, c.well_formed)

pub returns : goal.returns
returns c =
    let a = c.args in
    let k = c.clocks_on-next in
    let w = c.from-wait.ensures in let pair = whole_fine a.memory.now a.clock a.n a.m c.stand_of-2.result k.result c.requires.1 (omega (arith, c.if-left-wait.false, w))
    (k.ensures.value ∙ rw w (clocks_on_is a.memory.now a.n a.m.state c.requires.0 c.requires.1.ranged)) (k.ensures.result_value c.requires.1.ranged) (c.stand_of-2.ensures ∙ rw (c.moment_of-2.ensures, w) refl) in record { value = pair.0; fine = pair.1 }

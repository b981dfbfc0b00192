use Prim.Native.Nat.{◌-◌, min}
use mathlib.Core.Path.{◌≡◌, ◌∙◌, ap}
use native.Mathlib.Omega.{arith}
use Rattle.leap_law.specs.Frame.{before_step}
use Rattle.run_walk.proofs.SettleLaws.{roomy_less}
use Rattle.run_loops.specs.Leap.{stretch_end}
use Rattle.run_loops.proofs.StretchLaws.{stretch_most}
use Rattle.run.proofs.next_stretch.Goals as goal

pub overflow_sub-left : goal.overflow_sub-left
overflow_sub-left c = omega (arith, c.requires.le_left)

pub stretch_on-requires : goal.stretch_on-requires
unfolding stretch_end
stretch_on-requires c =
    let p = c.requires in
    let a = c.args in
    let m = stretch_most a.left a.s in
    let e : c.min-end.result ≡ min (a.left - 1) (before_step a.s) = c.min-end.ensures ∙ ap (min (a.left - 1)) c.before_step.ensures in record { s_value = p.s_value; end_bound = omega (arith, e, m); end_bound_2 = omega (arith, e, m, p.le_left); was_bound = p.was_bound; roomy = roomy_less a.memory.now a.s a.table.now a.left _ (omega (arith, e, m)) p.roomy }

pub returns : goal.returns
unfolding stretch_end
returns c =
    let a = c.args in
    let e : c.min-end.result ≡ stretch_end a.left a.s = c.min-end.ensures ∙ ap (min (a.left - 1)) c.before_step.ensures in record { stretched = rw (← e) c.stretch_on.ensures.stretched; table_after = c.stretch_on.ensures.table_after }

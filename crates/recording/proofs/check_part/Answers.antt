use mathlib.Core.Path.{◌∙◌}
use native.Mathlib.Omega.{arith}
use lib.ListN.{drop, length-drop}
use Rattle.text.proofs.KeyLaws.{take_rest}
use Rattle.vgm_blocks.proofs.LimitLaws.{judged_within}
use Rattle.recording.proofs.CheckLaws.{part_right, part_fault}
use Rattle.recording.proofs.check_part.Goals as goal

pub returns-then-number-eq0 : goal.returns-then-number-eq0
returns-then-number-eq0 c =
    let a = c.args in
    let e = rw (take_rest a.p a.b.now) at c.judge-f.ensures in
    c.check_commands.ensures ∙ part_right a.b.now a.p c.judge-f.result e c.if-number-eq0.true

pub overflow_add-p : goal.overflow_add-p
overflow_add-p c =
    let a = c.args in
    let e = rw (take_rest a.p a.b.now) at c.judge-f.ensures in
    rw e (omega (arith, (judged_within (drop a.p a.b.now) 0).place, length-drop a.p a.b.now, c.requires, c.well_formed))

pub returns : goal.returns
returns c =
    let a = c.args in
    let e = rw (take_rest a.p a.b.now) at c.judge-f.ensures in
    c.refused.ensures ∙ part_fault a.b.now a.p c.judge-f.result e c.if-number-eq0.false

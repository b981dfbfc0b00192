use mathlib.Core.Path.{◌≡◌, refl, sym, ◌∙◌}
use native.Mathlib.Omega.{arith}
use Rattle.vgm_cursor.specs.Walking.{command_at}
use Rattle.vgm_cursor.proofs.ReadLaws.{command_none, command_ended, command_fault, command_said, command_goes}
use Rattle.vgm_cursor.proofs.command_at.Goals as goal

pub loop-i-init : goal.loop-i-init
unfolding command_at
loop-i-init c = (omega arith, refl)

pub returns-in-End : goal.returns-in-End
returns-in-End c =
    command_ended c.args.file.now c.args.at c.loop-i.w c.loop-i.i (omega arith) _ c.step_of.ensures c.loop-i.invariant.1 c.in-End.is

pub returns-in-Fault : goal.returns-in-Fault
returns-in-Fault c =
    command_fault c.args.file.now c.args.at c.loop-i.w c.loop-i.i (omega arith) _ c.step_of.ensures c.loop-i.invariant.1 c.in-Fault.number c.in-Fault.is

pub returns-in-Says : goal.returns-in-Says
returns-in-Says c =
    command_said c.args.file.now c.args.at c.loop-i.w c.loop-i.i (omega arith) _ c.step_of.ensures c.loop-i.invariant.1 c.in-Says.s c.in-Says.is

pub loop-i-preserved : goal.loop-i-preserved
loop-i-preserved c = (
  omega arith,
  command_goes c.args.file.now c.args.at c.loop-i.w c.loop-i.i (omega arith) _ c.step_of.ensures c.loop-i.invariant.1 c.in-Next.v c.in-Next.is,
)

pub returns : goal.returns
returns c =
    let i : c.loop-i.i ≡ c.max.result = omega arith in
    rw (← i) (sym (command_none c.loop-i.w c.loop-i.i c.args.file.now (omega arith)) ∙ c.loop-i.invariant.1)

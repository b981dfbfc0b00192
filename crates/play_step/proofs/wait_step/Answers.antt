use mathlib.Core.Path.{refl, ◌∙◌}
use native.Mathlib.Omega.{arith}
use Prim.Native.Nat.{◌+◌, ◌<◌}
use Rattle.play_step.specs.Steps.{wait_taken, wait_text}
use Rattle.play_step.proofs.PortionLaws.{late_refused}
use Rattle.play_step.proofs.wait_step.Goals as goal

pub late_number-requires : goal.late_number-requires
late_number-requires c = omega (arith, c.if-from-gt2000000000.true, c.from-2.ensures, c.from.ensures)

pub returns-then-from-gt2000000000 : goal.returns-then-from-gt2000000000
unfolding wait_taken wait_text
returns-then-from-gt2000000000 c =
    let a = c.args in
    let late : 2000000000 < a.p.time + a.p.wait = omega (arith, c.if-from-gt2000000000.true, c.from-2.ensures, c.from.ensures) in rw (late_refused a.memory.now a.p late) (record { value = c.outcome.ensures ∙ rw c.late_number.ensures refl; out_after = refl })

pub waited-requires : goal.waited-requires
waited-requires c = (omega (arith, c.if-from-gt2000000000.false, c.from-2.ensures, c.from.ensures), refl)

pub returns : goal.returns
returns c = record { value = c.waited.ensures.value; out_after = c.waited.ensures.out_after }

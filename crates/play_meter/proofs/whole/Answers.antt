use mathlib.Core.Path.{◌≡◌, sym, ap, ◌∙◌}
use native.Mathlib.Omega.{arith}
use Rattle.log_rules.specs.declared.Checked.{Checked}
use Rattle.recording.specs.Whole.{check_of}
use Rattle.play_meter.proofs.WalkLaws.{refused_one, refused_log, meter_is}
use Rattle.play_meter.proofs.whole.Goals as goal

pub returns-then-memory-ne32768 : goal.returns-then-memory-ne32768
returns-then-memory-ne32768 c =
    let a = c.args in
    c.refused.ensures ∙ refused_one a.log.now a.memory.now c.if-memory-ne32768.true

pub returns-then-k-ne0 : goal.returns-then-k-ne0
returns-then-k-ne0 c =
    let a = c.args in
    let k = c.check-k in
    c.refused-then-k-ne0.ensures ∙ refused_log a.log.now a.memory.now c.if-memory-ne32768.false k.result k.ensures c.if-k-ne0.true

pub walk-requires : goal.walk-requires
walk-requires c = record { log_value = (sym (ap (λ (k : Checked). k.number) c.check-k.ensures) ∙ c.if-k-ne0.false, c.if-memory-ne32768.false); in_bounds = omega arith }

pub returns : goal.returns
returns c =
    let a = c.args in
    let fine : (check_of a.log.now).number ≡ 0 = sym (ap (λ (k : Checked). k.number) c.check-k.ensures) ∙ c.if-k-ne0.false in
    rw c.walk.ensures (sym (meter_is a.log.now a.memory.now c.if-memory-ne32768.false fine))

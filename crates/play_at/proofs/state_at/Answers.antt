use mathlib.Core.Path.{◌≡◌, sym, ap, ◌∙◌}
use mathlib.Core.Bool.{false}
use Rattle.chip.specs.Range.{in_range}
use Rattle.chip.proofs.RangeLaws.{power_on_in}
use Rattle.log_rules.specs.declared.Checked.{Checked}
use Rattle.recording.specs.Whole.{check_of}
use Rattle.play_at.specs.declared.At.{At}
use Rattle.play_at.proofs.WalkLaws.{refused_one, refused_log, at_is}
use Rattle.play_at.proofs.state_at.Goals as goal

pub returns-then-memory-ne32768 : goal.returns-then-memory-ne32768
returns-then-memory-ne32768 c =
    let a = c.args in
    let e = c.refused_at.ensures in record { value = e ∙ refused_one a.log.now a.memory.now a.clock c.if-memory-ne32768.true; state_value = ap (λ (r : At). in_range r.state) e ∙ power_on_in false }

pub returns-then-k-ne0 : goal.returns-then-k-ne0
returns-then-k-ne0 c =
    let a = c.args in
    let e = c.refused_at-then-k-ne0.ensures in
    let k = c.check-k in record { value = e ∙ refused_log a.log.now a.memory.now a.clock c.if-memory-ne32768.false k.result k.ensures c.if-k-ne0.true; state_value = ap (λ (r : At). in_range r.state) e ∙ power_on_in false }

pub walk-requires : goal.walk-requires
walk-requires c =
    (sym (ap (λ (k : Checked). k.number) c.check-k.ensures) ∙ c.if-k-ne0.false, c.if-memory-ne32768.false)

pub returns : goal.returns
returns c =
    let a = c.args in
    let w = c.walk in
    let fine : (check_of a.log.now).number ≡ 0 = sym (ap (λ (k : Checked). k.number) c.check-k.ensures) ∙ c.if-k-ne0.false in record { value = w.ensures.value ∙ sym (at_is a.log.now a.memory.now a.clock c.if-memory-ne32768.false fine); state_value = w.ensures.state_value }

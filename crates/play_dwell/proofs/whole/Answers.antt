use mathlib.Core.Path.{◌≡◌, sym, ap, ◌∙◌}
use native.Mathlib.Omega.{arith}
use Rattle.log_rules.specs.declared.Checked.{Checked}
use Rattle.recording.specs.Whole.{check_of}
use Rattle.play_dwell.proofs.WalkLaws.{refused_one, refused_log, dwell_is, check_clocks}
use Rattle.play_dwell.proofs.whole.Goals as goal

pub returns-then-memory-ne32768 : goal.returns-then-memory-ne32768
returns-then-memory-ne32768 c =
    let a = c.args in
    c.refused.ensures ∙ refused_one a.log.now a.memory.now c.if-memory-ne32768.true

pub returns-then-k-ne0 : goal.returns-then-k-ne0
returns-then-k-ne0 c =
    let a = c.args in
    let k = c.check-k in
    c.refused-then-k-ne0.ensures
    ∙ refused_log a.log.now a.memory.now c.if-memory-ne32768.false k.result k.ensures c.if-k-ne0.true

pub walk-counts-requires : goal.walk-counts-requires
walk-counts-requires c =
    let fine = sym (ap (λ (k : Checked). k.number) c.check-k.ensures) ∙ c.if-k-ne0.false in record { log_value = (fine, c.if-memory-ne32768.false); in_bounds = omega arith }

pub returns : goal.returns
returns c =
    let a = c.args in
    let k = c.check-k in
    let fine : (check_of a.log.now).number ≡ 0 = sym (ap (λ (k : Checked). k.number) k.ensures) ∙ c.if-k-ne0.false in
    let total = ap (λ (k : Checked). k.clocks) k.ensures ∙ check_clocks a.log.now a.memory.now fine in
    rw (c.walk-counts.ensures, total) (sym (dwell_is a.log.now a.memory.now c.if-memory-ne32768.false fine))

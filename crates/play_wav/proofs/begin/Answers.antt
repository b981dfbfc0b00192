use Prim.Native.Nat.{ℕ}
use mathlib.Core.Path.{sym, ap, ◌∙◌}
use native.Mathlib.Omega.{arith}
use Rattle.log_rules.specs.declared.Checked.{Checked}
use Rattle.wav_sample.specs.Samples.{samples_in}
use Rattle.play_wav.proofs.BeginLaws.{refused_with, opened_with, begun_memory, begun_log, begun_rate, begun_file, clocks_fit}
use Rattle.play_wav.proofs.begin.Goals as goal

pub returns-then-memory-ne32768 : goal.returns-then-memory-ne32768
returns-then-memory-ne32768 c = let a = c.args in c.refuse.ensures ∙ begun_memory a.log.now a.memory.now a.rate c.if-memory-ne32768.true

pub returns-then-c-ne0 : goal.returns-then-c-ne0
returns-then-c-ne0 c =
    let a = c.args in
    let k = c.check-c.ensures in
    c.refuse-then-c-ne0.ensures
    ∙ (ap (λ (x : Checked). refused_with x.number x.place a.log.now) k
    ∙ begun_log a.log.now a.memory.now a.rate c.if-memory-ne32768.false (λ z. c.if-c-ne0.true (ap (λ (x : Checked). x.number) k ∙ z)))

pub returns-then-not-rate_right : goal.returns-then-not-rate_right
returns-then-not-rate_right c =
    let a = c.args in
    let passed = sym (ap (λ (x : Checked). x.number) c.check-c.ensures) ∙ c.if-c-ne0.false in
    c.refuse-then-not-rate_right.ensures
    ∙ begun_rate a.log.now a.memory.now a.rate c.if-memory-ne32768.false passed (sym c.rate_right.ensures ∙ c.if-not-rate_right.true)

pub overflow_cast-c : goal.overflow_cast-c
overflow_cast-c c =
    let a = c.args in
    let k = c.check-c.ensures in
    let f = clocks_fit a.log.now (sym (ap (λ (x : Checked). x.number) k) ∙ c.if-c-ne0.false) in
    omega (arith, f, ap (λ (x : Checked). x.clocks) k)

pub returns : goal.returns
returns c =
    let a = c.args in
    let k = c.check-c.ensures in
    let passed = sym (ap (λ (x : Checked). x.number) k) ∙ c.if-c-ne0.false in
    let count = c.count-count.ensures ∙ ap (λ (x : Checked). samples_in x.pal a.rate x.clocks) k in
    c.opening.ensures
    ∙ (ap (λ (n : ℕ). opened_with a.rate n a.log.now) count
    ∙ begun_file a.log.now a.memory.now a.rate c.if-memory-ne32768.false passed (sym c.rate_right.ensures ∙ c.if-not-rate_right.false))

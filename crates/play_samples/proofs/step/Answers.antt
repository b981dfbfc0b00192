use Prim.Native.Nat.{ℕ, ◌/◌}
use mathlib.Core.Path.{◌≡◌, ap, sym, ◌∙◌}
use lib.ListN.{length}
use Rattle.arith.specs.Over.{over}
use Rattle.wav_write.specs.Bytes.{sample_bytes}
use Rattle.play_samples.specs.declared.Next.{Next}
use Rattle.play_samples.specs.Stepping.{Go, step_of, heard, passed_of, passed}
use Rattle.play_samples.proofs.NumberLaws.{next_numbers}
use Rattle.play_samples.proofs.StepLaws.{fine, step_refused, step_log, step_clocks, over_refused, over_met}
use Rattle.play_samples.proofs.step.Goals as goal

pub returns-then-k-ne0 : goal.returns-then-k-ne0
returns-then-k-ne0 c =
    let r = c.refusal_of-k.ensures in
    let a = c.args in
    let e = step_refused a.log.now a.memory.now a.rate (length a.out.now / 2) a.p (λ z. c.if-k-ne0.true (r ∙ z)) in
    let g = step_of a.log.now a.memory.now a.rate (length a.out.now / 2) a.p in
    let f : c.passed_of.result ≡ passed g = c.passed_of.ensures ∙ (ap (λ (x : ℕ). passed_of (Next.Refused x 0) a.p) r ∙ ap passed e) in record { value = f; next_is = next_numbers c.passed_of.result g f; out_after = over_refused a.out.now _ _ _ _ e }

pub returns-then-p-eq0 : goal.returns-then-p-eq0
returns-then-p-eq0 c =
    let a = c.args in
    let none = sym c.refusal_of-k.ensures ∙ c.if-k-ne0.false in
    let e = step_log a.log.now a.memory.now a.rate (length a.out.now / 2) a.p none c.if-p-eq0.true in
    let g = step_of a.log.now a.memory.now a.rate (length a.out.now / 2) a.p in
    let f : c.log_step.result ≡ passed g = c.log_step.ensures ∙ ap passed e in record { value = f; next_is = next_numbers c.log_step.result g f; out_after = over_met a.out.now a.p _ _ _ e }

pub clocks_step-requires : goal.clocks_step-requires
clocks_step-requires c =
    let a = c.args in
    let f = fine a.memory.now a.rate a.p (sym c.refusal_of-k.ensures ∙ c.if-k-ne0.false) in record { memory_len = (f.long, f.ranged); fit = f.fit }

pub returns : goal.returns
returns c =
    let a = c.args in
    let none = sym c.refusal_of-k.ensures ∙ c.if-k-ne0.false in
    let e = step_clocks a.log.now a.memory.now a.rate (length a.out.now / 2) a.p none c.if-p-eq0.false in
    let s = c.clocks_step.ensures in
    let g = step_of a.log.now a.memory.now a.rate (length a.out.now / 2) a.p in
    let f : c.clocks_step.result ≡ passed g = s.value ∙ ap passed e in record { value = f; next_is = next_numbers c.clocks_step.result g f; out_after = s.out_after ∙ ap (λ (g : Go). over (sample_bytes (heard g.said)) a.out.now) e }

use mathlib.Core.Path.{refl, sym, ap, ◌∙◌}
use Prim.Native.Nat.{ℕ}
use mathlib.Core.Bool.{false}
use Rattle.play_wav.specs.Pieces.{sounded_of}
use Rattle.play_wav.proofs.CallLaws.{written_refused, written_samples, written_head}
use Rattle.play_wav.proofs.wav_on.Goals as goal

pub returns-then-k-ne0 : goal.returns-then-k-ne0
returns-then-k-ne0 c =
    let a = c.args in
    let e = c.refusal_of-k.ensures in
    written_refused a.log.now a.memory.now a.w a.out.now _ c.sounded_of.result (λ z. c.if-k-ne0.true (e ∙ z))
    (record { answer = c.sounded_of.ensures ∙ ap (λ (k : ℕ). sounded_of k 0 a.w 0 false) e; stays = refl })

pub returns-then-w : goal.returns-then-w
returns-then-w c =
    let a = c.args in
    let s = c.samples_on in
    written_samples a.log.now a.memory.now a.w a.out.now _ s.result (sym c.refusal_of-k.ensures ∙ c.if-k-ne0.false) c.if-w.true s.ensures

pub returns : goal.returns
returns c =
    let a = c.args in
    let s = c.head_on in
    written_head a.log.now a.memory.now a.w a.out.now _ s.result (sym c.refusal_of-k.ensures ∙ c.if-k-ne0.false) c.if-w.false s.ensures

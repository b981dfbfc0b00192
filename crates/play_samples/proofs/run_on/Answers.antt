use Prim.Native.Nat.{ℕ, min}
use mathlib.Core.Path.{◌≡◌, ap, ◌∙◌}
use native.Mathlib.Omega.{arith}
use Rattle.play_walk.proofs.ClockLaws.{portion}
use Rattle.play_samples.proofs.RunLaws.{run_ranged}
use Rattle.play_samples.proofs.run_on.Goals as goal

pub records_on-w-requires : goal.records_on-w-requires
records_on-w-requires c =
    let a = c.args in
    let n : c.min.result ≡ portion a.left =
    c.min.ensures ∙ ap (λ (x : ℕ). min x 1000000) c.from.ensures in
    let h =
    run_ranged a.memory.now a.s a.left a.pal a.rate a.a a.out.now a.at a.words.now _ c.uncounted-r.result c.requires.memory_len.0
    (λ i. omega (arith, c.type_inv.memory i)) c.requires.memory_len.1 c.requires.memory_len.2 c.requires.memory_len.3 c.requires.fit c.requires.s_in_bounds (rw n at c.uncounted-r.ensures.value)
    (rw n at c.uncounted-r.ensures.words_after) in record { fit = h.fit; recorded = h.recorded; done_in_bounds = rw c.level-v.ensures h.room }

pub returns : goal.returns
returns c =
    let a = c.args in
    let n : c.min.result ≡ portion a.left =
    c.min.ensures ∙ ap (λ (x : ℕ). min x 1000000) c.from.ensures in
    let h =
    run_ranged a.memory.now a.s a.left a.pal a.rate a.a a.out.now a.at a.words.now _ c.uncounted-r.result c.requires.memory_len.0
    (λ i. omega (arith, c.type_inv.memory i)) c.requires.memory_len.1 c.requires.memory_len.2 c.requires.memory_len.3 c.requires.fit c.requires.s_in_bounds (rw n at c.uncounted-r.ensures.value)
    (rw n at c.uncounted-r.ensures.words_after) in record { done_nonzero = (h.some, h.most, h.fine); state_value = h.state; writes = rw (← h.levels, ← c.level-v.ensures) c.records_on-w.ensures }

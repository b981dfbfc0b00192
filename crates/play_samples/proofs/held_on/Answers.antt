use native.Mathlib.Omega.{arith}
use Rattle.play_samples.proofs.PenLaws.{slow, next_fresh, bounded, drawn_within, room_whole}
use Rattle.play_samples.proofs.FillLaws.{roomy_on, draws_on}
use Rattle.play_samples.proofs.held_on.Goals as goal

pub within-requires : goal.within-requires
within-requires c =
    let a = c.args in
    (bounded a.c c.requires.sampler a.p a.clocks c.requires.holding, omega (arith, c.if-clocks-p.true))

pub returns-then-clocks-p : goal.returns-then-clocks-p
returns-then-clocks-p c =
    let a = c.args in
    rw c.within.ensures (record { drawn = λ b h. drawn_within a.c b a.p a.clocks h a.out.now a.v c.if-clocks-p.true })

pub ended-q-requires : goal.ended-q-requires
ended-q-requires c =
    let a = c.args in
    let r = c.requires in
    (bounded a.c r.sampler a.p a.clocks r.holding, slow a.c r.holding.paced, room_whole a.c r.sampler a.p a.v a.clocks _ r.holding c.if-clocks-p.false r.room)

pub filled-requires : goal.filled-requires
filled-requires c =
    let e = c.ended-q in
    let a = c.args in
    rw e.ensures.value
    (rw c.out-1.given (roomy_on a.c a.p a.v a.clocks c.if-clocks-p.false (omega arith) _ c.requires), (next_fresh a.c _ a.p.part).0)

pub returns : goal.returns
returns c =
    let e = c.ended-q in
    let a = c.args in
    draws_on a.c a.p a.v a.clocks c.if-clocks-p.false (omega arith) a.out.now _ _
    (rw (e.ensures.value, e.ensures.out_after) at c.filled.ensures)

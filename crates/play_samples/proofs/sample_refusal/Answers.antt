use mathlib.Core.Path.{◌≡◌, sym, ◌∙◌}
use mathlib.Core.Bool.{true, false}
use Rattle.wav_sample.specs.Samples.{rate_right}
use Rattle.play_samples.specs.Stepping.{sampler_at}
use Rattle.play_samples.proofs.RoomLaws.{order_of}
use Rattle.play_samples.proofs.sample_refusal.Goals as goal

pub returns-then-not-rate_right : goal.returns-then-not-rate_right
returns-then-not-rate_right c =
    let e : rate_right c.args.rate ≡ false = sym c.rate_right.ensures ∙ c.if-not-rate_right.true in
    rw e

pub returns-then-not-in_order : goal.returns-then-not-in_order
returns-then-not-in_order c =
    let a = c.args in
    let right : rate_right a.rate ≡ true = sym c.rate_right.ensures ∙ c.if-not-rate_right.false in
    let e = order_of a.p.moment.state.pal a.rate _ (sampler_at a.p) _ c.sampler_at-a.ensures c.in_order.ensures right ∙ c.if-not-in_order.true in
    rw (right, e)

pub returns : goal.returns
returns c =
    let a = c.args in
    let right : rate_right a.rate ≡ true = sym c.rate_right.ensures ∙ c.if-not-rate_right.false in
    let e = order_of a.p.moment.state.pal a.rate _ (sampler_at a.p) _ c.sampler_at-a.ensures c.in_order.ensures right ∙ c.if-not-in_order.false in
    rw (right, e)

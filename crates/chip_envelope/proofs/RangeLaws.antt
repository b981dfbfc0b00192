-- The envelope's range: the test, the facts that it stands for, and that every operation keeps it. Assumes nothing.
use Prim.Native.Nat.{ℕ, ◌≤◌}
use mathlib.Core.Path.{◌≡◌}
use mathlib.Core.Bool.{true}
use native.Mathlib.Omega.{arith}
use lib.Dec.{eqb}
use borrow.Author.Tests.{leb-true, le-leb}
use Rattle.arith.proofs.PickLaws.{both_left, both_right, both_true, pick_both}
use Rattle.divider.specs.Divider.{due, tick}
use Rattle.chip_envelope.specs.Envelope.{envelope_period, envelope_started, decayed, envelope_divided, envelope_clock, volume, envelope_set, envelope_begun, envelope_in}
use Rattle.chip_envelope.specs.declared.Envelope.{Envelope}
use Rattle.divider.proofs.RangeLaws.{tick_ranged}

pub record EnvelopeRanged (e : Envelope) : Type 0 where
  pub n : e.n ≤ 15
  pub divider_from : 1 ≤ e.divider
  pub divider_to : e.divider ≤ 16
  pub counter : e.counter ≤ 15

pub envelope_in_lem : (x : Envelope) → envelope_in x ≡ true → EnvelopeRanged x
unfolding envelope_in
envelope_in_lem x e = search (both_left, both_right, leb-true)

pub envelope_back : (x : Envelope) → EnvelopeRanged x → envelope_in x ≡ true
unfolding envelope_in
envelope_back x h = search (both_true, le-leb)

pub envelope_clocked : (x : Envelope) → EnvelopeRanged x → EnvelopeRanged (envelope_clock x)
unfolding envelope_clock envelope_started envelope_divided decayed
envelope_clocked x h =
    let d : (1 ≤ tick (envelope_period x) x.divider) × (tick (envelope_period x) x.divider ≤ 16) =
    tick_ranged (envelope_period x) x.divider 16 (omega arith) (omega arith) h.divider_to
    in
    pick_both EnvelopeRanged x.start
    (record { n = h.n; divider_from = omega arith; divider_to = omega arith; counter = omega arith })
    (record {
      n = h.n;
      divider_from = d.0;
      divider_to = d.1;
      counter =
          pick_both (λ (k : ℕ). k ≤ 15) (due x.divider)
          (pick_both (λ (k : ℕ). k ≤ 15) (eqb x.counter 0)
          (pick_both (λ (k : ℕ). k ≤ 15) x.looped (omega arith) (omega arith)) (omega (arith, h.counter)))
          h.counter;
    })

pub envelope_set_lem : (v : ℕ) (x : Envelope) → EnvelopeRanged x → EnvelopeRanged (envelope_set v x)
unfolding envelope_set
envelope_set_lem v x h = record { n = omega arith; divider_from = h.divider_from; divider_to = h.divider_to; counter = h.counter }

pub envelope_begun_lem : (x : Envelope) → EnvelopeRanged x → EnvelopeRanged (envelope_begun x)
unfolding envelope_begun
envelope_begun_lem x h = record { n = h.n; divider_from = h.divider_from; divider_to = h.divider_to; counter = h.counter }

pub volume_most : (x : Envelope) → EnvelopeRanged x → volume x ≤ 15
unfolding volume
volume_most x h = pick_both (λ (k : ℕ). k ≤ 15) x.constant h.n h.counter

-- A square as a stretch keeps it. Assumes nothing.
use Rattle.std.proofs.Common.{◌≡◌, ℕ, ◌+◌, ◌%◌, ◌<◌, ◌≤◌, Bool, true, false, eqb, sym, refl, ap, ◌∙◌, subst, arith, eqb-true}
use borrow.Author.Tests.{eqb-false}
use Rattle.arith.specs.Iterate.{iterate}
use Rattle.arith.specs.Pick.{pick}
use Rattle.arith.proofs.PickLaws.{pick_both}
use Rattle.leap_still.specs.Forever.{forever}
use Rattle.chip_sweep.specs.Sweep.{low_period, high_target}
use Rattle.chip_envelope.proofs.RangeLaws.{volume_most}
use Rattle.leap_stretch.specs.Lag.{Follows}
use Rattle.leap_stretch.proofs.LagLaws.{lag_start, lag_wait}
use Rattle.chip_square.specs.Sequencer.{sequencer_clock}
use Rattle.chip_square.specs.Square.{with_sequencer, square_amount, square_output}
use Rattle.leap_square.specs.Leap.{beat_of, with_beat, beat_clock, duty_row, beat_gives, square_still, beat_advanced, beat_turned}
use Rattle.leap_square.specs.Lag.{square_span, run_word, square_kept, square_lag, square_lag_out, square_renewed}
use Rattle.chip_square.specs.declared.Sequencer.{Sequencer}
use Rattle.chip_square.specs.declared.Square.{Square}
use Rattle.leap_square.specs.declared.Beat.{Beat}
use Rattle.leap_square.specs.declared.lag.SquareLag.{SquareLag}
use Rattle.chip_square.proofs.RangeLaws.{SquareRanged}
use Rattle.leap_square.proofs.LeapLaws.{BeatRanged, beat_clocked, beat_ranged, beat_closed, sequencer_beats, square_still_lem, square_still_most, gives_most, square_turned, square_gives_at}
use Rattle.leap_square.proofs.LagLaws.{turned_ranged, kept_gives, turned_lag, renewed_due, renewed_waits}
use Rattle.leap_stretch.proofs.TurnLaws.{Leaps, held_fine, turned_follows, held_gives}

-- what it gives while the duty bit is 1 is at most 15
amount_most : (second : Bool) (q : Square) → SquareRanged q → square_amount second q ≤ 15
unfolding square_amount
amount_most second q r =
    let P : ℕ → Type 0 = λ k. k ≤ 15 in
    pick_both P (eqb q.length.count 0) (omega arith)
    (pick_both P (low_period q.sequencer.timer.period) (omega arith)
    (pick_both P (high_target second q.sweep q.sequencer.timer.period) (omega arith) (volume_most q.envelope r.envelope)))

-- the two halves of the number kept: what it gives, and so few clocks that those of two squares add to less than 2 ^ 32
pub record Halves (l : SquareLag) : Type 0 where
  pub out : square_lag_out l ≤ 15
  pub span : l.kept % 4294967296 ≤ 2147483647

-- kept at clock `now` of a stretch that began with the square q: there is a beat, reached at clock `at`, of which it is what is kept
pub record SquareKept (second : Bool) (q : Square) (now : ℕ) (l : SquareLag) : Type 0 where
  pub beat : Beat
  pub at : ℕ
  pub kept : l ≡ square_lag (duty_row q.duty) (square_amount second q) beat at
  pub follows :
      Follows beat_clock (beat_gives (duty_row q.duty) (square_amount second q)) (square_still (duty_row q.duty) (square_amount second q))
      (beat_of q.sequencer) now beat at l.next (square_lag_out l)

kept_halves : (row amount : ℕ) → amount ≤ 15 → (b : Beat) → BeatRanged b → (at : ℕ) → Halves (square_lag row amount b at)
unfolding square_lag square_lag_out square_kept run_word square_span
kept_halves row amount few b r at =
    let g = gives_most row amount b in
    let m : square_still row amount (beat_turned row b) ≤ forever = square_still_most row amount (beat_turned row b) (turned_ranged row b r) in
    record { out = omega (arith, g, m); span = omega (arith, g, m) }

leaps : (row amount : ℕ) → Leaps beat_clock (beat_gives row amount) (square_still row amount) (beat_turned row) BeatRanged
leaps row amount =
    record {
      keeps = beat_clocked;
      same = λ b k r h. square_still_lem row amount b r k h;
      turns = λ b r h. square_turned row amount b r h;
    }

-- what is kept of a beat at a clock follows on with what it gives
at_beat : (second : Bool) (q : Square) (now at : ℕ) (b : Beat)
    → Follows beat_clock (beat_gives (duty_row q.duty) (square_amount second q)) (square_still (duty_row q.duty) (square_amount second q))
    (beat_of q.sequencer) now b at (at + square_still (duty_row q.duty) (square_amount second q) b + 1) (beat_gives (duty_row q.duty) (square_amount second q) b)
    → SquareKept second q now (square_lag (duty_row q.duty) (square_amount second q) b at)
unfolding square_lag
at_beat second q now at b f =
    record { beat = b; at = at; kept = refl; follows = rw (kept_gives (duty_row q.duty) (square_amount second q) b at) f }

pub square_start : (second : Bool) (q : Square)
    → SquareKept second q 0 (square_lag (duty_row q.duty) (square_amount second q) (beat_of q.sequencer) 0)
square_start second q = at_beat second q 0 0 (beat_of q.sequencer) (lag_start (beat_of q.sequencer))

module _ (second : Bool) (q : Square) (r : SquareRanged q) (now : ℕ) (l : SquareLag) (g : SquareKept second q now l) where
  abbrev row : ℕ
  row = duty_row q.duty

  abbrev amount : ℕ
  amount = square_amount second q

  fine : BeatRanged (beat_of q.sequencer)
  fine = beat_ranged q.sequencer r.sequencer

  -- what is kept of it gives at most 15 and has few clocks
  pub square_halves : Halves l
  square_halves =
      let few = amount_most second q r in
      subst Halves (sym g.kept) (kept_halves row amount few g.beat (held_fine (leaps row amount) fine g.follows) g.at)

  -- it waits up to its next change
  square_waits : (e : ℕ) → now ≤ e → e < l.next → SquareKept second q e l
  square_waits e h n = record { beat = g.beat; at = g.at; kept = g.kept; follows = lag_wait g.follows e h n }

  square_renewed_lem : (e : ℕ) → now ≤ e → e ≤ l.next → e ≤ forever → SquareKept second q e (square_renewed l e)
  square_renewed_lem e h n m = go (eqb l.next e) refl
    where
      go : (t : Bool) → eqb l.next e ≡ t → SquareKept second q e (square_renewed l e)
      go true d =
          let few = amount_most second q r in
          subst (SquareKept second q e)
          (sym
          (renewed_due l e (eqb-true _ _ d)
          ∙ turned_lag row amount (omega arith) g.beat (held_fine (leaps row amount) fine g.follows) g.at e l g.kept))
          (at_beat second q e e (beat_turned row g.beat) (turned_follows (leaps row amount) fine g.follows e (eqb-true _ _ d) m))
      go false d =
          let ne : l.next ≡ e → ⊥ = eqb-false l.next e d in
          subst (SquareKept second q e) (sym (renewed_waits l e ne)) (square_waits e h (omega arith))

  -- at an event at which it is looked at, or isn't due
  pub square_kept_lem : (e : ℕ) → now ≤ e → e ≤ l.next → e ≤ forever → (t : Bool) → (t ≡ false → e < l.next)
      → SquareKept second q e (pick t (square_renewed l e) l)
  square_kept_lem e h n m true w = square_renewed_lem e h n m
  square_kept_lem e h n m false w = square_waits e h (w refl)

  pub square_out : (k : ℕ) → now ≤ k → k < l.next
      → square_output second (with_sequencer q (iterate sequencer_clock k q.sequencer)) ≡ square_lag_out l
  square_out k h n =
      ap (λ (x : Sequencer). square_output second (with_sequencer q x)) (sequencer_beats q.sequencer r.sequencer k)
      ∙ square_gives_at second q (iterate beat_clock k (beat_of q.sequencer))
      ∙ held_gives (leaps row amount) fine g.follows k h n

-- the closed form of its beat is its sequencer's clocks
pub square_at : (q : Square) → SquareRanged q → (k : ℕ)
    → with_beat q.sequencer (beat_advanced k (beat_of q.sequencer)) ≡ iterate sequencer_clock k q.sequencer
square_at q r k =
    let b = beat_ranged q.sequencer r.sequencer in
    ap (with_beat q.sequencer) (sym (beat_closed k (beat_of q.sequencer) b.n_from b.count_from b.steps))
    ∙ sym (sequencer_beats q.sequencer r.sequencer k)

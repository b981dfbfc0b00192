-- A square as a stretch keeps it, at its next change: with the other number it is what is kept of the square turned. Assumes nothing.
use Rattle.std.proofs.Common.{◌≡◌, ℕ, ◌+◌, ◌-◌, ◌*◌, ◌/◌, ◌%◌, ◌≤◌, eqb, sym, refl, ap, ◌∙◌, arith, eq-eqb, ne_eqb}
use Rattle.arith.specs.Pick.{pick}
use Rattle.leap_still.specs.Forever.{forever}
use Rattle.leap_square.specs.Leap.{square_still, beat_gives, beat_turned}
use Rattle.leap_square.specs.Lag.{square_span, run_word, square_kept, square_lag, square_lag_out, run_then, square_renewed}
use Rattle.leap_square.specs.declared.Beat.{Beat}
use Rattle.leap_square.specs.declared.lag.SquareLag.{SquareLag}
use Rattle.leap_square.proofs.LeapLaws.{BeatRanged, square_still_most, gives_most}
use Rattle.leap_square.proofs.RoundLaws.{turned_again, gives_again, gives_other, stills_round}

-- what the field holds of a span is all of it
span_is : (row amount : ℕ) (b : Beat) → BeatRanged b → square_span row amount b ≡ square_still row amount b + 1
unfolding square_span
span_is row amount b r =
    let m : square_still row amount b ≤ forever = square_still_most row amount b r in
    omega arith

span_most : (row amount : ℕ) (b : Beat) → square_span row amount b ≤ 4294967295
unfolding square_span
span_most row amount b = omega arith

pub turned_ranged : (row : ℕ) (b : Beat) → BeatRanged b → BeatRanged (beat_turned row b)
unfolding beat_turned
turned_ranged row b r =
    record { n_from = r.n_from; n_to = r.n_to; count_from = r.n_from; count_to = r.n_to; steps = omega arith }

-- the two halves of the number kept
word_out : (out span : ℕ) → span ≤ 4294967295 → run_word out span / 4294967296 ≡ out
unfolding run_word
word_out out span h = omega arith

word_span : (out span : ℕ) → span ≤ 4294967295 → run_word out span % 4294967296 ≡ span
unfolding run_word
word_span out span h = omega arith

word_most : (out span : ℕ) → out ≤ 4294967295 → span ≤ 4294967295 → run_word out span ≤ 18446744073709551615
unfolding run_word
word_most out span h m = omega arith

-- the other number, from the sum
other : (x y : ℕ) → x ≤ 18446744073709551615 → y ≤ 18446744073709551615 → run_then ((x + y) % 18446744073709551616) x ≡ y
unfolding run_then
other x y h m = omega arith

-- a run's clocks, from those of the round and of the other run
rest : (s t : ℕ) → (s + t + 4294967296 - s % 4294967296) % 4294967296 ≡ t % 4294967296
rest s t = omega arith

-- the sum of the two numbers, from the amount and the clocks of one run
pub both_of : (row amount : ℕ) (b : Beat)
    → (run_word amount (square_span row amount (beat_turned row b))
    + (pick (eqb amount 0) 200002 (pick (eqb b.n 0) 2 (16 * b.n)) + 4294967296 - square_span row amount (beat_turned row b)) % 4294967296)
    % 18446744073709551616
    ≡ (square_kept row amount b + square_kept row amount (beat_turned row b)) % 18446744073709551616
unfolding square_kept run_word square_span
both_of row amount b =
    let x = square_still row amount (beat_turned row b) + 1 in
    let y = square_still row amount (beat_turned row (beat_turned row b)) + 1 in
    let e = stills_round row b amount in
    let f : (pick (eqb amount 0) 200002 (pick (eqb b.n 0) 2 (16 * b.n)) + 4294967296 - x % 4294967296) % 4294967296 ≡ y % 4294967296 =
    ap (λ (k : ℕ). (k + 4294967296 - x % 4294967296) % 4294967296) (sym e) ∙ rest x y
    in
    ap (λ (k : ℕ). k % 18446744073709551616) (omega (arith, f, gives_other row b amount))

-- what is kept gives what the square gives
pub kept_gives : (row amount : ℕ) (b : Beat) (at : ℕ) → square_lag_out (square_lag row amount b at) ≡ beat_gives row amount b
unfolding square_lag_out square_lag square_kept
kept_gives row amount b at = word_out (beat_gives row amount b) (square_span row amount (beat_turned row b)) (span_most row amount (beat_turned row b))

kept_most : (row amount : ℕ) → amount ≤ 4294967295 → (b : Beat) → square_kept row amount b ≤ 18446744073709551615
unfolding square_kept
kept_most row amount h b =
    let g = gives_most row amount b in
    word_most (beat_gives row amount b) (square_span row amount (beat_turned row b)) (omega arith) (span_most row amount (beat_turned row b))

same_lag : {n n₁ k k₁ b b₁ : ℕ} → n ≡ n₁ → k ≡ k₁ → b ≡ b₁
    → ◌≡◌ {A = SquareLag} (record { next = n; kept = k; both = b }) (record { next = n₁; kept = k₁; both = b₁ })
same_lag p q r = rw (p, q, r) refl

module _ (row amount : ℕ) (few : amount ≤ 4294967295) (b : Beat) (r : BeatRanged b) where
  again : square_kept row amount (beat_turned row (beat_turned row b)) ≡ square_kept row amount b
  unfolding square_kept
  again = rw (gives_again row b amount, turned_again row b) refl

  ends : (e : ℕ) → e + square_kept row amount b % 4294967296 ≡ e + square_still row amount (beat_turned row b) + 1
  unfolding square_kept
  ends e =
      let z = word_span (beat_gives row amount b) (square_span row amount (beat_turned row b)) (span_most row amount (beat_turned row b)) in
      let s = span_is row amount (beat_turned row b) (turned_ranged row b r) in
      omega (arith, z, s)

  -- AT ITS NEXT CHANGE
  pub turned_lag : (at e : ℕ) (l : SquareLag) → l ≡ square_lag row amount b at
      → ◌≡◌ {A = SquareLag} (record { next = e + l.kept % 4294967296; kept = run_then l.both l.kept; both = l.both }) (square_lag row amount (beat_turned row b) e)
  unfolding square_lag
  turned_lag at e l q =
      let x = square_kept row amount b in
      let y = square_kept row amount (beat_turned row b) in
      let z : (x + y) % 18446744073709551616 ≡ (y + x) % 18446744073709551616 = ap (λ (k : ℕ). k % 18446744073709551616) (omega arith) in
      rw q
      (same_lag (ends e) (other x y (kept_most row amount few b) (kept_most row amount few (beat_turned row b)))
      (z ∙ ap (λ (k : ℕ). (y + k) % 18446744073709551616) (sym again)))

-- a square at its next change, and at any other clock
pub renewed_due : (l : SquareLag) (e : ℕ) → l.next ≡ e
    → square_renewed l e ≡ record { next = e + l.kept % 4294967296; kept = run_then l.both l.kept; both = l.both }
unfolding square_renewed
renewed_due l e q = rw (eq-eqb l.next e q) refl

pub renewed_waits : (l : SquareLag) (e : ℕ) → (l.next ≡ e → ⊥) → square_renewed l e ≡ l
unfolding square_renewed
renewed_waits l e q = rw (ne_eqb l.next e q) refl

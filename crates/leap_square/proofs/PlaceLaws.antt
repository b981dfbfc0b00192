-- What stands at a row and any steps is what stands at their place of a table of 64: for tests that are computed at each place. Assumes nothing.
use Rattle.std.proofs.Common.{◌≡◌, ℕ, ◌+◌, ◌*◌, ◌/◌, ◌%◌, ◌≤◌, ap, ◌∙◌, arith}
use Rattle.chip_square.specs.Sequencer.{duty_bit}
use Rattle.leap_square.specs.Leap.{duty_turns}

-- the steps at the next change
abbrev pub on : ℕ → ℕ → ℕ
on row steps = (steps + (duty_turns row steps + 1)) % 16

same_row : (row k s : ℕ) → k / 16 % 4 ≡ row / 16 % 4 → duty_turns k s ≡ duty_turns row s
unfolding duty_turns
same_row row k s e = rw e

same_steps : (row s t : ℕ) → s % 16 ≡ t % 16 → duty_turns row s ≡ duty_turns row t
unfolding duty_turns
same_steps row s t e = rw e

same_bit : (row k p q : ℕ) → k / 16 % 4 ≡ row / 16 % 4 → p % 8 ≡ q % 8 → duty_bit (k / 16) p ≡ duty_bit (row / 16) q
unfolding duty_bit
same_bit row k p q e f = rw (e, f)

module _ (row s : ℕ) where
  abbrev pub place : ℕ
  place = row / 16 % 4 * 16 + s % 16

  pub few : place ≤ 63
  few = omega arith

  row_of : place / 16 % 4 ≡ row / 16 % 4
  row_of = omega arith

  moved : (t : ℕ) → on place t ≡ on row t
  moved t = ap (λ (k : ℕ). (t + (k + 1)) % 16) (same_row row place t row_of)

  -- the outputs that leave the duty bit, at first and behind a change and two
  pub turns_here : duty_turns place (place % 16) ≡ duty_turns row s
  turns_here = same_row row place (place % 16) row_of ∙ same_steps row (place % 16) s (omega arith)

  once : on place (place % 16) ≡ on row s
  once = let e = turns_here in omega (arith, e)

  twice : on place (on place (place % 16)) ≡ on row (on row s)
  twice = ap (on place) once ∙ moved (on row s)

  pub turns_once : duty_turns place (on place (place % 16)) ≡ duty_turns row (on row s)
  turns_once = ap (duty_turns place) once ∙ same_row row place (on row s) row_of

  pub turns_twice : duty_turns place (on place (on place (place % 16))) ≡ duty_turns row (on row (on row s))
  turns_twice = ap (duty_turns place) twice ∙ same_row row place (on row (on row s)) row_of

  -- the duty bit, at first and behind a change
  pub bit_here : duty_bit (place / 16) (place % 16 / 2) ≡ duty_bit (row / 16) (s / 2)
  bit_here = same_bit row place (place % 16 / 2) (s / 2) row_of (omega arith)

  pub bit_once : duty_bit (place / 16) (on place (place % 16) / 2) ≡ duty_bit (row / 16) (on row s / 2)
  bit_once = same_bit row place (on place (place % 16) / 2) (on row s / 2) row_of (ap (λ (k : ℕ). k / 2 % 8) once)

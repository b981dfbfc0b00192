-- The packed table is the tables: one computed test. Assumes nothing.
use Rattle.std.proofs.Common.{◌≡◌, ℕ, zero, suc, ◌+◌, ◌-◌, ◌*◌, ◌/◌, ◌%◌, ◌≤◌, Bool, true, false, T, eqb, leb, refl, ap, arith, eqb-true, leb-true}
use Rattle.arith.specs.Pick.{pick, both}
use Rattle.arith.specs.Table.{every}
use Rattle.arith.proofs.PickLaws.{both_left, both_right}
use Rattle.arith.proofs.TableLaws.{at}
use Rattle.chip_square.specs.Sequencer.{duty_bit}
use Rattle.leap_still.specs.Forever.{forever}
use Rattle.leap_square.specs.Leap.{duty_turns, square_still, beat_gives, beat_turned}
use Rattle.leap_square.specs.Lag.{square_span}
use Rattle.leap_square.specs.Packed.{runs_table, runs_at}
use Rattle.leap_square.specs.declared.Beat.{Beat}
use Rattle.leap_square.proofs.PlaceLaws.{on, place, few, turns_here, turns_once, bit_here}
use Rattle.leap_square.proofs.TurnLaws.{turns_most}

-- an entry is the turns of its place, those of the run behind it and the duty bit, which is 0 or 1
abbrev packs : ℕ → ℕ → Bool
packs k x = eqb x (duty_turns k (k % 16) + 16 * duty_turns k (on k (k % 16)) + 256 * duty_bit (k / 16) (k % 16 / 2))

abbrev bit : ℕ → Bool
bit k = leb (duty_bit (k / 16) (k % 16 / 2)) 1

abbrev right : ℕ → ℕ → Bool
right k x = both (packs k x) (bit k)

all : T (every right 0 runs_table)
unfolding duty_bit duty_turns
all = tt

holds : (b : Bool) → T b → b ≡ true
holds true t = refl
holds false t = absurd t

module _ (row s : ℕ) where
  right_here : right (place row s) (runs_at row s) ≡ true
  unfolding runs_at
  right_here = holds _ (at right runs_table all (place row s) (omega (arith, few row s)))

  packed : runs_at row s ≡ duty_turns row s + 16 * duty_turns row (on row s) + 256 * duty_bit (row / 16) (s / 2)
  packed =
      let k : ℕ = place row s in
      let e : runs_at row s ≡ duty_turns k (k % 16) + 16 * duty_turns k (on k (k % 16)) + 256 * duty_bit (k / 16) (k % 16 / 2) =
      eqb-true _ _ (both_left (packs k (runs_at row s)) (bit k) right_here)
      in
      omega (arith, e, turns_here row s, turns_once row s, bit_here row s)

  bit_most : duty_bit (row / 16) (s / 2) ≤ 1
  bit_most =
      let k : ℕ = place row s in
      let e : duty_bit (k / 16) (k % 16 / 2) ≤ 1 = leb-true _ _ (both_right (packs k (runs_at row s)) (bit k) right_here) in
      omega (arith, e, bit_here row s)

  runs_turns : runs_at row s % 16 ≡ duty_turns row s
  runs_turns = omega (arith, packed, turns_most row s)

  runs_behind : runs_at row s / 16 % 16 ≡ duty_turns row (on row s)
  runs_behind = omega (arith, packed, turns_most row s, turns_most row (on row s))

  runs_bit : runs_at row s / 256 ≡ duty_bit (row / 16) (s / 2)
  runs_bit = omega (arith, packed, turns_most row s, turns_most row (on row s))

  pub bit_fits : runs_at row s / 256 ≤ 1
  bit_fits = omega (arith, runs_bit, bit_most)

-- what it gives, by a product
pub product : (amount bit : ℕ) → bit ≤ 1 → amount * bit ≡ pick (eqb bit 1) amount 0
product amount zero h = omega arith
product amount (suc k) h = let z : k ≡ 0 = omega arith in rw z (omega arith)

-- WHAT A SQUARE IS BY THE TABLE
module _ (row amount : ℕ) (b : Beat) where
  pub still_by : pick (eqb amount 0) forever (b.count - 1 + runs_at row b.steps % 16 * b.n) ≡ square_still row amount b
  unfolding square_still
  still_by = rw (runs_turns row b.steps)

  pub gives_by : pick (eqb (runs_at row b.steps / 256) 1) amount 0 ≡ beat_gives row amount b
  unfolding beat_gives
  gives_by = rw (runs_bit row b.steps)

  pub behind_by : pick (eqb amount 0) forever (b.n - 1 + runs_at row b.steps / 16 % 16 * b.n) ≡ square_still row amount (beat_turned row b)
  unfolding square_still beat_turned
  behind_by = rw (runs_behind row b.steps)

  pub span_by : (pick (eqb amount 0) forever (b.n - 1 + runs_at row b.steps / 16 % 16 * b.n) + 1) % 4294967296
      ≡ square_span row amount (beat_turned row b)
  unfolding square_span
  span_by = ap (λ (k : ℕ). (k + 1) % 4294967296) behind_by

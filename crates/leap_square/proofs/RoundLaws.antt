-- A duty's row has two runs, sixteen outputs in all, and each change is to the other duty bit: one computed test. So two changes on a square is
-- where it was. Assumes nothing.
use Rattle.std.proofs.Common.{◌≡◌, ℕ, zero, suc, ◌+◌, ◌-◌, ◌*◌, ◌/◌, ◌%◌, Bool, true, false, T, eqb, refl, ap, add-mul, arith, eqb-true}
use borrow.Author.Tests.{eqb-false}
use Rattle.arith.specs.Pick.{pick, both}
use Rattle.arith.specs.Table.{every}
use Rattle.arith.proofs.PickLaws.{both_left, both_right, pick_each}
use Rattle.arith.proofs.TableLaws.{at}
use Rattle.leap_still.specs.Forever.{forever}
use Rattle.chip_square.specs.Sequencer.{duty_bit}
use Rattle.leap_square.specs.Leap.{turn_table, duty_turns, square_still, beat_gives, beat_turned}
use Rattle.leap_square.specs.declared.Beat.{Beat}
use Rattle.leap_square.proofs.PlaceLaws.{on, place, few, turns_once, turns_twice, bit_here, bit_once}

-- at place k of the table: the two runs behind the next change are sixteen outputs (one of each run changes the bit), and that change is to the
-- other duty bit
abbrev sixteen : ℕ → Bool
sixteen k = eqb (duty_turns k (on k (k % 16)) + duty_turns k (on k (on k (k % 16)))) 14

abbrev changes : ℕ → Bool
changes k = eqb (duty_bit (k / 16) (k % 16 / 2) + duty_bit (k / 16) (on k (k % 16) / 2)) 1

abbrev right : ℕ → ℕ → Bool
right k x = both (sixteen k) (changes k)

all : T (every right 0 turn_table)
unfolding duty_bit duty_turns
all = tt

holds : (b : Bool) → T b → b ≡ true
holds true t = refl
holds false t = absurd t

module _ (row s : ℕ) where
  right_here : both (sixteen (place row s)) (changes (place row s)) ≡ true
  right_here = holds _ (at right turn_table all (place row s) (omega (arith, few row s)))

  turns_round : duty_turns row (on row s) + duty_turns row (on row (on row s)) ≡ 14
  turns_round =
      let k : ℕ = place row s in
      let e : duty_turns k (on k (k % 16)) + duty_turns k (on k (on k (k % 16))) ≡ 14 = eqb-true _ _ (both_left (sixteen k) (changes k) right_here) in
      omega (arith, e, turns_once row s, turns_twice row s)

  bit_changes : duty_bit (row / 16) (s / 2) + duty_bit (row / 16) (on row s / 2) ≡ 1
  bit_changes =
      let k : ℕ = place row s in
      let e : duty_bit (k / 16) (k % 16 / 2) + duty_bit (k / 16) (on k (k % 16) / 2) ≡ 1 = eqb-true _ _ (both_right (sixteen k) (changes k) right_here) in
      omega (arith, e, bit_here row s, bit_once row s)

-- of two bits that are not the same one gives
one_gives : (x y amount : ℕ) → x + y ≡ 1 → pick (eqb x 1) amount 0 + pick (eqb y 1) amount 0 ≡ amount
one_gives zero y amount e = let q : y ≡ 1 = omega arith in rw q (omega arith)
one_gives (suc x) y amount e =
    let p : x ≡ 0 = omega arith in
    let q : y ≡ 0 = omega arith in
    rw (p, q) (omega arith)

module _ (row : ℕ) (b : Beat) where
  -- two changes behind a change it is as it was there
  pub turned_again : beat_turned row (beat_turned row (beat_turned row b)) ≡ beat_turned row b
  unfolding beat_turned
  turned_again =
      let e = turns_round row b.steps in
      ap (λ (s : ℕ). record { n = b.n; count = b.n; steps = s }) (omega (arith, e))

  -- two changes on it gives the same
  pub gives_again : (amount : ℕ) → beat_gives row amount (beat_turned row (beat_turned row b)) ≡ beat_gives row amount b
  unfolding beat_gives beat_turned
  gives_again amount =
      let e = bit_changes row b.steps in
      let f = bit_changes row (on row b.steps) in
      let g : duty_bit (row / 16) (on row (on row b.steps) / 2) ≡ duty_bit (row / 16) (b.steps / 2) = omega (arith, e, f) in
      ap (λ (x : ℕ). pick (eqb x 1) amount 0) g

  -- what it gives and what it gives at its next change are the amount and 0, or 0 and the amount
  pub gives_other : (amount : ℕ) → beat_gives row amount b + beat_gives row amount (beat_turned row b) ≡ amount
  unfolding beat_gives beat_turned
  gives_other amount =
      one_gives (duty_bit (row / 16) (b.steps / 2)) (duty_bit (row / 16) (on row b.steps / 2)) amount (bit_changes row b.steps)

  -- THE CLOCKS OF TWO RUNS
  pub stills_round : (amount : ℕ)
      → square_still row amount (beat_turned row b) + 1 + (square_still row amount (beat_turned row (beat_turned row b)) + 1)
      ≡ pick (eqb amount 0) 200002 (pick (eqb b.n 0) 2 (16 * b.n))
  unfolding square_still beat_turned
  stills_round amount = go (eqb amount 0)
    where
      x : ℕ
      x = duty_turns row (on row b.steps)

      y : ℕ
      y = duty_turns row (on row (on row b.steps))

      moves : b.n - 1 + x * b.n + 1 + (b.n - 1 + y * b.n + 1) ≡ pick (eqb b.n 0) 2 (16 * b.n)
      moves =
          let d : (x + y) * b.n ≡ x * b.n + y * b.n = add-mul x y b.n in
          let f : (x + y) * b.n ≡ 14 * b.n = ap (λ (k : ℕ). k * b.n) (turns_round row b.steps) in
          pick_each (λ (k : ℕ). b.n - 1 + x * b.n + 1 + (b.n - 1 + y * b.n + 1) ≡ k) (eqb b.n 0)
          (λ e. let z : b.n ≡ 0 = eqb-true _ _ e in omega (arith, d, f))
          (λ e. let z : b.n ≡ 0 → ⊥ = eqb-false _ _ e in omega (arith, d, f))

      go : (t : Bool)
          → pick t forever (b.n - 1 + x * b.n) + 1 + (pick t forever (b.n - 1 + y * b.n) + 1)
          ≡ pick t 200002 (pick (eqb b.n 0) 2 (16 * b.n))
      go true = refl
      go false = moves

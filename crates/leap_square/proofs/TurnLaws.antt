-- The table of turns is right: one computed test. Assumes nothing.
use Rattle.std.proofs.Common.{◌≡◌, ℕ, zero, suc, ◌+◌, ◌*◌, ◌/◌, ◌%◌, ◌<◌, ◌≤◌, Bool, true, false, T, eqb, leb, get_or, sym, refl, ap, ◌∙◌, arith, eqb-true, leb-false, leb-true}
use Rattle.arith.specs.Pick.{both}
use Rattle.arith.specs.Table.{every}
use Rattle.arith.proofs.PickLaws.{both_left, both_right}
use Rattle.arith.proofs.TableLaws.{at}
use Rattle.chip_square.specs.Sequencer.{duties, duty_bit}
use Rattle.leap_square.specs.Leap.{turn_table, duty_turns}

-- the test passes at each number up to n
abbrev up_to : ℕ → (ℕ → Bool) → Bool
up_to zero f = f 0
up_to (suc n) f = both (f (suc n)) (up_to n f)

up_to_at : (n : ℕ) (f : ℕ → Bool) → up_to n f ≡ true → (k : ℕ) → k ≤ n → f k ≡ true
up_to_at zero f t k h = let z : k ≡ 0 = omega arith in rw z t
up_to_at (suc n) f t k h = go (leb (suc n) k) refl (λ q. up_to_at n f (both_right (f (suc n)) (up_to n f) t) k q)
  where
    go : (u : Bool) → leb (suc n) k ≡ u → (k ≤ n → f k ≡ true) → f k ≡ true
    go true e ih =
        let b : suc n ≤ k = leb-true (suc n) k e in
        let q : k ≡ suc n = omega arith in
        rw q (both_left (f (suc n)) (up_to n f) t)
    go false e ih = let b : k < suc n = leb-false (suc n) k e in ih (omega arith)

-- the duty bit is the same j outputs on
abbrev same : ℕ → ℕ → Bool
same k j = eqb (duty_bit (k / 16) ((k % 16 + j) % 16 / 2)) (duty_bit (k / 16) (k % 16 / 2))

-- at place k of the table: at most 13 outputs, and each number of outputs up to the entry leaves the bit
abbrev right : ℕ → ℕ → Bool
right k x = both (leb x 13) (up_to x (same k))

all : T (every right 0 turn_table)
unfolding duty_bit
all = tt

holds : (b : Bool) → T b → b ≡ true
holds true t = refl
holds false t = absurd t

place : ℕ → ℕ → ℕ
place row steps = row / 16 % 4 * 16 + steps % 16

entry : (row steps : ℕ) → right (place row steps) (duty_turns row steps) ≡ true
unfolding duty_turns place
entry row steps = holds _ (at right turn_table all (row / 16 % 4 * 16 + steps % 16) (omega arith))

pub turns_most : (row steps : ℕ) → duty_turns row steps ≤ 13
turns_most row steps =
    leb-true (duty_turns row steps) 13
    (both_left (leb (duty_turns row steps) 13) (up_to (duty_turns row steps) (same (place row steps))) (entry row steps))

bit_of_lem : (row steps p : ℕ) → duty_bit (place row steps / 16) p ≡ duty_bit (row / 16) p
unfolding duty_bit place
bit_of_lem row steps p =
    let e : (row / 16 % 4 * 16 + steps % 16) / 16 % 4 ≡ row / 16 % 4 = omega arith in
    ap (λ (d : ℕ). get_or duties (d * 8 + p % 8) 0) e

low : (row steps : ℕ) → steps ≤ 15 → place row steps % 16 ≡ steps
unfolding place
low row steps h = omega arith

-- THE OUTPUTS THAT LEAVE THE DUTY BIT
pub turns_leave : (row steps j : ℕ) → steps ≤ 15 → j ≤ duty_turns row steps
    → duty_bit (row / 16) ((steps + j) % 16 / 2) ≡ duty_bit (row / 16) (steps / 2)
turns_leave row steps j h q =
    let k : ℕ = place row steps in
    let t : same k j ≡ true =
    up_to_at (duty_turns row steps) (same k)
    (both_right (leb (duty_turns row steps) 13) (up_to (duty_turns row steps) (same k)) (entry row steps)) j q
    in
    let r : k % 16 ≡ steps = low row steps h in
    let e : duty_bit (k / 16) ((k % 16 + j) % 16 / 2) ≡ duty_bit (k / 16) (k % 16 / 2) = eqb-true _ _ t in
    sym (bit_of_lem row steps ((steps + j) % 16 / 2))
    ∙ (rw r at e)
    ∙ bit_of_lem row steps (steps / 2)

-- Blocks judged one by one. Assumes nothing.
use Prim.Native.Nat.{ℕ, ◌+◌}
use mathlib.Core.Bool.{Bool, true, false, not}
use mathlib.Core.List.{List, ◌∷◌}
use mathlib.Core.Path.{◌≡◌, refl, sym, ap, ◌∙◌}
use native.Mathlib.Omega.{arith}
use Rattle.arith.specs.Pick.{pick, both}
use Rattle.vgm_blocks.specs.declared.Filled.{Filled}
use Rattle.vgm_blocks.specs.Blocks.{Block, behind_at, is_block, block_at, is_sample, is_inside, filled_of, judged}
use Rattle.vgm_blocks.specs.Fault.{is_fault}
use Rattle.vgm_blocks.proofs.FuelLaws.{rest_of, rest_next, rest_over}

-- one at fault is the answer
fault : (s i : Bool) (a b c : Filled) → both s (not i) ≡ true → pick s (pick i a b) c ≡ b
fault true true a b c e = cc
fault true false a b c e = refl
fault false i a b c e = cc

judge_fault : (b : Block) (l : List Block) (n : ℕ) → is_fault b ≡ true → judged (b ∷ l) n ≡ filled_of 34 b.place 0
unfolding is_fault judged
judge_fault b l n e = fault (is_sample b) (is_inside b) _ _ _ e

-- any other is passed, and a sample block counted
right : (s i : Bool) (f : ℕ → Filled) (n : ℕ) (b : Filled) → both s (not i) ≡ false → pick s (pick i (f (n + 1)) b) (f n) ≡ f (pick s (n + 1) n)
right true true f n b e = refl
right true false f n b e = cc
right false i f n b e = refl

judge_right : (b : Block) (l : List Block) (n : ℕ) → is_fault b ≡ false → judged (b ∷ l) n ≡ judged l (pick (is_sample b) (n + 1) n)
unfolding is_fault judged
judge_right b l n e = right (is_sample b) (is_inside b) (judged l) n _ e

-- where the answer is no refusal, no block is at fault
none_first : (b : Block) (l : List Block) (n : ℕ) → (judged (b ∷ l) n).number ≡ 0 → is_fault b ≡ false
none_first b l n e = by (is_fault b) refl
  where
    by : (t : Bool) → is_fault b ≡ t → t ≡ false
    by true f = let z : ◌≡◌ {A = ℕ} 34 0 = sym (ap (λ (r : Filled). r.number) (judge_fault b l n f)) ∙ e in absurd (omega arith)
    by false f = refl

module _ (stream : List ℕ) (at : ℕ) (e : is_block stream at ≡ true) where
  first : (n : ℕ) → judged (rest_of stream at) n ≡ judged (block_at stream at ∷ rest_of stream (behind_at stream at)) n
  first n = ap (λ (l : List Block). judged l n) (rest_next stream at e)

  pub fault_here : (n : ℕ) → is_fault (block_at stream at) ≡ true → judged (rest_of stream at) n ≡ filled_of 34 at 0
  unfolding block_at
  fault_here n f = first n ∙ judge_fault (block_at stream at) (rest_of stream (behind_at stream at)) n f

  pub judge_on : (n m r : ℕ) → is_fault (block_at stream at) ≡ false → m ≡ pick (is_sample (block_at stream at)) (n + 1) n → r ≡ behind_at stream at
      → judged (rest_of stream r) m ≡ judged (rest_of stream at) n
  judge_on n m r f p q = rw (p, q) (sym (first n ∙ judge_right (block_at stream at) (rest_of stream (behind_at stream at)) n f))

  -- a sample block is counted, and no other
  pub judge_sample : (n r : ℕ) → is_fault (block_at stream at) ≡ false → is_sample (block_at stream at) ≡ true → r ≡ behind_at stream at
      → judged (rest_of stream r) (n + 1) ≡ judged (rest_of stream at) n
  judge_sample n r f s q = judge_on n (n + 1) r f (rw s) q

  pub judge_other : (n r : ℕ) → is_fault (block_at stream at) ≡ false → is_sample (block_at stream at) ≡ false → r ≡ behind_at stream at
      → judged (rest_of stream r) n ≡ judged (rest_of stream at) n
  judge_other n r f s q = judge_on n n r f (rw s) q

  pub right_here : (n : ℕ) → (judged (rest_of stream at) n).number ≡ 0 → is_fault (block_at stream at) ≡ false
  right_here n h =
      none_first (block_at stream at) (rest_of stream (behind_at stream at)) n (sym (ap (λ (r : Filled). r.number) (first n)) ∙ h)

pub judge_end : (stream : List ℕ) (at n : ℕ) → is_block stream at ≡ false → judged (rest_of stream at) n ≡ filled_of 0 0 n
unfolding judged
judge_end stream at n e = rw (rest_over stream at e)

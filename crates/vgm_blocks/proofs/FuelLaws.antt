-- The blocks from a place on, and the place behind them, need no more steps than bytes are left: what is left from a place on is the block there, and what is left behind
-- it. Assumes nothing.
use Prim.Native.Nat.{ℕ, zero, suc, ◌+◌, ◌-◌, ◌≤◌}
use mathlib.Core.Bool.{Bool, true, false}
use mathlib.Core.List.{List, [], ◌∷◌}
use mathlib.Core.Path.{◌≡◌, refl, sym, ap, ◌∙◌}
use native.Mathlib.Nat.{sub-zero}
use native.Mathlib.Omega.{arith}
use lib.ListN.{length}
use Rattle.arith.specs.Pick.{pick}
use Rattle.arith.proofs.PickLaws.{pick_true, pick_false}
use Rattle.vgm_blocks.specs.Blocks.{Block, behind_at, is_block, block_at, blocks_from, end_from, front_blocks, front_end}
use Rattle.vgm_blocks.proofs.BlockLaws.{behind_more, no_block, block_within}

pick_same : {A : Type 0} (t : Bool) {a b : A} (c : A) → a ≡ b → pick t a c ≡ pick t b c
pick_same t c e = rw e

-- anything that is made block by block: f n at, from a place on, of n blocks at most
module _ {A : Type 0} (stream : List ℕ) (f : ℕ → ℕ → A) (put : ℕ → A → A) (done : ℕ → A)
    (none : (at : ℕ) → f 0 at ≡ done at)
    (more : (n at : ℕ) → f (suc n) at ≡ pick (is_block stream at) (put at (f n (behind_at stream at))) (done at)) where
  over : (n at : ℕ) → is_block stream at ≡ false → f n at ≡ done at
  over zero at e = none at
  over (suc n) at e = more n at ∙ pick_false _ _ _ e

  -- as many steps as bytes are left are enough
  enough : (n m at : ℕ) → length stream ≤ at + n → length stream ≤ at + m → f n at ≡ f m at
  enough zero m at h k = none at ∙ sym (over m at (no_block stream at (omega arith)))
  enough (suc n) zero at h k = over (suc n) at (no_block stream at (omega arith)) ∙ sym (none at)
  enough (suc n) (suc m) at h k =
      let b = behind_more stream at in
      let e = enough n m (behind_at stream at) (omega arith) (omega arith) in
      more n at ∙ pick_same (is_block stream at) (done at) (ap (put at) e) ∙ sym (more m at)

  next : (at : ℕ) → is_block stream at ≡ true → f (length stream - at) at ≡ put at (f (length stream - behind_at stream at) (behind_at stream at))
  next at e =
      let b = behind_more stream at in
      let w = block_within stream at e in
      let left : length stream - at ≡ suc (length stream - at - 1) = omega arith in
      let n = length stream - at - 1 in
      rw left
      (more n at ∙ pick_true _ _ _ e ∙ ap (put at) (enough n (length stream - behind_at stream at) (behind_at stream at) (omega arith) (omega arith)))

-- what is left from a place on
pub rest_of : List ℕ → ℕ → List Block
rest_of stream at = blocks_from stream (length stream - at) at

pub end_of : List ℕ → ℕ → ℕ
end_of stream at = end_from stream (length stream - at) at

module _ (stream : List ℕ) where
  pub rest_front : front_blocks stream ≡ rest_of stream 0
  unfolding front_blocks rest_of
  rest_front = rw sub-zero

  pub rest_next : (at : ℕ) → is_block stream at ≡ true → rest_of stream at ≡ block_at stream at ∷ rest_of stream (behind_at stream at)
  unfolding blocks_from rest_of
  rest_next = next stream (blocks_from stream) (λ at l. block_at stream at ∷ l) (λ at. []) (λ at. refl) (λ n at. refl)

  pub rest_over : (at : ℕ) → is_block stream at ≡ false → rest_of stream at ≡ []
  unfolding blocks_from rest_of
  rest_over at e = over stream (blocks_from stream) (λ at l. block_at stream at ∷ l) (λ at. []) (λ at. refl) (λ n at. refl) (length stream - at) at e

  pub end_front : front_end stream ≡ end_of stream 0
  unfolding front_end end_of
  end_front = rw sub-zero

  pub end_next : (at : ℕ) → is_block stream at ≡ true → end_of stream at ≡ end_of stream (behind_at stream at)
  unfolding end_from end_of
  end_next = next stream (end_from stream) (λ at r. r) (λ at. at) (λ at. refl) (λ n at. refl)

  pub end_over : (at : ℕ) → is_block stream at ≡ false → end_of stream at ≡ at
  unfolding end_from end_of
  end_over at e = over stream (end_from stream) (λ at r. r) (λ at. at) (λ at. refl) (λ n at. refl) (length stream - at) at e

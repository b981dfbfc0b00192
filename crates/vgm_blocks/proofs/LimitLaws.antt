-- The end of the blocks and a fault's place are within the stream. Assumes nothing.
use Prim.Native.Nat.{ℕ, zero, suc, ◌+◌, ◌≤◌}
use mathlib.Core.List.{List, [], ◌∷◌}
use mathlib.Core.Path.{◌≡◌, refl}
use native.Mathlib.Omega.{arith}
use lib.ListN.{length}
use Rattle.arith.proofs.PickLaws.{pick_both, pick_each}
use Rattle.vgm_blocks.specs.declared.Filled.{Filled}
use Rattle.vgm_blocks.specs.Blocks.{Block, behind_at, is_block, block_at, blocks_from, end_from, front_blocks, front_end, is_sample, is_inside, judged}
use Rattle.vgm_blocks.proofs.BlockLaws.{block_within}

module _ (stream : List ℕ) where
  end_in : (n at : ℕ) → at ≤ length stream → end_from stream n at ≤ length stream
  unfolding end_from
  end_in zero at h = h
  end_in (suc n) at h = pick_each (λ (e : ℕ). e ≤ length stream) (is_block stream at) (λ e. end_in n (behind_at stream at) (block_within stream at e)) (λ e. h)

  -- where the commands begin is in the stream, or its end
  pub end_within : front_end stream ≤ length stream
  unfolding front_end
  end_within = end_in (length stream) 0 (omega arith)

-- what the answer for blocks stays below
pub record Limited (size : ℕ) (f : Filled) : Type 0 where
  pub number : f.number ≤ 34
  pub place : f.place ≤ size

-- blocks that begin by a place
abbrev By : ℕ → List Block → Type 0
By size [] = Unit {0}
By size (b ∷ l) = (b.place ≤ size) × By size l

judged_in : (size : ℕ) (l : List Block) (n : ℕ) → By size l → Limited size (judged l n)
unfolding judged
judged_in size [] n h = record { number = omega arith; place = omega arith }
judged_in size (b ∷ l) n h =
    pick_both (Limited size) (is_sample b)
    (pick_both (Limited size) (is_inside b) (judged_in size l (n + 1) h.1) (record { number = omega arith; place = h.0 }))
    (judged_in size l n h.1)

place_of : (stream : List ℕ) (at : ℕ) → (block_at stream at).place ≡ at
unfolding block_at
place_of stream at = refl

by_from : (stream : List ℕ) (n at : ℕ) → at ≤ length stream → By (length stream) (blocks_from stream n at)
unfolding blocks_from
by_from stream zero at h = tt
by_from stream (suc n) at h =
    pick_each (By (length stream)) (is_block stream at) (λ e. (rw (place_of stream at) h, by_from stream n (behind_at stream at) (block_within stream at e))) (λ e. tt)

pub judged_within : (stream : List ℕ) (n : ℕ) → Limited (length stream) (judged (front_blocks stream) n)
unfolding front_blocks
judged_within stream n = judged_in (length stream) (blocks_from stream (length stream) 0) n (by_from stream (length stream) 0 (omega arith))

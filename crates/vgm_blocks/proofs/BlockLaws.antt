-- Laws of the block at a place: it is within the stream, and so is what it holds. Assumes nothing but that it is there.
use Prim.Native.Nat.{ℕ, ◌+◌, ◌-◌, ◌≤◌, ◌<◌}
use mathlib.Core.Bool.{Bool, true, false}
use mathlib.Core.List.{List}
use mathlib.Core.Path.{◌≡◌, refl}
use native.Mathlib.Omega.{arith}
use borrow.Author.Tests.{le-leb, lt-leb, leb-true, ne_eqb}
use lib.Dec.{leb, eqb}
use lib.ListN.{length, take, drop}
use Rattle.std.specs.Prelude.{Option, None, Some}
use Rattle.arith.specs.Pick.{pick, both}
use Rattle.arith.proofs.PickLaws.{both_right}
use Rattle.c_bytes.specs.Fields.{byte_of}
use Rattle.vgm_blocks.specs.Blocks.{size_at, behind_at, is_block, block_at}
use Rattle.vgm_blocks.specs.Fault.{behind_if}

-- a block is at least seven bytes long
pub behind_more : (stream : List ℕ) (at : ℕ) → behind_at stream at ≡ at + 7 + size_at stream at
unfolding behind_at
behind_more stream at = refl

-- where fewer are left there is none
pub no_block : (stream : List ℕ) (at : ℕ) → length stream < at + 7 → is_block stream at ≡ false
unfolding is_block
no_block stream at h =
    let short : length stream < behind_at stream at = omega (arith, behind_more stream at) in
    rw (lt-leb _ _ short) (by (eqb (byte_of stream at) 0x67) (eqb (byte_of stream (at + 1)) 0x66))
  where
    by : (a b : Bool) → both a (both b false) ≡ false
    by true true = refl
    by true false = refl
    by false b = refl

module _ (stream : List ℕ) (at : ℕ) (e : is_block stream at ≡ true) where
  pub block_within : behind_at stream at ≤ length stream
  unfolding is_block
  block_within =
      let whole = leb (behind_at stream at) (length stream) in
      leb-true _ _ (both_right (eqb (byte_of stream (at + 1)) 0x66) whole (both_right (eqb (byte_of stream at) 0x67) (both (eqb (byte_of stream (at + 1)) 0x66) whole) e))

  -- the way on
  pub block_on : (r : ℕ) → r ≡ behind_at stream at → (at + 7 ≤ r) × (r ≤ length stream)
  block_on r f =
      let m = behind_more stream at in
      let w = block_within in
      (omega arith, omega arith)

  pub held_part : take (behind_at stream at - (at + 7)) (drop (at + 7) stream) ≡ (block_at stream at).held
  unfolding block_at
  held_part =
      let size : behind_at stream at - (at + 7) ≡ size_at stream at = omega (arith, behind_more stream at) in
      rw size

-- a whole block by its tests, and none
module _ (stream : List ℕ) (at : ℕ) where
  pub behind_none : length stream < at + 7 → None ≡ behind_if stream at
  unfolding behind_if
  behind_none h = rw (no_block stream at h)

  pub behind_whole : (size : ℕ) → size ≡ size_at stream at → byte_of stream at ≡ 0x67 → byte_of stream (at + 1) ≡ 0x66 → at + 7 + size ≤ length stream
      → Some (at + 7 + size) ≡ behind_if stream at
  unfolding behind_if is_block behind_at
  behind_whole size s a b h = rw (← s, a, b, le-leb (at + 7 + size) (length stream) h)

  pub behind_not_first : (byte_of stream at ≡ 0x67 → ⊥) → None ≡ behind_if stream at
  unfolding behind_if is_block
  behind_not_first h = rw (ne_eqb _ _ h)

  pub behind_not_second : (byte_of stream (at + 1) ≡ 0x66 → ⊥) → None ≡ behind_if stream at
  unfolding behind_if is_block
  behind_not_second h = rw (ne_eqb _ _ h) (by (eqb (byte_of stream at) 0x67))
    where
      by : (a : Bool) → ◌≡◌ {A = Option ℕ} None (pick (both a false) (Some (behind_at stream at)) None)
      by true = refl
      by false = refl

  pub behind_cut : (size : ℕ) → size ≡ size_at stream at → length stream < at + 7 + size → None ≡ behind_if stream at
  unfolding behind_if is_block behind_at
  behind_cut size s h = rw (← s, lt-leb (at + 7 + size) (length stream) h) (by (eqb (byte_of stream at) 0x67) (eqb (byte_of stream (at + 1)) 0x66))
    where
      by : (a b : Bool) → ◌≡◌ {A = Option ℕ} None (pick (both a (both b false)) (Some (at + 7 + size)) None)
      by true true = refl
      by true false = refl
      by false b = refl

  -- what the answer says
  by_some : (r : ℕ) (t : Bool) → is_block stream at ≡ t → Some r ≡ pick t (Some (behind_at stream at)) None → (is_block stream at ≡ true) × (r ≡ behind_at stream at)
  by_some r true e p = (e, cc)
  by_some r false e p = cc

  pub behind_some : (r : ℕ) → Some r ≡ behind_if stream at → (is_block stream at ≡ true) × (r ≡ behind_at stream at)
  unfolding behind_if
  behind_some r p = by_some r (is_block stream at) refl p

  by_over : (t : Bool) → is_block stream at ≡ t → ◌≡◌ {A = Option ℕ} None (pick t (Some (behind_at stream at)) None) → is_block stream at ≡ false
  by_over true e p = cc
  by_over false e p = e

  pub behind_over : None ≡ behind_if stream at → is_block stream at ≡ false
  unfolding behind_if
  behind_over p = by_over (is_block stream at) refl p

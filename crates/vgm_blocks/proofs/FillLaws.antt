-- Blocks over sample memory. Assumes nothing.
use Prim.Native.Nat.{ℕ, ◌+◌, ◌-◌, ◌≤◌}
use mathlib.Core.Bool.{Bool, true, false, not}
use mathlib.Core.List.{List}
use mathlib.Core.Path.{◌≡◌, refl, sym, ◌∙◌}
use native.Mathlib.Omega.{arith}
use borrow.Author.Tests.{leb-true}
use lib.Dec.{leb}
use lib.ListN.{length, drop, length-drop}
use Rattle.arith.specs.Pick.{both}
use Rattle.arith.proofs.PickLaws.{both_left, both_right, pick_true, pick_false}
use Rattle.text_print.specs.Printed.{printed}
use Rattle.text_print.proofs.StoreLaws.{printed_in}
use Rattle.vgm_blocks.specs.Blocks.{Block, behind_at, is_block, block_at, is_sample, address_of, is_inside, fill, fill_all}
use Rattle.vgm_blocks.specs.Fault.{is_fault}
use Rattle.vgm_blocks.proofs.FuelLaws.{rest_of, rest_next, rest_over}

-- a sample block that is not at fault has an address, and its bytes are within 32,768
module _ (b : Block) (s : is_sample b ≡ true) (f : is_fault b ≡ false) where
  inside : is_inside b ≡ true
  unfolding is_fault
  inside = by (is_sample b) (is_inside b) s f
    where
      by : (s i : Bool) → s ≡ true → both s (not i) ≡ false → i ≡ true
      by true true e f = refl
      by true false e f = cc
      by false i e f = cc

  pub has_address : 2 ≤ length b.held
  unfolding is_inside
  has_address = leb-true _ _ (both_left (leb 2 (length b.held)) (both (leb 0x8000 (address_of b)) (leb (address_of b + (length b.held - 2)) 0x10000)) inside)

  within : (0x8000 ≤ address_of b) × (address_of b + (length b.held - 2) ≤ 0x10000)
  unfolding is_inside
  within =
      let low = leb 0x8000 (address_of b) in
      let high = leb (address_of b + (length b.held - 2)) 0x10000 in
      let two = both_right (leb 2 (length b.held)) (both low high) inside in
      (leb-true _ _ (both_left low high two), leb-true _ _ (both_right low high two))

  -- its bytes are written, since there is room for them
  pub fill_held : (memory after : List ℕ) → length memory ≡ 32768 → after ≡ printed memory (address_of b - 0x8000) (drop 2 b.held) → after ≡ fill b memory
  unfolding fill
  fill_held memory after l e =
      let w = within in
      let room : address_of b - 0x8000 + length (drop 2 b.held) ≤ length memory = omega (arith, w.0, w.1, has_address, length-drop 2 b.held) in
      e ∙ printed_in memory (address_of b - 0x8000) (drop 2 b.held) room ∙ sym (pick_true (is_sample b) _ _ s)

-- any other leaves the memory as it is
pub fill_other : (b : Block) (memory : List ℕ) → is_sample b ≡ false → memory ≡ fill b memory
unfolding fill
fill_other b memory e = sym (pick_false (is_sample b) _ _ e)

-- block by block
module _ (stream : List ℕ) (at : ℕ) (e : is_block stream at ≡ true) where
  pub fill_on : (memory after : List ℕ) (r : ℕ) → after ≡ fill (block_at stream at) memory → r ≡ behind_at stream at
      → fill_all (rest_of stream r) after ≡ fill_all (rest_of stream at) memory
  unfolding fill_all
  fill_on memory after r f q = rw (f, q, rest_next stream at e)

pub fill_over : (stream : List ℕ) (at : ℕ) (memory : List ℕ) → is_block stream at ≡ false → fill_all (rest_of stream at) memory ≡ memory
unfolding fill_all
fill_over stream at memory e = rw (rest_over stream at e)

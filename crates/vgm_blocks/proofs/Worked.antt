-- Small streams, worked out by hand. Assumes nothing.
use Prim.Native.Nat.{ℕ, ◌≤◌}
use mathlib.Core.List.{List, [], ◌∷◌, ◌++◌}
use mathlib.Core.Path.{◌≡◌, refl, ◌∙◌}
use lib.ListN.{length, take, drop}
use lib.Seq.{sets, sets-eq}
use Rattle.c_bytes.specs.Numbers.{wide_of}
use Rattle.vgm_blocks.specs.Blocks.{size_at, behind_at, is_block, block_at, blocks_from, end_from, front_blocks, front_end, is_sample, address_of, is_inside, filled_of, judged, fill, fill_all}

-- an empty stream
none_end : front_end [] ≡ 0
unfolding front_end end_from
none_end = refl

none_judged : judged (front_blocks []) 0 ≡ filled_of 0 0 0
unfolding judged front_blocks blocks_from
none_judged = refl

-- a block of type 0 with two bytes, a sample block for $C000 with three, and the end of the stream
abbrev two : List ℕ
two =
    0x67 ∷ 0x66 ∷ 0x00 ∷ 2 ∷ 0 ∷ 0 ∷ 0 ∷ 9 ∷ 9
    ∷ 0x67 ∷ 0x66 ∷ 0xc2 ∷ 5 ∷ 0 ∷ 0 ∷ 0 ∷ 0x00 ∷ 0xc0 ∷ 0x11 ∷ 0x22 ∷ 0x33
    ∷ 0x66 ∷ []

two_end : front_end two ≡ 21
unfolding front_end end_from is_block behind_at size_at wide_of
two_end = refl

two_judged : judged (front_blocks two) 0 ≡ filled_of 0 0 1
unfolding judged front_blocks blocks_from is_block behind_at size_at block_at is_sample is_inside address_of wide_of
two_judged = refl

two_stored : (memory : List ℕ) → fill_all (front_blocks two) memory ≡ sets memory 0x4000 (0x11 ∷ 0x22 ∷ 0x33 ∷ [])
unfolding fill_all fill front_blocks blocks_from is_block behind_at size_at block_at is_sample address_of wide_of
two_stored memory = refl

two_filled : (memory : List ℕ) → 0x4003 ≤ length memory → fill_all (front_blocks two) memory ≡ take 0x4000 memory ++ (0x11 ∷ 0x22 ∷ 0x33 ∷ []) ++ drop 0x4003 memory
two_filled memory h = two_stored memory ∙ sets-eq (0x11 ∷ 0x22 ∷ 0x33 ∷ []) memory 0x4000 h

-- two sample blocks, for $8001 and $8002, the second over the first
abbrev over : List ℕ
over =
    0x67 ∷ 0x66 ∷ 0xc2 ∷ 5 ∷ 0 ∷ 0 ∷ 0 ∷ 0x01 ∷ 0x80 ∷ 1 ∷ 2 ∷ 3
    ∷ 0x67 ∷ 0x66 ∷ 0xc2 ∷ 3 ∷ 0 ∷ 0 ∷ 0 ∷ 0x02 ∷ 0x80 ∷ 7
    ∷ []

over_filled : fill_all (front_blocks over) (0 ∷ 0 ∷ 0 ∷ 0 ∷ 0 ∷ []) ≡ 0 ∷ 1 ∷ 7 ∷ 3 ∷ 0 ∷ []
unfolding fill_all fill front_blocks blocks_from is_block behind_at size_at block_at is_sample address_of wide_of
over_filled = refl

-- the second for $7FFF: refused at its first byte
abbrev below : List ℕ
below =
    0x67 ∷ 0x66 ∷ 0xc2 ∷ 3 ∷ 0 ∷ 0 ∷ 0 ∷ 0x00 ∷ 0x80 ∷ 1
    ∷ 0x67 ∷ 0x66 ∷ 0xc2 ∷ 3 ∷ 0 ∷ 0 ∷ 0 ∷ 0xff ∷ 0x7f ∷ 1
    ∷ []

below_judged : judged (front_blocks below) 0 ≡ filled_of 34 10 0
unfolding judged front_blocks blocks_from is_block behind_at size_at block_at is_sample is_inside address_of wide_of
below_judged = refl

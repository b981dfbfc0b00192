-- Data blocks in front of the commands of a VGM file. "Data blocks `67 66 TT SS SS SS SS` at the front of the stream, before any other command: type $C2 (NES APU
-- RAM write: 16-bit start address, then bytes) fills sample memory at its address ($8000 to $FFFF; a byte outside is refused ..), other types are passed over."
use Rattle.std.specs.Prelude.{ℕ, zero, suc, ◌+◌, ◌-◌, Bool, List, [], ◌∷◌, eqb, leb, length, take, drop, replicate}
use Rattle.std.proofs.lemmas.List.Edits.{sets}
use Rattle.arith.specs.Pick.{pick, both}
use Rattle.c_bytes.specs.Fields.{byte_of}
use Rattle.c_bytes.specs.Numbers.{wide_of}
use Rattle.vgm_blocks.specs.declared.Filled.{Filled}

-- the size that a block at a place has by its own word, and the place behind it
unfoldable pub size_at : List ℕ → ℕ → ℕ
size_at stream at = wide_of stream (at + 3) 4

unfoldable pub behind_at : List ℕ → ℕ → ℕ
behind_at stream at = at + 7 + size_at stream at

-- a whole block stands at a place: one that the stream cuts short is none
unfoldable pub is_block : List ℕ → ℕ → Bool
is_block stream at =
    both (eqb (byte_of stream at) 0x67) (both (eqb (byte_of stream (at + 1)) 0x66) (leb (behind_at stream at) (length stream)))

-- its type, and what it holds
pub record Block : Type 0 where
  pub place : ℕ
  pub kind : ℕ
  pub held : List ℕ

unfoldable pub block_at : List ℕ → ℕ → Block
block_at stream at = record { place = at; kind = byte_of stream (at + 2); held = take (size_at stream at) (drop (at + 7) stream) }

-- THE BLOCKS from a place on, one behind the other, n at most, and the place behind them
unfoldable pub blocks_from : List ℕ → ℕ → ℕ → List Block
blocks_from stream zero at = []
blocks_from stream (suc n) at = pick (is_block stream at) (block_at stream at ∷ blocks_from stream n (behind_at stream at)) []

unfoldable pub end_from : List ℕ → ℕ → ℕ → ℕ
end_from stream zero at = at
end_from stream (suc n) at = pick (is_block stream at) (end_from stream n (behind_at stream at)) at

-- those in front of a stream, which has no more of them than bytes; and where its commands begin
unfoldable pub front_blocks : List ℕ → List Block
front_blocks stream = blocks_from stream (length stream) 0

unfoldable pub front_end : List ℕ → ℕ
front_end stream = end_from stream (length stream) 0

-- "type $C2": the address first, then the bytes for it
unfoldable pub is_sample : Block → Bool
is_sample b = eqb b.kind 0xc2

unfoldable pub address_of : Block → ℕ
address_of b = wide_of b.held 0 2

-- it has an address, and "a byte outside" $8000 to $FFFF there is none
unfoldable pub is_inside : Block → Bool
is_inside b = both (leb 2 (length b.held)) (both (leb 0x8000 (address_of b)) (leb (address_of b + (length b.held - 2)) 0x10000))

abbrev pub filled_of : ℕ → ℕ → ℕ → Filled
filled_of number place blocks = record { number = number; place = place; blocks = blocks }

-- the first sample block at fault, 34 at its first byte; done, how many there are, n before these
unfoldable pub judged : List Block → ℕ → Filled
judged [] n = filled_of 0 0 n
judged (b ∷ l) n = pick (is_sample b) (pick (is_inside b) (judged l (n + 1)) (filled_of 34 b.place 0)) (judged l n)

-- SAMPLE MEMORY behind blocks, each over what was there
unfoldable pub fill : Block → List ℕ → List ℕ
fill b memory = pick (is_sample b) (sets memory (address_of b - 0x8000) (drop 2 b.held)) memory

unfoldable pub fill_all : List Block → List ℕ → List ℕ
fill_all [] memory = memory
fill_all (b ∷ l) memory = fill_all l (fill b memory)

-- THE ANSWER for a stream and lent memory: 1 at 0 for one that isn't 32,768 bytes, then 34
unfoldable pub samples_answer : List ℕ → List ℕ → Filled
samples_answer stream memory = pick (eqb (length memory) 32768) (judged (front_blocks stream) 0) (filled_of 1 0 0)

-- and what it leaves in the memory, "0 where nothing was written"; refused, it stays
unfoldable pub samples_left : List ℕ → List ℕ → List ℕ
samples_left stream memory = pick (eqb (samples_answer stream memory).number 0) (fill_all (front_blocks stream) (replicate 32768 0)) memory

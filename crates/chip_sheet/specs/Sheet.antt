-- Request 5: a sheet for a sample in memory.
use Rattle.std.specs.Prelude.{ℕ, zero, suc, Bool, not, List, [], ◌∷◌, ◌++◌, length, drop, ltb, eqb}
use Rattle.arith.specs.Pick.{pick, either}
use Rattle.chip_dmc_reader.specs.Reader.{byte_at, next_address}
use Rattle.chip_sheet.specs.Byte.{eight_steps}
use Rattle.chip_sheet.specs.declared.Written.{Written}

-- "the level after each byte": n levels from an address and a level on. "Address wraps as in 01." "Length 0 gives no levels."
unfoldable pub sheet_levels : List ℕ → ℕ → ℕ → ℕ → List ℕ
sheet_levels memory zero address level = []
sheet_levels memory (suc n) address level =
    eight_steps (byte_at memory address) level
    ∷ sheet_levels memory n (next_address address) (eight_steps (byte_at memory address) level)

-- "Refusals: 1 first, then 20 .., 21 .., 22 .., 23": the number of the first test that is true; 0 is done
unfoldable pub first_number : (unfit loud outside long tight : Bool) → ℕ
first_number unfit loud outside long tight =
    pick unfit 1
    (pick loud 20
    (pick outside 21
    (pick long 22
    (pick tight 23 0))))

-- 1 "sample memory isn't 32,768 bytes"; "20 for a level above 127, 21 for an address outside 32768..65535, 22 for a length above 4081, 23 for a
-- buffer shorter than the length" (`room` is the buffer's length)
unfoldable pub sheet_number : List ℕ → ℕ → ℕ → ℕ → ℕ → ℕ
sheet_number memory level address n room =
    first_number (not (eqb (length memory) 32768))
    (ltb 127 level)
    (either (ltb address 32768) (ltb 65535 address))
    (ltb 4081 n)
    (ltb room n)

-- the number, and how many levels were written
unfoldable pub sheet_answer : List ℕ → ℕ → ℕ → ℕ → List ℕ → Written
sheet_answer memory level address n buffer =
    pick (eqb (sheet_number memory level address n (length buffer)) 0)
    (record { number = 0; length = n })
    (record { number = sheet_number memory level address n (length buffer); length = 0 })

-- the levels "into a lent buffer, one byte a level"; the bytes behind them stay; refused, all stays
unfoldable pub sheet_buffer : List ℕ → ℕ → ℕ → ℕ → List ℕ → List ℕ
sheet_buffer memory level address n buffer =
    pick (eqb (sheet_number memory level address n (length buffer)) 0)
    (sheet_levels memory n address level ++ drop n buffer)
    buffer

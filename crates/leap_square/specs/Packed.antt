-- Helper: nobody has to believe this; proved equal to the tables of the definitions (proofs/PackedLaws).
-- A duty's row at each of its steps as one number: the outputs that leave its duty bit, 16 times those that leave the other bit behind it, and
-- 256 times the bit.
use Rattle.std.specs.Prelude.{ℕ, ◌+◌, ◌*◌, ◌/◌, ◌%◌, List, [], ◌∷◌, slice_index}

abbrev pub runs_table : List ℕ
runs_table =
    17 ∷ 16 ∷ 465 ∷ 464 ∷ 29 ∷ 28 ∷ 27 ∷ 26 ∷ 25 ∷ 24 ∷ 23 ∷ 22 ∷ 21 ∷ 20 ∷ 19 ∷ 18
    ∷ 49 ∷ 48 ∷ 435 ∷ 434 ∷ 433 ∷ 432 ∷ 59 ∷ 58 ∷ 57 ∷ 56 ∷ 55 ∷ 54 ∷ 53 ∷ 52 ∷ 51 ∷ 50
    ∷ 113 ∷ 112 ∷ 375 ∷ 374 ∷ 373 ∷ 372 ∷ 371 ∷ 370 ∷ 369 ∷ 368 ∷ 119 ∷ 118 ∷ 117 ∷ 116 ∷ 115 ∷ 114
    ∷ 305 ∷ 304 ∷ 179 ∷ 178 ∷ 177 ∷ 176 ∷ 315 ∷ 314 ∷ 313 ∷ 312 ∷ 311 ∷ 310 ∷ 309 ∷ 308 ∷ 307 ∷ 306 ∷ []

unfoldable pub runs_at : ℕ → ℕ → ℕ
runs_at row steps = slice_index runs_table (row / 16 % 4 * 16 + steps % 16)

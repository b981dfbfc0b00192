-- Helper: the table that the code looks A up in. That every entry is A is proved (proofs/TableLaws).
use Rattle.std.specs.Prelude.{ℕ, List, [], ◌∷◌}

-- A for the sums 0 to 30
abbrev pub squares_table : List ℕ
squares_table =
    0 ∷ 381 ∷ 754 ∷ 1118 ∷ 1473 ∷ 1820 ∷ 2159 ∷ 2491 ∷
    2815 ∷ 3132 ∷ 3441 ∷ 3745 ∷ 4041 ∷ 4332 ∷ 4616 ∷ 4894 ∷
    5167 ∷ 5434 ∷ 5696 ∷ 5952 ∷ 6204 ∷ 6450 ∷ 6692 ∷ 6929 ∷
    7162 ∷ 7390 ∷ 7614 ∷ 7834 ∷ 8049 ∷ 8261 ∷ 8469 ∷ []

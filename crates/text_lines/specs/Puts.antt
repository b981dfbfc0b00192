-- Helper: a text put where there is room for it.
use Rattle.std.specs.Prelude.{ℕ, ◌+◌, ◌≤◌, List, length}
use Rattle.text_print.specs.Printed.{Put}

-- with room for it from `at` on the text was put there, and r is the place behind it
abbrev pub Puts : List ℕ → ℕ → List ℕ → List ℕ → ℕ → Type 0
Puts before at text after r = at + length text ≤ length before → Put before at text after r

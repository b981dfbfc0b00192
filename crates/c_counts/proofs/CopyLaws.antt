-- What 128 lent words are. Assumes nothing.
use Prim.Native.Nat.{ℕ}
use mathlib.Core.Path.{◌≡◌}
use mathlib.Core.List.{List}
use lib.ListN.{length}
use borrow.Author.Tests.{eq-eqb}
use Rattle.c_counts.specs.Counts.{table_of, counts_after}

-- 128 lent words are a table, and hold the one that is stored
pub table_of_lem : (words : List ℕ) → length words ≡ 128 → table_of words ≡ words
unfolding table_of
table_of_lem words e = rw (eq-eqb _ _ e)

pub counts_after_lem : (table words : List ℕ) → length words ≡ 128 → counts_after table words ≡ table
unfolding counts_after
counts_after_lem table words e = rw (eq-eqb _ _ e)

-- What writing lines leaves in lent bytes, by the texts of specs/Entries. 23 bytes hold the longest line, `level=2000000000:32767` and its line feed.
use Rattle.std.specs.Prelude.{ℕ, ◌+◌, ◌*◌, ◌≤◌, ◌≡◌, List, leb, length}
use Rattle.std.proofs.lemmas.List.Edits.{sets}
use Rattle.arith.specs.Pick.{pick}
use Rattle.play_text.specs.Entries.{entry_text}
use Rattle.play_text.specs.declared.Entry.{Entry}

-- the text of n lines from `at` on, where 23 bytes are left for each; else nothing
unfoldable pub lines_in : List ℕ → ℕ → ℕ → List ℕ → List ℕ
lines_in out at n text = pick (leb (at + 23 * n) (length out)) (sets out at text) out

-- the place behind it
unfoldable pub lines_end : List ℕ → ℕ → ℕ → List ℕ → ℕ
lines_end out at n text = pick (leb (at + 23 * n) (length out)) (at + length text) at

-- a line from a place on, within the buffer
pub record Lined (before : List ℕ) (at : ℕ) (n : Entry) (after : List ℕ) (r : ℕ) : Type 0 where
  pub place : r ≡ at + length (entry_text n)
  pub bytes : after ≡ sets before at (entry_text n)
  pub fits : r ≤ length before

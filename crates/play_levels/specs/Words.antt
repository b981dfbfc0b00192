-- Helper: nobody has to believe this; text as words of eight bytes, by the texts of play_text's specs/Entries.
use Rattle.std.specs.Prelude.{ℕ, zero, suc, ◌+◌, ◌*◌, ◌/◌, ◌%◌, ◌≤◌, ◌≡◌, List, [], ◌∷◌, ◌++◌, length}
use Rattle.std.proofs.lemmas.List.Edits.{sets}
use Rattle.text.specs.Decimal.{decimal_text}
use Rattle.play_levels.specs.declared.High.{High}

-- bytes as a word, the first one lowest
unfoldable pub word_of : List ℕ → ℕ
word_of [] = 0
word_of (b ∷ l) = b + 256 * word_of l

-- the k lowest bytes of a word, the lowest first
unfoldable pub word_bytes : ℕ → ℕ → List ℕ
word_bytes zero w = []
word_bytes (suc k) w = w % 256 ∷ word_bytes k (w / 256)

-- k numbers of 16 bits in a word, each below 100
unfoldable pub Hundreds : ℕ → ℕ → Type 0
Hundreds zero p = p ≡ 0
Hundreds (suc k) p = (p % 65536 ≤ 99) × Hundreds k (p / 65536)

-- their tens
unfoldable pub tens_of : ℕ → ℕ → ℕ
tens_of zero p = 0
tens_of (suc k) p = p % 65536 / 10 + 65536 * tens_of k (p / 65536)

-- a time but its last four digits
abbrev pub high_of : ℕ → High
high_of t = record { base = t / 10000 * 10000; word = word_of (decimal_text (t / 10000)); size = length (decimal_text (t / 10000)) }

-- a text from `at` on, and behind it no more than k bytes that a later text covers
pub record Ahead (k : ℕ) (before : List ℕ) (at : ℕ) (text after : List ℕ) (r : ℕ) : Type 0 where
  pub place : r ≡ at + length text
  pub size : length after ≡ length before
  pub bytes : (u : List ℕ) → k ≤ length u → sets after r u ≡ sets before at (text ++ u)

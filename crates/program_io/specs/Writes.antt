-- What is known of a text that was written, whatever the system answered. Its answers are left free: each is the number of bytes that a write took, or
-- negative where the write failed.
use Rattle.std.specs.Prelude.{ℕ, ◌≤◌, ◌<◌, ◌≡◌, Bool, true, false, List, eqb, ℤ, length, take}
use Rattle.program_io.specs.Reads.{total, last_empty, others_some}

-- A text of which `all` says whether all was written. Writing goes on until a write takes nothing, fails, or all is written.
pub record Writes (text : List ℕ) (all : Bool) : Type 0 where
  -- left free: what the system answered, write by write
  pub answers : List ℤ
  pub told : all ≡ eqb (total answers) (length text)
  pub within : total answers ≤ length text
  pub onward : others_some answers ≡ true
  pub ended : total answers < length text → last_empty answers ≡ true

-- The same of the first n bytes of a text; one that has fewer isn't written.
pub record FrontWrites (text : List ℕ) (n : ℕ) (all : Bool) : Type 0 where
  pub front : n ≤ length text → Writes (take n text) all
  pub short : length text < n → all ≡ false

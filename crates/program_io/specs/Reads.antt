-- What is known of bytes that were read, whatever the system answered. Its answers are left free: each is the number of bytes that a read brought, 0 at
-- the end of the input, or negative where the read failed.
use Rattle.std.specs.Prelude.{ℕ, ◌+◌, ◌<◌, ◌≡◌, Bool, true, false, not, List, [], ◌∷◌, eqb, ltb, ℤ, pos, negsuc, length, drop}
use Rattle.arith.specs.Pick.{both}
use Rattle.std.specs.Counts.{IsPrefixLen}

-- how many bytes an answer stands for
abbrev pub got : ℤ → ℕ
got (pos n) = n
got (negsuc n) = 0

-- whether an answer says that the read failed
abbrev pub is_failure : ℤ → Bool
is_failure (pos n) = false
is_failure (negsuc n) = true

-- whether an answer is that of a read which brought bytes
abbrev pub is_some : ℤ → Bool
is_some a = ltb 0 (got a)

-- how many bytes all answers stand for
abbrev pub total : List ℤ → ℕ
total [] = 0
total (a ∷ more) = got a + total more

-- whether there are answers and the last one says that the read failed
abbrev pub last_failed : List ℤ → Bool
last_failed [] = false
last_failed (a ∷ []) = is_failure a
last_failed (a ∷ b ∷ more) = last_failed (b ∷ more)

-- whether there are answers and the last one brought nothing
abbrev pub last_empty : List ℤ → Bool
last_empty [] = false
last_empty (a ∷ []) = not (is_some a)
last_empty (a ∷ b ∷ more) = last_empty (b ∷ more)

-- whether every answer but the last one brought bytes
abbrev pub others_some : List ℤ → Bool
others_some [] = true
others_some (a ∷ []) = true
others_some (a ∷ b ∷ more) = both (is_some a) (others_some (b ∷ more))

-- A buffer that was read into: `count` bytes are read, and `failed` says whether a read failed behind them. Reading goes on until a read brings nothing,
-- fails, or the buffer is full.
pub record Reads (before after : List ℕ) (count : ℕ) (failed : Bool) : Type 0 where
  -- left free: what the system answered, read by read
  pub answers : List ℤ
  pub counted : count ≡ total answers
  pub told : failed ≡ last_failed answers
  pub onward : others_some answers ≡ true
  pub ended : count < length before → last_empty answers ≡ true
  pub within : IsPrefixLen count after
  -- the bytes behind those that were read are as they were
  pub rest : drop count after ≡ drop count before
  pub size : length after ≡ length before

-- whether an error's number is that of a file that isn't there, ENOENT
abbrev pub is_missing : ℤ → Bool
is_missing (pos n) = eqb n 2
is_missing (negsuc n) = false

-- The same of a file that is opened first.
pub record FileReads (before after : List ℕ) (count : ℕ) (failed : Bool) : Type 0 where
  -- left free: whether the system opened the file; where it didn't, whether because there is none of that name
  pub opened : Bool
  pub missing : Bool
  pub read : opened ≡ true → Reads before after count failed
  -- only a file that isn't there has no bytes, and that is no failure
  pub unread : opened ≡ false → (count ≡ 0) × (failed ≡ not missing) × (after ≡ before)

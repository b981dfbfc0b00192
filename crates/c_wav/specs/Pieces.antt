-- A list of calls of `wav_on` behind a `begin` that is not refused. Each gets the file's bytes as the one before it left them, and bytes of its own for the
-- piece; there is none behind one that says over.
use Rattle.std.specs.Prelude.{ℕ, ◌+◌, ◌/◌, ◌%◌, ◌^◌, ◌≡◌, Bool, false, List, [], ◌++◌, length, take, eqb, leb}
use Rattle.arith.specs.Pick.{pick}
use Rattle.c_wav.specs.Files.{begin_packed, begin_bytes, Continued}

-- what the header takes out of an answer: a beginning's number and the bytes of the whole file; the bytes of a piece, and whether it was the last
abbrev pub number_of : ℕ → ℕ
number_of answer = answer % 2 ^ 8

abbrev pub size_of : ℕ → ℕ
size_of answer = answer / 2 ^ 32

abbrev pub over_of : ℕ → Bool
over_of answer = eqb (answer / 2 ^ 8 % 2) 1

-- the file's bytes as they are, the pieces joined, how many of them had room for 44 bytes or more, and whether the last call said over
pub data Pieces (log memory : List ℕ) (rate : ℕ) : List ℕ → List ℕ → ℕ → Bool → Type 0 where
  none : (b : List ℕ) → number_of (begin_packed log memory rate b) ≡ 0 → Pieces log memory rate (begin_bytes log memory rate b) [] 0 false
  piece : {b joined : List ℕ} {n : ℕ} (b' out out' : List ℕ) (answer : ℕ) → Pieces log memory rate b joined n false → Continued log memory b b' out out' answer
      → Pieces log memory rate b' (joined ++ take (size_of answer) out') (pick (leb 44 (length out)) (n + 1) n) (over_of answer)

-- A list of calls of `play_on` behind a `begin` that is not refused. Each gets the player's bytes as the one before it left them, and a
-- text of its own; there is none behind one that says over.
use Rattle.std.specs.Prelude.{ℕ, ◌+◌, ◌/◌, ◌%◌, ◌^◌, ◌≡◌, Bool, false, List, [], ◌++◌, length, take, eqb, leb}
use Rattle.arith.specs.Pick.{pick}
use Rattle.c_play.specs.Players.{begin_packed, begin_bytes, Continued}

-- the bytes written, and whether the player is over: what the header takes out of a piece's answer
abbrev pub written_of : ℕ → ℕ
written_of answer = answer / 2 ^ 32

abbrev pub over_of : ℕ → Bool
over_of answer = eqb (answer / 2 ^ 8 % 2) 1

-- the player's bytes as they are, the pieces joined, how many of the texts had 23 bytes or more, and whether the last call said over
pub data Pieces (log memory : List ℕ) : List ℕ → List ℕ → ℕ → Bool → Type 0 where
  none : (b : List ℕ) → begin_packed log memory b ≡ 0 → Pieces log memory (begin_bytes log memory b) [] 0 false
  piece : {b joined : List ℕ} {n : ℕ} (b' text text' : List ℕ) (answer : ℕ) → Pieces log memory b joined n false → Continued log memory b b' text text' answer
      → Pieces log memory b' (joined ++ take (written_of answer) text') (pick (leb 23 (length text)) (n + 1) n) (over_of answer)

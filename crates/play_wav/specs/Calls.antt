-- A list of calls of `wav_on`, each with a buffer of its own.
use Rattle.std.specs.Prelude.{ℕ, ◌+◌, Bool, false, List, [], ◌++◌, length, take, leb}
use Rattle.arith.specs.Pick.{pick}
use Rattle.wav_rules.specs.declared.Wav.{Wav}
use Rattle.play_wav.specs.declared.Sounded.{Sounded}
use Rattle.play_wav.specs.Pieces.{WrittenOn}

-- from a file under way: the pieces joined, how many of the buffers had 44 bytes or more, the file that the last call handed
-- back, and whether it said that all is over. Each call takes the file that the one before it handed back, and there is none behind one that said over.
pub data Calls (log memory : List ℕ) (w : Wav) : List ℕ → ℕ → Wav → Bool → Type 0 where
  none : Calls log memory w [] 0 w false
  call : {joined : List ℕ} {n : ℕ} {v : Wav} (before after : List ℕ) (r : Sounded) → Calls log memory w joined n v false → WrittenOn log memory v before after r
      → Calls log memory w (joined ++ take r.length after) (pick (leb 44 (length before)) (n + 1) n) r.wav r.over

-- A log as a WAV file at the boundary. The file under way crosses as bytes (Wavs), which the caller keeps between two pieces.
use Rattle.std.specs.Prelude.{ℕ, ◌+◌, ◌*◌, ◌^◌, ◌<◌, ◌%◌, ◌≡◌, List, length, eqb}
use Rattle.arith.specs.Pick.{pick}
use Rattle.c_chip.specs.Boundary.{other_length}
use Rattle.c_bytes.specs.Fields.{flag_byte}
use Rattle.c_log.specs.Logs.{log_packed}
use Rattle.wav_rules.specs.declared.Wav.{Wav}
use Rattle.play_wav.specs.declared.Sounded.{Sounded}
use Rattle.play_wav.specs.Pieces.{begun_of, WrittenOn}
use Rattle.c_wav.specs.Wavs.{wav_size, encoded_wav, wav_in, WavFits}

-- the bytes after an answer: done, those of its file; refused, as they were
abbrev pub wav_after : ℕ → Wav → List ℕ → List ℕ
wav_after number w b = pick (eqb number 0) (encoded_wav w) b

-- a beginning: 1, then 2 (other than such a file's bytes are lent), then the number of the log or the rate with its place; done, how many bytes the file has in
-- all
unfoldable pub begin_number : List ℕ → List ℕ → ℕ → List ℕ → ℕ
begin_number log memory rate b = pick (eqb (length b) wav_size) (begun_of log memory rate).number (other_length memory)

unfoldable pub begin_place : List ℕ → List ℕ → ℕ → List ℕ → ℕ
begin_place log memory rate b = pick (eqb (length b) wav_size) (begun_of log memory rate).place 0

unfoldable pub begin_size : List ℕ → List ℕ → ℕ → List ℕ → ℕ
begin_size log memory rate b = pick (eqb (length b) wav_size) (begun_of log memory rate).size 0

abbrev pub begin_packed : List ℕ → List ℕ → ℕ → List ℕ → ℕ
begin_packed log memory rate b = log_packed (begin_number log memory rate b) (begin_place log memory rate b) (begin_size log memory rate b)

abbrev pub begin_bytes : List ℕ → List ℕ → ℕ → List ℕ → List ℕ
begin_bytes log memory rate b = wav_after (begin_number log memory rate b) (begun_of log memory rate).wav b

-- done: "2^8 x over + 2^32 x bytes written"; refused: "number + 2^8 x place", as every answer about a log (24 bits of it: a log's places have 16)
abbrev pub piece_packed : Sounded → ℕ
piece_packed r =
    pick (eqb r.number 0) (2 ^ 8 * flag_byte r.over + 2 ^ 32 * r.length) (log_packed r.number (r.place % 2 ^ 24) 0)

-- WHAT `wav_on` PROMISES of its answer, the bytes b and those of the piece: what `play_wav` promises of the file that b stands for. How full the piece gets is
-- left free, as there.
pub record Continued (log memory b b' out out' : List ℕ) (answer : ℕ) : Type 0 where
  pub sounded : Sounded
  pub does : WrittenOn log memory (wav_in b) out out' sounded
  pub says : answer ≡ piece_packed sounded
  pub small : sounded.number < 2 ^ 8
  -- done, the bytes are those of the file behind the piece, and stand for it; refused, they stay
  pub keeps : b' ≡ wav_after sounded.number sounded.wav b
  pub fits : WavFits sounded.wav

-- A file under way as bytes, low byte first in every number: begun 1, a flag, rate 4, count 4, left 4, sample 8, sum 8, time 8, the cursor's as the crate
-- `c_recording` has them, and last the state's as the crate `c_state` has them.
use Rattle.std.specs.Prelude.{ℕ, ◌+◌, ◌^◌, ◌<◌, Bool, false, List, [], ◌++◌, length, take, drop, eqb}
use Rattle.arith.specs.Pick.{pick}
use Rattle.text.specs.Key.{exactly}
use Rattle.c_bytes.specs.Fields.{flag_byte, flag_of}
use Rattle.c_bytes.specs.Numbers.{wide_bytes, wide_of}
use Rattle.c_recording.specs.Cursors.{cursor_size, cursor_bytes, cursor_of, CursorFits}
use Rattle.c_state.specs.Bytes.{state_size, state_bytes, state_of, outside}
use Rattle.play_walk.specs.Walk.{moment_of}
use Rattle.play_samples.specs.Stepping.{place_of}
use Rattle.play_samples.specs.declared.Place.{Place}
use Rattle.wav_rules.specs.Turns.{wav_of}
use Rattle.wav_rules.specs.declared.Wav.{Wav}

-- where the cursor and the state begin, and how many bytes a file under way is
abbrev pub cursor_place : ℕ
cursor_place = 37

abbrev pub state_place : ℕ
state_place = cursor_place + cursor_size

abbrev pub wav_size : ℕ
wav_size = state_place + state_size

-- WRITTEN

-- the flag, the rate and the samples in all
unfoldable pub file_bytes : Bool → ℕ → ℕ → List ℕ
file_bytes begun rate count = wide_bytes 1 (flag_byte begun) ++ (wide_bytes 4 rate ++ wide_bytes 4 count)

-- the numbers of a place
unfoldable pub place_bytes : Place → List ℕ
place_bytes p = wide_bytes 4 p.left ++ (wide_bytes 8 p.sample ++ (wide_bytes 8 p.sum ++ wide_bytes 8 p.moment.time))

-- what stands before the cursor
unfoldable pub number_bytes : Wav → List ℕ
number_bytes w = file_bytes w.begun w.rate w.count ++ place_bytes w.place

unfoldable pub encoded_wav : Wav → List ℕ
encoded_wav w = number_bytes w ++ (cursor_bytes w.place.moment.cursor ++ state_bytes w.place.moment.state)

-- READ: past the bytes' end everything is 0

-- the bytes of the cursor, and of the state
abbrev pub cursor_part : List ℕ → List ℕ
cursor_part b = take cursor_size (drop cursor_place b)

abbrev pub state_part : List ℕ → List ℕ
state_part b = drop state_place b

unfoldable pub wav_at : List ℕ → Wav
wav_at b =
    let m = moment_of (cursor_of (cursor_part b)) (state_of (state_part b)) (wide_of b 29 8) in
    wav_of (wide_of b 1 4) (wide_of b 5 4) (flag_of b 0) (place_of m (wide_of b 9 4) (wide_of b 13 8) (wide_of b 21 8))

-- these bytes are those of a file under way: read and written back, they are as they were
unfoldable pub is_wav : List ℕ → Bool
is_wav b = exactly (encoded_wav (wav_at b)) b

-- a file whose state is out of range
unfoldable pub outside_wav : Wav
outside_wav = wav_of 0 0 false (place_of (moment_of (cursor_of []) outside 0) 0 0 0)

-- THE FILE THAT BYTES STAND FOR; any other bytes stand for one whose state is out of range
unfoldable pub wav_in : List ℕ → Wav
wav_in b = pick (is_wav b) (wav_at b) outside_wav

-- what writing a file under way to lent bytes leaves in them: its bytes; where other than so many bytes are lent, those as they were
unfoldable pub wav_encoded : Wav → List ℕ → List ℕ
wav_encoded w old = pick (eqb (length old) wav_size) (encoded_wav w) old

-- the ranges of its types, which every file under way has: u32, u64, and a cursor's
pub record WavFits (w : Wav) : Type 0 where
  pub rate : w.rate < 2 ^ 32
  pub count : w.count < 2 ^ 32
  pub left : w.place.left < 2 ^ 32
  pub sample : w.place.sample < 2 ^ 64
  pub sum : w.place.sum < 2 ^ 64
  pub time : w.place.moment.time < 2 ^ 64
  pub cursor : CursorFits w.place.moment.cursor

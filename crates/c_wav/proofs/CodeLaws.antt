-- A file under way, written as bytes, is read back, and what bytes stand for. Assumes nothing but the ranges of its types.
use mathlib.Core.Path.{◌≡◌, refl, sym, ap, ◌∙◌}
use mathlib.Core.Bool.{Bool, true, false, false≢true}
use mathlib.Core.List.{List, ◌++◌, append_assoc}
use Prim.Native.Nat.{ℕ, ◌+◌}
use lib.Dec.{eqb, leb}
use lib.ListN.{length, take, drop}
use lib.Seq.{take_at, drop_at}
use borrow.Author.Tests.{eq-eqb, eqb-true}
use Rattle.arith.specs.Pick.{pick, both}
use Rattle.arith.proofs.PickLaws.{both_left}
use Rattle.text.proofs.KeyLaws.{exactly_is}
use Rattle.chip.specs.Range.{in_range}
use Rattle.c_state.specs.Bytes.{state_bytes, is_state}
use Rattle.c_state.proofs.CodeLaws.{exactly_same, outside_out, state_right, written_read as state-read}
use Rattle.c_bytes.specs.Fields.{flag_byte, byte_of, flag_of}
use Rattle.c_bytes.specs.Numbers.{wide_bytes, wide_of}
use Rattle.c_recording.specs.Cursors.{cursor_size, cursor_bytes}
use Rattle.c_bytes.proofs.WideLaws.{wide_size}
use Rattle.c_bytes.proofs.NumberLaws.{wide_past, wide_read}
use Rattle.c_recording.proofs.PlaceLaws.{cursor_size_lem}
use Rattle.c_recording.proofs.CodeLaws.{read_starts, read_left, written_read as cursor-read}
use Rattle.wav_rules.specs.declared.Wav.{Wav}
use Rattle.c_wav.specs.Wavs.{cursor_place, state_place, wav_size, file_bytes, place_bytes, number_bytes, encoded_wav, cursor_part, state_part, wav_at, is_wav, outside_wav, wav_in, WavFits}
use Rattle.c_wav.proofs.PlaceLaws.{numbers_size, front_size, wav_size_lem}

-- a number before the place that is read
skip : (k x : ℕ) (b : List ℕ) (at n : ℕ) → wide_of (wide_bytes k x ++ b) (k + at) n ≡ wide_of b at n
skip k x b at n = wide_past (wide_bytes k x) b k at n (wide_size k x)

-- a flag in front
flag_first : (on : Bool) (b : List ℕ) → flag_of (wide_bytes 1 (flag_byte on) ++ b) 0 ≡ on
unfolding wide_bytes
flag_first true b = refl
flag_first false b = refl

flag_most : (on : Bool) (b : List ℕ) → leb (byte_of (wide_bytes 1 (flag_byte on) ++ b) 0) 1 ≡ true
unfolding wide_bytes
flag_most true b = refl
flag_most false b = refl

-- the numbers
begun_read : (w : Wav) → flag_of (encoded_wav w) 0 ≡ w.begun
unfolding encoded_wav number_bytes file_bytes place_bytes
begun_read w = simp append_assoc (flag_first w.begun _)

begun_most : (w : Wav) → leb (byte_of (encoded_wav w) 0) 1 ≡ true
unfolding encoded_wav number_bytes file_bytes place_bytes
begun_most w = simp append_assoc (flag_most w.begun _)

module _ (w : Wav) (fits : WavFits w) where
  rate_read : wide_of (encoded_wav w) 1 4 ≡ w.rate
  unfolding encoded_wav number_bytes file_bytes place_bytes
  rate_read = simp append_assoc (skip 1 _ _ 0 4 ∙ wide_read 4 w.rate _ fits.rate)

  count_read : wide_of (encoded_wav w) 5 4 ≡ w.count
  unfolding encoded_wav number_bytes file_bytes place_bytes
  count_read = simp append_assoc (skip 1 _ _ 4 4 ∙ skip 4 _ _ 0 4 ∙ wide_read 4 w.count _ fits.count)

  left_read : wide_of (encoded_wav w) 9 4 ≡ w.place.left
  unfolding encoded_wav number_bytes file_bytes place_bytes
  left_read = simp append_assoc (skip 1 _ _ 8 4 ∙ skip 4 _ _ 4 4 ∙ skip 4 _ _ 0 4 ∙ wide_read 4 w.place.left _ fits.left)

  sample_read : wide_of (encoded_wav w) 13 8 ≡ w.place.sample
  unfolding encoded_wav number_bytes file_bytes place_bytes
  sample_read = simp append_assoc (skip 1 _ _ 12 8 ∙ skip 4 _ _ 8 8 ∙ skip 4 _ _ 4 8 ∙ skip 4 _ _ 0 8 ∙ wide_read 8 w.place.sample _ fits.sample)

  sum_read : wide_of (encoded_wav w) 21 8 ≡ w.place.sum
  unfolding encoded_wav number_bytes file_bytes place_bytes
  sum_read = simp append_assoc (skip 1 _ _ 20 8 ∙ skip 4 _ _ 16 8 ∙ skip 4 _ _ 12 8 ∙ skip 4 _ _ 8 8 ∙ skip 8 _ _ 0 8 ∙ wide_read 8 w.place.sum _ fits.sum)

  time_read : wide_of (encoded_wav w) 29 8 ≡ w.place.moment.time
  unfolding encoded_wav number_bytes file_bytes place_bytes
  time_read = simp append_assoc (skip 1 _ _ 28 8 ∙ skip 4 _ _ 24 8 ∙ skip 4 _ _ 20 8 ∙ skip 4 _ _ 16 8 ∙ skip 8 _ _ 8 8 ∙ skip 8 _ _ 0 8 ∙ wide_read 8 w.place.moment.time _ fits.time)

module _ (w : Wav) (size : length (cursor_bytes w.place.moment.cursor) ≡ cursor_size) where
  -- the bytes of the cursor
  cursor_part_lem : cursor_part (encoded_wav w) ≡ cursor_bytes w.place.moment.cursor
  unfolding encoded_wav
  cursor_part_lem =
      ap (take cursor_size) (drop_at (number_bytes w) _ cursor_place (numbers_size w))
      ∙ take_at (cursor_bytes w.place.moment.cursor) (state_bytes w.place.moment.state) cursor_size size

  -- the bytes of the state
  state_part_lem : state_part (encoded_wav w) ≡ state_bytes w.place.moment.state
  unfolding encoded_wav
  state_part_lem =
      let c = cursor_bytes w.place.moment.cursor in
      let s = state_bytes w.place.moment.state in
      ap (drop state_place) (sym (append_assoc (number_bytes w) c s))
      ∙ drop_at (number_bytes w ++ c) s state_place (front_size w size)

-- what was written is read
pub written_read : (w : Wav) → WavFits w → wav_at (encoded_wav w) ≡ w
unfolding wav_at
written_read w fits =
    let size = cursor_size_lem w.place.moment.cursor fits.cursor.log.starts.0 fits.cursor.log.left.0 in
    rw (
      begun_read w,
      rate_read w fits,
      count_read w fits,
      left_read w fits,
      sample_read w fits,
      sum_read w fits,
      time_read w fits,
      state_part_lem w size,
      state-read w.place.moment.state,
      cursor_part_lem w size,
      cursor-read w.place.moment.cursor fits.cursor,
    )

-- WHAT TELLS BYTES: their number, a flag in front, and a state's bytes at the end
unfoldable pub told : List ℕ → Bool
told b = both (eqb (length b) wav_size) (both (leb (byte_of b 0) 1) (is_state (state_part b)))

wav_told : (w : Wav) → length w.place.moment.cursor.log.starts ≡ 8 → length w.place.moment.cursor.log.left ≡ 8 → told (encoded_wav w) ≡ true
unfolding told
wav_told w s l =
    rw (eq-eqb _ _ (wav_size_lem w s l), begun_most w, state_part_lem w (cursor_size_lem w.place.moment.cursor s l)) (state_right w.place.moment.state)

-- a file that was read has such bytes
pub read_told : (b : List ℕ) → told (encoded_wav (wav_at b)) ≡ true
unfolding wav_at
read_told b = wav_told (wav_at b) (read_starts (cursor_part b)) (read_left (cursor_part b))

-- BYTES OF A FILE UNDER WAY

-- written ones are
wav_right : (w : Wav) → WavFits w → is_wav (encoded_wav w) ≡ true
unfolding is_wav
wav_right w fits = rw (written_read w fits) (exactly_same (encoded_wav w))

-- they have their length
wav_long : (b : List ℕ) → is_wav b ≡ true → length b ≡ wav_size
unfolding is_wav told
wav_long b e = ap length (exactly_is (encoded_wav (wav_at b)) b e) ∙ eqb-true (length (encoded_wav (wav_at b))) wav_size (both_left _ _ (read_told b))

-- WHAT BYTES STAND FOR

-- the bytes of a file stand for it
pub written_in : (w : Wav) → WavFits w → wav_in (encoded_wav w) ≡ w
unfolding wav_in
written_in w fits = rw (wav_right w fits) (written_read w fits)

-- bytes that stand for a file whose state is in range have its length
pub in_long : (b : List ℕ) → in_range (wav_in b).place.moment.state ≡ true → length b ≡ wav_size
unfolding wav_in outside_wav
in_long b e = by (is_wav b) refl e
  where
    by : (t : Bool) → is_wav b ≡ t → in_range (pick t (wav_at b) outside_wav).place.moment.state ≡ true → length b ≡ wav_size
    by true f g = wav_long b f
    by false f g = absurd (false≢true (sym outside_out ∙ g))

-- Bytes that are told by their number, a flag and the state's bytes are those that are written back as they were. Assumes nothing.
use mathlib.Core.Path.{◌≡◌, refl, ap, ◌∙◌}
use mathlib.Core.Bool.{true}
use mathlib.Core.List.{List, [], ◌∷◌, append_assoc}
use Prim.Native.Nat.{ℕ, zero, suc, ◌+◌, ◌≤◌}
use native.Mathlib.Omega.{arith}
use lib.ListN.{length, get_or, take, drop, length-drop}
use lib.Seq.{get_or-drop, length-take-le}
use lib.Dec.{eqb, leb}
use borrow.Author.Tests.{eqb-true, leb-true}
use Rattle.arith.proofs.PickLaws.{both_left, both_right}
use Rattle.text.specs.Key.{exactly}
use Rattle.text.proofs.KeyLaws.{exactly_is}
use Rattle.c_bytes.specs.Fields.{flag_byte, byte_of, flag_of}
use Rattle.c_bytes.specs.Numbers.{wide_bytes, wide_of}
use Rattle.c_state.proofs.BackLaws.{alike}
use Rattle.c_state.proofs.CodeLaws.{exactly_same, read_written as state_written}
use Rattle.c_recording.specs.Cursors.{cursor_size}
use Rattle.c_bytes.proofs.NumberLaws.{cut, wide_kept}
use Rattle.c_recording.proofs.CodeLaws.{read_written as cursor_written}
use Rattle.c_wav.specs.Wavs.{cursor_place, wav_size, file_bytes, place_bytes, number_bytes, encoded_wav, cursor_part, state_part, wav_at, is_wav}
use Rattle.c_wav.proofs.CodeLaws.{told, read_told}

taken : (n : ℕ) (l : List ℕ) → ((i : ℕ) → get_or l i 0 ≤ 255) → (i : ℕ) → get_or (take n l) i 0 ≤ 255
taken zero l h i = omega arith
taken (suc n) [] h i = omega arith
taken (suc n) (x ∷ l) h zero = h 0
taken (suc n) (x ∷ l) h (suc i) = taken n l (λ j. h (suc j)) i

flag_kept : (x : ℕ) → x ≤ 1 → flag_byte (eqb x 1) ≡ x
flag_kept zero h = refl
flag_kept (suc zero) h = refl
flag_kept (suc (suc x)) h = absurd (omega arith)

module _ (b : List ℕ) (bytes : (i : ℕ) → byte_of b i ≤ 255) where
  dropped : (n i : ℕ) → byte_of (drop n b) i ≤ 255
  dropped n i = rw (get_or-drop n b i 0) (bytes (n + i))

  -- a flag is written back
  flag_back : byte_of b 0 ≤ 1 → 1 ≤ length b → wide_bytes 1 (flag_byte (flag_of b 0)) ≡ take 1 (drop 0 b)
  unfolding wide_of
  flag_back h l =
      let e : flag_byte (flag_of b 0) ≡ wide_of b 0 1 = flag_kept (byte_of b 0) h ∙ omega arith in
      ap (wide_bytes 1) e ∙ wide_kept b bytes 0 1 l

  told_written : told b ≡ true → encoded_wav (wav_at b) ≡ b
  unfolding told encoded_wav number_bytes file_bytes place_bytes wav_at
  told_written e =
      let size : length b ≡ wav_size = eqb-true (length b) wav_size (both_left _ _ e) in
      let more = both_right (eqb (length b) wav_size) _ e in
      let flag : byte_of b 0 ≤ 1 = leb-true (byte_of b 0) 1 (both_left _ _ more) in
      let state = state_written (state_part b) (both_right (leb (byte_of b 0) 1) _ more) in
      let long : length (cursor_part b) ≡ cursor_size = length-take-le cursor_size (drop cursor_place b) (simp length-drop (omega arith)) in
      let cursor = cursor_written (cursor_part b) (taken cursor_size (drop cursor_place b) (dropped cursor_place)) long in
      simp append_assoc (rw (
        flag_back flag (omega arith),
        wide_kept b bytes 1 4 (omega arith),
        wide_kept b bytes 5 4 (omega arith),
        wide_kept b bytes 9 4 (omega arith),
        wide_kept b bytes 13 8 (omega arith),
        wide_kept b bytes 21 8 (omega arith),
        wide_kept b bytes 29 8 (omega arith),
        state,
        cursor,
        ← cut b cursor_place cursor_size,
        ← cut b 29 8,
        ← cut b 21 8,
        ← cut b 13 8,
        ← cut b 9 4,
        ← cut b 5 4,
        ← cut b 1 4,
        ← cut b 0 1,
      ))

  -- THE CODE TELLS THEM RIGHT
  pub told_right : told b ≡ is_wav b
  unfolding is_wav
  told_right =
      alike (told b) (exactly (encoded_wav (wav_at b)) b) (λ e. rw (told_written e) (exactly_same b))
      (λ e. rw (exactly_is (encoded_wav (wav_at b)) b e) (read_told b))

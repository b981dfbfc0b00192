-- The parts of a file under way written one behind the other are its bytes. Assumes nothing.
use mathlib.Core.Path.{◌≡◌, sym, ap, ◌∙◌}
use mathlib.Core.Bool.{Bool}
use mathlib.Core.List.{List, ◌++◌}
use Prim.Native.Nat.{ℕ, ◌+◌}
use native.Mathlib.Omega.{arith}
use lib.ListN.{length, length-append}
use lib.Seq.{sets}
use Rattle.c_state.specs.Bytes.{state_bytes}
use Rattle.c_state.proofs.CodeLaws.{state_size_lem}
use Rattle.c_bytes.specs.Fields.{flag_byte}
use Rattle.c_bytes.specs.Numbers.{wide_bytes}
use Rattle.c_recording.specs.Cursors.{cursor_size, cursor_bytes}
use Rattle.c_bytes.proofs.WideLaws.{wide_size}
use Rattle.c_bytes.proofs.PlaceLaws.{put_next, put_all}
use Rattle.c_recording.proofs.PlaceLaws.{cursor_size_lem}
use Rattle.play_samples.specs.declared.Place.{Place}
use Rattle.wav_rules.specs.declared.Wav.{Wav}
use Rattle.c_wav.specs.Wavs.{cursor_place, state_place, wav_size, file_bytes, place_bytes, number_bytes, encoded_wav}

-- the flag, the rate and the samples in all
pub put_file :
    (begun : Bool) (flag rate count : ℕ) (old b₁ b₂ b₃ : List ℕ)
    → flag ≡ flag_byte begun
    → b₁ ≡ sets old 0 (wide_bytes 1 flag)
    → b₂ ≡ sets b₁ 1 (wide_bytes 4 rate)
    → b₃ ≡ sets b₂ 5 (wide_bytes 4 count)
    → b₃ ≡ sets old 0 (file_bytes begun rate count)
unfolding file_bytes
put_file begun flag rate count old b₁ b₂ b₃ i e₁ e₂ e₃ =
    rw (← i)
    (put_next (wide_bytes 1 flag) _ old b₁ b₃ 0 1 (omega (arith, wide_size 1 flag)) e₁
    (put_next (wide_bytes 4 rate) (wide_bytes 4 count) b₁ b₂ b₃ 1 5 (omega (arith, wide_size 4 rate)) e₂ e₃))

-- the numbers of a place
pub put_place :
    (p : Place) (old b₁ b₂ b₃ b₄ : List ℕ)
    → b₁ ≡ sets old 9 (wide_bytes 4 p.left)
    → b₂ ≡ sets b₁ 13 (wide_bytes 8 p.sample)
    → b₃ ≡ sets b₂ 21 (wide_bytes 8 p.sum)
    → b₄ ≡ sets b₃ 29 (wide_bytes 8 p.moment.time)
    → b₄ ≡ sets old 9 (place_bytes p)
unfolding place_bytes
put_place p old b₁ b₂ b₃ b₄ e₁ e₂ e₃ e₄ =
    put_next (wide_bytes 4 p.left) _ old b₁ b₄ 9 13 (omega (arith, wide_size 4 p.left)) e₁
    (put_next (wide_bytes 8 p.sample) _ b₁ b₂ b₄ 13 21 (omega (arith, wide_size 8 p.sample)) e₂
    (put_next (wide_bytes 8 p.sum) (wide_bytes 8 p.moment.time) b₂ b₃ b₄ 21 29 (omega (arith, wide_size 8 p.sum)) e₃ e₄))

file_size : (begun : Bool) (rate count : ℕ) → length (file_bytes begun rate count) ≡ 9
unfolding file_bytes
file_size begun rate count = simp (length-append, wide_size)

module _ (w : Wav) where
  pub numbers_size : length (number_bytes w) ≡ cursor_place
  unfolding number_bytes file_bytes place_bytes
  numbers_size = simp (length-append, wide_size)

  module _ (size : length (cursor_bytes w.place.moment.cursor) ≡ cursor_size) where
    -- what stands before the state
    pub front_size : length (number_bytes w ++ cursor_bytes w.place.moment.cursor) ≡ state_place
    front_size = length-append (number_bytes w) (cursor_bytes w.place.moment.cursor) ∙ omega (arith, numbers_size)

    whole_size : length (encoded_wav w) ≡ wav_size
    unfolding encoded_wav
    whole_size = simp length-append (omega (arith, numbers_size, state_size_lem w.place.moment.state))

    -- the whole
    pub put_wav : (old b₁ b₂ b₃ b₄ : List ℕ) → length old ≡ wav_size
        → b₁ ≡ sets old 0 (file_bytes w.begun w.rate w.count)
        → b₂ ≡ sets b₁ 9 (place_bytes w.place)
        → b₃ ≡ sets b₂ cursor_place (cursor_bytes w.place.moment.cursor)
        → b₄ ≡ sets b₃ state_place (state_bytes w.place.moment.state)
        → b₄ ≡ encoded_wav w
    unfolding encoded_wav number_bytes
    put_wav old b₁ b₂ b₃ b₄ h e₁ e₂ e₃ e₄ =
        let s = state_bytes w.place.moment.state in
        let c = cursor_bytes w.place.moment.cursor in
        let f = file_bytes w.begun w.rate w.count in
        let front = put_next f (place_bytes w.place) old b₁ b₂ 0 9 (ap (λ (k : ℕ). 0 + k) (file_size w.begun w.rate w.count)) e₁ e₂ in
        let behind = put_next c s b₂ b₃ b₄ cursor_place state_place (ap (λ (k : ℕ). cursor_place + k) size) e₃ e₄ in
        put_all (encoded_wav w) old b₄ (whole_size ∙ sym h)
        (put_next (number_bytes w) (c ++ s) old b₂ b₄ 0 cursor_place (ap (λ (k : ℕ). 0 + k) numbers_size) front behind)

-- how many bytes a file under way is
pub wav_size_lem : (w : Wav) → length w.place.moment.cursor.log.starts ≡ 8 → length w.place.moment.cursor.log.left ≡ 8 → length (encoded_wav w) ≡ wav_size
wav_size_lem w s l = whole_size w (cursor_size_lem w.place.moment.cursor s l)

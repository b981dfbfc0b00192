-- The head's parts written one behind the other are the head. Assumes nothing.
use Prim.Native.Nat.{ℕ, ◌+◌, ◌*◌, ◌≤◌, ◌<◌}
use mathlib.Core.Path.{◌≡◌, refl, ap, ◌∙◌}
use mathlib.Core.Bool.{true, false}
use mathlib.Core.List.{List, ◌++◌, append_assoc}
use native.Mathlib.Omega.{arith}
use borrow.Author.Tests.{le-leb, lt-leb}
use lib.ListN.{length, take, drop, length-append}
use lib.Seq.{sets, sets-eq, length-sets, take_at}
use Rattle.text.specs.Ascii.{bytes}
use Rattle.text_print.specs.Printed.{printed}
use Rattle.text_print.proofs.StoreLaws.{printed_in, written, kept}
use Rattle.c_bytes.specs.Numbers.{wide_bytes}
use Rattle.c_bytes.proofs.WideLaws.{wide_size}
use Rattle.c_bytes.proofs.PlaceLaws.{put_next}
use Rattle.wav_rules.specs.Sound.{wav_head}
use Rattle.wav_rules.specs.declared.Wav.{Wav}
use Rattle.wav_rules.specs.Turns.{wav_of}
use Rattle.wav_rules.proofs.SizeLaws.{head_length}
use Rattle.play_wav.specs.declared.Sounded.{Sounded}
use Rattle.play_wav.specs.Pieces.{sounded_of, Headed}
use Rattle.play_wav.specs.Head.{riff_part, form_part, rate_part, data_part}

riff_size : (count : ℕ) → length (riff_part count) ≡ 16
unfolding riff_part
riff_size count = simp (length-append, wide_size)

form_size : length form_part ≡ 8
unfolding form_part
form_size = simp (length-append, wide_size)

rate_size : (rate : ℕ) → length (rate_part rate) ≡ 12
unfolding rate_part
rate_size rate = simp (length-append, wide_size)

data_size : (count : ℕ) → length (data_part count) ≡ 8
unfolding data_part
data_size count = simp wide_size

parts : (rate count : ℕ) → riff_part count ++ (form_part ++ (rate_part rate ++ data_part count)) ≡ wav_head rate count
unfolding riff_part form_part rate_part data_part wav_head
parts rate count = simp append_assoc

pub put_riff : (count : ℕ) (old b₁ b₂ b₃ : List ℕ) → 44 ≤ length old → b₁ ≡ printed old 0 (bytes "RIFF") → b₂ ≡ sets b₁ 4 (wide_bytes 4 (36 + 2 * count))
    → b₃ ≡ printed b₂ 8 (bytes "WAVEfmt ") → b₃ ≡ sets old 0 (riff_part count)
unfolding riff_part
put_riff count old b₁ b₂ b₃ h e₁ e₂ e₃ =
    let f₁ = e₁ ∙ printed_in old 0 (bytes "RIFF") (omega arith) in
    let l₁ = ap length f₁ ∙ length-sets old 0 (bytes "RIFF") in
    let l₂ = ap length e₂ ∙ length-sets b₁ 4 (wide_bytes 4 (36 + 2 * count)) in
    let f₃ = e₃ ∙ printed_in b₂ 8 (bytes "WAVEfmt ") (omega arith) in
    put_next (bytes "RIFF") (wide_bytes 4 (36 + 2 * count) ++ bytes "WAVEfmt ") old b₁ b₃ 0 4 refl f₁
    (put_next (wide_bytes 4 (36 + 2 * count)) (bytes "WAVEfmt ") b₁ b₂ b₃ 4 8 (omega (arith, wide_size 4 (36 + 2 * count))) e₂ f₃)

pub put_form : (old b₁ b₂ b₃ : List ℕ) → b₁ ≡ sets old 16 (wide_bytes 4 16) → b₂ ≡ sets b₁ 20 (wide_bytes 2 1) → b₃ ≡ sets b₂ 22 (wide_bytes 2 1)
    → b₃ ≡ sets old 16 form_part
unfolding form_part
put_form old b₁ b₂ b₃ e₁ e₂ e₃ =
    put_next (wide_bytes 4 16) _ old b₁ b₃ 16 20 (omega (arith, wide_size 4 16)) e₁
    (put_next (wide_bytes 2 1) (wide_bytes 2 1) b₁ b₂ b₃ 20 22 (omega (arith, wide_size 2 1)) e₂ e₃)

pub put_rate : (rate : ℕ) (old b₁ b₂ b₃ b₄ : List ℕ) → b₁ ≡ sets old 24 (wide_bytes 4 rate) → b₂ ≡ sets b₁ 28 (wide_bytes 4 (2 * rate)) → b₃ ≡ sets b₂ 32 (wide_bytes 2 2)
    → b₄ ≡ sets b₃ 34 (wide_bytes 2 16) → b₄ ≡ sets old 24 (rate_part rate)
unfolding rate_part
put_rate rate old b₁ b₂ b₃ b₄ e₁ e₂ e₃ e₄ =
    put_next (wide_bytes 4 rate) _ old b₁ b₄ 24 28 (omega (arith, wide_size 4 rate)) e₁
    (put_next (wide_bytes 4 (2 * rate)) _ b₁ b₂ b₄ 28 32 (omega (arith, wide_size 4 (2 * rate))) e₂
    (put_next (wide_bytes 2 2) (wide_bytes 2 16) b₂ b₃ b₄ 32 34 (omega (arith, wide_size 2 2)) e₃ e₄))

pub put_data : (count : ℕ) (old b₁ b₂ : List ℕ) → 44 ≤ length old → b₁ ≡ printed old 36 (bytes "data") → b₂ ≡ sets b₁ 40 (wide_bytes 4 (2 * count))
    → b₂ ≡ sets old 36 (data_part count)
unfolding data_part
put_data count old b₁ b₂ h e₁ e₂ =
    put_next (bytes "data") (wide_bytes 4 (2 * count)) old b₁ b₂ 36 40 refl (e₁ ∙ printed_in old 36 (bytes "data") (omega arith)) e₂

-- the four of them
pub put_head : (rate count : ℕ) (old b₁ b₂ b₃ b₄ : List ℕ) → b₁ ≡ sets old 0 (riff_part count) → b₂ ≡ sets b₁ 16 form_part → b₃ ≡ sets b₂ 24 (rate_part rate)
    → b₄ ≡ sets b₃ 36 (data_part count) → b₄ ≡ sets old 0 (wav_head rate count)
put_head rate count old b₁ b₂ b₃ b₄ e₁ e₂ e₃ e₄ =
    put_next (riff_part count) _ old b₁ b₄ 0 16 (ap (λ (k : ℕ). 0 + k) (riff_size count)) e₁
    (put_next form_part _ b₁ b₂ b₄ 16 24 (omega (arith, form_size)) e₂
    (put_next (rate_part rate) (data_part count) b₂ b₃ b₄ 24 36 (omega (arith, rate_size rate)) e₃ e₄))
    ∙ ap (sets old 0) (parts rate count)

-- WHAT A CALL ANSWERS, with less than 44 bytes and with 44 or more
module _ (w : Wav) (before : List ℕ) where
  pub headed_none : (r : Sounded) → length before < 44 → r ≡ sounded_of 0 0 w 0 false → Headed w before before r
  headed_none r h e =
      record { answer = e ∙ rw (lt-leb 44 (length before) h); bytes = (kept before 0 (wav_head w.rate w.count) 44 (head_length w.rate w.count) h).1 }

  pub headed : (after : List ℕ) (v : Wav) (r : Sounded) → 44 ≤ length before → after ≡ sets before 0 (wav_head w.rate w.count)
      → v ≡ wav_of w.rate w.count true w.place → r ≡ sounded_of 0 0 v 44 false → Headed w before after r
  headed after v r h e i f =
      record {
        answer = f ∙ (ap (λ (x : Wav). sounded_of 0 0 x 44 false) i ∙ rw (le-leb 44 (length before) h));
        bytes = (written before 0 (wav_head w.rate w.count) 44 (head_length w.rate w.count) h after e).1;
      }

-- the head is what stands in front then
pub head_front : (rate count : ℕ) (before after : List ℕ) → 44 ≤ length before → after ≡ printed before 0 (wav_head rate count) → take 44 after ≡ wav_head rate count
head_front rate count before after h e =
    let v = wav_head rate count in
    let n = head_length rate count in
    ap (take 44) (e ∙ printed_in before 0 v (omega arith) ∙ sets-eq v before 0 (omega arith)) ∙ take_at v (drop (0 + length v) before) 44 n

-- A state's parts copied one behind the other are its bytes. Assumes nothing.
use mathlib.Core.Path.{◌≡◌, refl, ap, ◌∙◌}
use mathlib.Core.List.{List, [], ◌++◌, append_assoc, append-nil}
use Prim.Native.Nat.{ℕ}
use native.Mathlib.Omega.{arith}
use lib.ListN.{length, drop, length-append, length-drop, drop_of_length-le}
use lib.Seq.{paste, take_at, take-length, drop-append-add}
use Rattle.chip.specs.declared.State.{State}
use Rattle.c_state.specs.Bytes.{state_size, square_bytes, triangle_bytes, noise_bytes, dmc_bytes, frame_bytes, state_bytes}

-- a part copied behind what is done
put_next : (done rest part : List ℕ) (at n : ℕ) → length done ≡ at → length part ≡ n → paste (done ++ rest) at part n ≡ (done ++ part) ++ drop n rest
put_next done rest part at n e l =
    rw (← e, ← l, take_at done rest (length done) refl, take-length part, drop-append-add done rest (length part))

-- six parts, of the lengths of a state's
put_six :
    (old a b c d e f : List ℕ)
    → length old ≡ state_size
    → length a ≡ 21
    → length b ≡ 21
    → length c ≡ 11
    → length d ≡ 14
    → length e ≡ 18
    → length f ≡ 6
    → paste (paste (paste (paste (paste (paste old 0 a 21) 21 b 21) 42 c 11) 53 d 14) 67 e 18) 85 f 6 ≡ a ++ (b ++ (c ++ (d ++ (e ++ f))))
put_six old a b c d e f ho ha hb hc hd he hf =
    rw (
      put_next [] old a 0 21 refl ha,
      put_next a (drop 21 old) b 21 21 ha hb,
      put_next (a ++ b) (drop 21 (drop 21 old)) c 42 11 (simp length-append (omega arith)) hc,
      put_next ((a ++ b) ++ c) (drop 11 (drop 21 (drop 21 old))) d 53 14 (simp length-append (omega arith)) hd,
      put_next (((a ++ b) ++ c) ++ d) (drop 14 (drop 11 (drop 21 (drop 21 old)))) e 67 18 (simp length-append (omega arith)) he,
      put_next ((((a ++ b) ++ c) ++ d) ++ e) (drop 18 (drop 14 (drop 11 (drop 21 (drop 21 old))))) f 85 6 (simp length-append (omega arith)) hf,
      drop_of_length-le (drop 18 (drop 14 (drop 11 (drop 21 (drop 21 old))))) {i = 6} (simp length-drop (omega arith)),
    )
    (simp (append-nil, append_assoc))

-- the bytes after each part of a state
pub put_state :
    (s : State) (old b₁ b₂ b₃ b₄ b₅ b₆ : List ℕ)
    → length old ≡ state_size
    → b₁ ≡ paste old 0 (square_bytes s.square1) 21
    → b₂ ≡ paste b₁ 21 (square_bytes s.square2) 21
    → b₃ ≡ paste b₂ 42 (triangle_bytes s.triangle) 11
    → b₄ ≡ paste b₃ 53 (noise_bytes s.noise) 14
    → b₅ ≡ paste b₄ 67 (dmc_bytes s.dmc) 18
    → b₆ ≡ paste b₅ 85 (frame_bytes s.frame s.pal) 6
    → b₆ ≡ state_bytes s
unfolding square_bytes triangle_bytes noise_bytes dmc_bytes frame_bytes state_bytes
put_state s old b₁ b₂ b₃ b₄ b₅ b₆ h e₁ e₂ e₃ e₄ e₅ e₆ =
    e₆
    ∙ ap (λ (b : List ℕ). paste b 85 (frame_bytes s.frame s.pal) 6) (e₅
    ∙ ap (λ (b : List ℕ). paste b 67 (dmc_bytes s.dmc) 18) (e₄
    ∙ ap (λ (b : List ℕ). paste b 53 (noise_bytes s.noise) 14) (e₃
    ∙ ap (λ (b : List ℕ). paste b 42 (triangle_bytes s.triangle) 11) (e₂
    ∙ ap (λ (b : List ℕ). paste b 21 (square_bytes s.square2) 21) e₁))))
    ∙ put_six old (square_bytes s.square1) (square_bytes s.square2) (triangle_bytes s.triangle) (noise_bytes s.noise) (dmc_bytes s.dmc) (frame_bytes s.frame s.pal) h refl refl refl refl refl refl

-- Bytes that are told by number and flags are those that are written back as they were. Assumes nothing.
use mathlib.Core.Path.{◌≡◌, refl, sym, ap, ◌∙◌}
use mathlib.Core.Bool.{Bool, true, false}
use mathlib.Core.List.{List, [], ◌∷◌, ◌++◌, append-nil}
use Prim.Native.Nat.{ℕ, zero, suc, ◌+◌, ◌*◌, ◌≤◌}
use native.Mathlib.Nat.{add-zero, add_assoc}
use native.Mathlib.Omega.{arith}
use lib.ListN.{length, drop, drop_of_length-le}
use lib.Seq.{drop-cons}
use lib.Dec.{leb, eqb}
use borrow.Author.Tests.{leb-true, eqb-true}
use Rattle.arith.proofs.PickLaws.{both_left, both_right}
use Rattle.text.specs.Key.{exactly}
use Rattle.text.proofs.KeyLaws.{exactly_is}
use Rattle.c_bytes.specs.Fields.{flag_byte, low, high, byte_of, flag_of}
use Rattle.c_state.specs.Bytes.{square_bytes, triangle_bytes, noise_bytes, dmc_bytes, frame_bytes, state_bytes, state_size, square_of, triangle_of, noise_of, dmc_of, frame_of, state_of, is_state}
use Rattle.c_state.specs.Flags.{flag_places, flags_right, told}
use Rattle.c_state.proofs.CodeLaws.{exactly_same, state_told}

-- two tests of which each says what the other says
pub alike : (t u : Bool) → (t ≡ true → u ≡ true) → (u ≡ true → t ≡ true) → t ≡ u
alike true u f g = sym (f refl)
alike false true f g = g refl
alike false false f g = refl

-- n bytes, from k places after `at` on
unfoldable gather : List ℕ → ℕ → ℕ → ℕ → List ℕ
gather b at k zero = []
gather b at k (suc n) = byte_of b (at + k) ∷ gather b at (suc k) n

gathered : (b : List ℕ) (at k n : ℕ) → at + (k + n) ≤ length b → drop (at + k) b ≡ gather b at k n ++ drop (at + (k + n)) b
unfolding gather
gathered b at k zero h = rw add-zero
gathered b at k (suc n) h =
    let first : suc (at + k) ≡ at + suc k = omega arith in
    let last : at + (suc k + n) ≡ at + (k + suc n) = omega arith in
    drop-cons b (at + k) 0 (omega arith)
    ∙ ap (λ (l : List ℕ). byte_of b (at + k) ∷ l)
    (ap (λ (i : ℕ). drop i b) first
    ∙ gathered b at (suc k) n (omega arith)
    ∙ ap (λ (i : ℕ). gather b at (suc k) n ++ drop i b) last)

flag_kept : (x : ℕ) → leb x 1 ≡ true → flag_byte (eqb x 1) ≡ x
flag_kept zero e = refl
flag_kept (suc zero) e = refl
flag_kept (suc (suc x)) e = absurd (omega (arith, leb-true (suc (suc x)) 1 e))

-- the flags at places that are all 0 or 1 are written back
abbrev Kept : List ℕ → List ℕ → Type 0
Kept b [] = Unit {0}
Kept b (i ∷ is) = (flag_byte (flag_of b i) ≡ byte_of b i) × Kept b is

kept : (b is : List ℕ) → flags_right b is ≡ true → Kept b is
unfolding flags_right
kept b [] e = tt
kept b (i ∷ is) e = (
  flag_kept (byte_of b i) (both_left (leb (byte_of b i) 1) (flags_right b is) e),
  kept b is (both_right (leb (byte_of b i) 1) (flags_right b is) e),
)

split : (b is js : List ℕ) → Kept b (is ++ js) → Kept b is × Kept b js
split b [] js k = (tt, k)
split b (i ∷ is) js k = let r = split b is js k.1 in ((k.0, r.0), r.1)

abbrev square_places : ℕ → List ℕ
square_places at = (at + 1) ∷ (at + 2) ∷ (at + 4) ∷ (at + 5) ∷ (at + 8) ∷ (at + 14) ∷ (at + 16) ∷ (at + 20) ∷ []

abbrev triangle_places : ℕ → List ℕ
triangle_places at = at ∷ (at + 3) ∷ (at + 10) ∷ []

abbrev noise_places : ℕ → List ℕ
noise_places at = at ∷ (at + 1) ∷ (at + 3) ∷ (at + 7) ∷ (at + 8) ∷ []

abbrev dmc_places : ℕ → List ℕ
dmc_places at = at ∷ (at + 1) ∷ (at + 13) ∷ (at + 16) ∷ (at + 17) ∷ []

abbrev frame_places : ℕ → List ℕ
frame_places at = at ∷ (at + 1) ∷ (at + 4) ∷ (at + 5) ∷ []

module _ (b : List ℕ) (bytes : (i : ℕ) → byte_of b i ≤ 255) where
  low_kept : (i j : ℕ) → low (byte_of b i + 256 * byte_of b j) ≡ byte_of b i
  low_kept i j = omega (arith, bytes i)

  high_kept : (i j : ℕ) → high (byte_of b i + 256 * byte_of b j) ≡ byte_of b j
  high_kept i j = omega (arith, bytes i)

  square_kept_lem : (at : ℕ) → Kept b (square_places at) → square_bytes (square_of b at) ≡ gather b at 0 21
  unfolding square_bytes square_of gather
  square_kept_lem at f = simp (low_kept, high_kept, add_assoc, add-zero, f.0, f.1.0, f.1.1.0, f.1.1.1.0, f.1.1.1.1.0, f.1.1.1.1.1.0, f.1.1.1.1.1.1.0, f.1.1.1.1.1.1.1.0)

  triangle_kept : (at : ℕ) → Kept b (triangle_places at) → triangle_bytes (triangle_of b at) ≡ gather b at 0 11
  unfolding triangle_bytes triangle_of gather
  triangle_kept at f = simp (low_kept, high_kept, add_assoc, add-zero, f.0, f.1.0, f.1.1.0)

  noise_kept : (at : ℕ) → Kept b (noise_places at) → noise_bytes (noise_of b at) ≡ gather b at 0 14
  unfolding noise_bytes noise_of gather
  noise_kept at f = simp (low_kept, high_kept, add_assoc, add-zero, f.0, f.1.0, f.1.1.0, f.1.1.1.0, f.1.1.1.1.0)

  dmc_kept : (at : ℕ) → Kept b (dmc_places at) → dmc_bytes (dmc_of b at) ≡ gather b at 0 18
  unfolding dmc_bytes dmc_of gather
  dmc_kept at f = simp (low_kept, high_kept, add_assoc, add-zero, f.0, f.1.0, f.1.1.0, f.1.1.1.0, f.1.1.1.1.0)

  frame_kept : (at : ℕ) → Kept b (frame_places at) → frame_bytes (frame_of b at) (flag_of b (at + 5)) ≡ gather b at 0 6
  unfolding frame_bytes frame_of gather
  frame_kept at f = simp (low_kept, high_kept, add_assoc, add-zero, f.0, f.1.0, f.1.1.0, f.1.1.1.0)

  told_written : told b ≡ true → state_bytes (state_of b) ≡ b
  unfolding state_bytes state_of told
  told_written e =
      let size : length b ≡ state_size = eqb-true (length b) state_size (both_left (eqb (length b) state_size) (flags_right b flag_places) e) in
      let k₁ = split b (square_places 0) (square_places 21 ++ (triangle_places 42 ++ (noise_places 53 ++ (dmc_places 67 ++ frame_places 85)))) (kept b flag_places (both_right (eqb (length b) state_size) (flags_right b flag_places) e)) in
      let k₂ = split b (square_places 21) (triangle_places 42 ++ (noise_places 53 ++ (dmc_places 67 ++ frame_places 85))) k₁.1 in
      let k₃ = split b (triangle_places 42) (noise_places 53 ++ (dmc_places 67 ++ frame_places 85)) k₂.1 in
      let k₄ = split b (noise_places 53) (dmc_places 67 ++ frame_places 85) k₃.1 in
      let k₅ = split b (dmc_places 67) (frame_places 85) k₄.1 in
      rw (
        square_kept_lem 0 k₁.0,
        square_kept_lem 21 k₂.0,
        triangle_kept 42 k₃.0,
        noise_kept 53 k₄.0,
        dmc_kept 67 k₅.0,
        frame_kept 85 k₅.1,
      )
      (sym
      (gathered b 0 0 21 (omega arith)
      ∙ ap (λ (l : List ℕ). gather b 0 0 21 ++ l)
      (gathered b 21 0 21 (omega arith)
      ∙ ap (λ (l : List ℕ). gather b 21 0 21 ++ l)
      (gathered b 42 0 11 (omega arith)
      ∙ ap (λ (l : List ℕ). gather b 42 0 11 ++ l)
      (gathered b 53 0 14 (omega arith)
      ∙ ap (λ (l : List ℕ). gather b 53 0 14 ++ l)
      (gathered b 67 0 18 (omega arith)
      ∙ ap (λ (l : List ℕ). gather b 67 0 18 ++ l)
      (gathered b 85 0 6 (omega arith)
      ∙ ap (λ (l : List ℕ). gather b 85 0 6 ++ l) (drop_of_length-le b {i = state_size} (omega arith))
      ∙ append-nil (gather b 85 0 6))))))))

  -- THE CODE TELLS THEM RIGHT
  pub told_right : told b ≡ is_state b
  unfolding is_state
  told_right =
      alike (told b) (exactly (state_bytes (state_of b)) b)
      (λ e. rw (told_written e) (exactly_same b))
      (λ e. rw (exactly_is (state_bytes (state_of b)) b e) (state_told (state_of b)))

-- Binary digits stored from their back. Assumes nothing.
use Prim.Native.Nat.{ℕ, zero, suc, ◌+◌, ◌/◌, ◌%◌}
use mathlib.Core.Path.{◌≡◌, refl, sym, ap, ◌∙◌}
use mathlib.Core.List.{List, [], ◌∷◌, ◌++◌}
use native.Mathlib.Omega.{arith}
use lib.ListN.{length, set, length-append}
use lib.Seq.{sets}
use Rattle.text_print.proofs.StoreLaws.{sets_set, sets_append}
use Rattle.vcd_text.specs.Lines.{binary_text}

pub length_bits : (w n : ℕ) → length (binary_text w n) ≡ w
unfolding binary_text
length_bits zero n = refl
length_bits (suc w) n = length-append (binary_text w (n / 2)) ((48 + n % 2) ∷ []) ∙ omega (arith, length_bits w (n / 2))

bits_more : (w n : ℕ) → binary_text (suc w) n ≡ binary_text w (n / 2) ++ ((48 + n % 2) ∷ [])
unfolding binary_text
bits_more w n = refl

-- a text with one more byte
sets_last : (u l : List ℕ) (i k v : ℕ) → length u ≡ k → sets l i (u ++ (v ∷ [])) ≡ sets (set l (i + k) v) i u
sets_last u l i k v e =
    sym (sets_append u (v ∷ []) l i)
    ∙ ap (λ (n : ℕ). set (sets l i u) (i + n) v) e
    ∙ sets_set u l i (i + k) v (λ j m f. omega (arith, m, f, e))

-- one digit, and those before it
pub bit_step : (out : List ℕ) (at i j n d : ℕ) → i ≡ suc j → d ≡ 48 + n % 2
    → sets (set out (at + j) d) at (binary_text j (n / 2)) ≡ sets out at (binary_text i n)
bit_step out at i j n d e f =
    rw (e, f, bits_more) (sym (sets_last (binary_text j (n / 2)) out at j (48 + n % 2) (length_bits j (n / 2))))

pub bit_end : (out : List ℕ) (at i n : ℕ) → i ≡ 0 → sets out at (binary_text i n) ≡ out
unfolding binary_text
bit_end out at i n e = rw e

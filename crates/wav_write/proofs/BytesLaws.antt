-- The bytes of samples, one behind the other. Assumes nothing.
use Prim.Native.Nat.{ℕ, ◌*◌}
use mathlib.Core.Path.{◌≡◌, refl, sym, ◌∙◌}
use mathlib.Core.List.{List, [], ◌∷◌, ◌++◌, append_assoc, append-nil}
use native.Mathlib.Omega.{arith}
use lib.ListN.{length, length-append}
use Rattle.c_bytes.specs.Numbers.{wide_bytes}
use Rattle.wav_write.specs.Bytes.{sample_bytes}

length_low : (v : ℕ) → length (wide_bytes 2 v) ≡ 2
unfolding wide_bytes
length_low v = refl

pub bytes_length : (l : List ℕ) → length (sample_bytes l) ≡ 2 * length l
unfolding sample_bytes
bytes_length [] = refl
bytes_length (v ∷ l) = length-append (wide_bytes 2 v) (sample_bytes l) ∙ (let a = length_low v in let b = bytes_length l in omega arith)

pub bytes_join : (l m : List ℕ) → sample_bytes (l ++ m) ≡ sample_bytes l ++ sample_bytes m
unfolding sample_bytes
bytes_join [] m = refl
bytes_join (v ∷ l) m = rw (bytes_join l m) (sym (append_assoc (wide_bytes 2 v) (sample_bytes l) (sample_bytes m)))

-- no sample, and one
pub bytes_none : sample_bytes [] ≡ []
unfolding sample_bytes
bytes_none = refl

pub bytes_one : (v : ℕ) → sample_bytes (v ∷ []) ≡ wide_bytes 2 v
unfolding sample_bytes
bytes_one v = append-nil (wide_bytes 2 v)

-- How long lines are. Assumes nothing.
use Prim.Native.Nat.{ℕ, zero, suc, ◌+◌, ◌/◌, ◌≤◌}
use mathlib.Core.Path.{◌≡◌, refl}
use mathlib.Core.List.{List}
use native.Mathlib.Omega.{arith}
use lib.Dec.{ltb}
use lib.ListN.{length, length-append}
use Rattle.arith.proofs.PickLaws.{pick_both}
use Rattle.text.specs.Decimal.{digits_of, decimal_text}
use Rattle.text_lines.specs.Lines.{keyed_line, pair_line}

-- at most so many bytes
abbrev pub UpTo : ℕ → List ℕ → Type 0
UpTo n s = length s ≤ n

digits_few : (k n : ℕ) → UpTo k (digits_of k n)
unfolding digits_of
digits_few zero n = omega arith
digits_few (suc k) n = pick_both (UpTo (suc k)) (ltb n 10) (omega arith) (rw length-append (omega (arith, digits_few k (n / 10))))

pub decimal_ten : (n : ℕ) → UpTo 10 (decimal_text n)
unfolding decimal_text
decimal_ten n = digits_few 10 n

module _ (key : List ℕ) (a : ℕ) where
  -- by the width of the numbers
  module _ (v : ℕ) (e : v ≡ length (decimal_text a)) where
    pub keyed_long : length (keyed_line key a) ≡ length key + v + 1
    unfolding keyed_line
    keyed_long = simp length-append (omega arith)

    pub pair_long : (b w : ℕ) → w ≡ length (decimal_text b) → length (pair_line key a b) ≡ length key + v + w + 2
    unfolding pair_line
    pair_long b w f = simp length-append (omega arith)

  pub keyed_size : UpTo (length key + 11) (keyed_line key a)
  keyed_size = omega (arith, keyed_long _ refl, decimal_ten a)

  pub pair_size : (b : ℕ) → UpTo (length key + 22) (pair_line key a b)
  pair_size b = omega (arith, pair_long _ refl b _ refl, decimal_ten a, decimal_ten b)

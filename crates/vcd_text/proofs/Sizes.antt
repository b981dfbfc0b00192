-- How long the lines are. Assumes nothing.
use Prim.Native.Nat.{ℕ, zero, suc, ◌+◌, ◌/◌, ◌≤◌}
use mathlib.Core.Path.{◌≡◌}
use mathlib.Core.List.{◌∷◌, ◌++◌}
use native.Mathlib.Omega.{arith}
use lib.Dec.{eqb, ltb}
use lib.ListN.{length, length-append}
use Rattle.arith.proofs.PickLaws.{pick_both}
use Rattle.text.specs.Ascii.{bytes}
use Rattle.text.specs.Decimal.{digits_of}
use Rattle.text_lines.proofs.Sizes.{UpTo}
use Rattle.vcd_text.specs.Lines.{time_line, binary_text, value_line}
use Rattle.vcd_text.proofs.BitLaws.{length_bits}

digits_few : (k n : ℕ) → UpTo k (digits_of k n)
unfolding digits_of
digits_few zero n = omega arith
digits_few (suc k) n = pick_both (UpTo (suc k)) (ltb n 10) (omega arith) (rw length-append (omega (arith, digits_few k (n / 10))))

pub time_size : (t : ℕ) → UpTo 22 (time_line t)
unfolding time_line
time_size t = simp length-append (omega (arith, digits_few 20 t))

pub wide_long : (w code n : ℕ) → length (bytes "b" ++ (binary_text w n ++ (bytes " " ++ (code ∷ bytes "\n")))) ≡ w + 4
wide_long w code n = simp length-append (omega (arith, length_bits w n))

-- of any width below 256
pub wide_size : (w code n : ℕ) → w ≤ 255 → UpTo 259 (bytes "b" ++ (binary_text w n ++ (bytes " " ++ (code ∷ bytes "\n"))))
wide_size w code n h = omega (arith, wide_long w code n)

pub value_size : (w code n : ℕ) → UpTo (w + 4) (value_line w code n)
unfolding value_line
value_size w code n = pick_both (UpTo (w + 4)) (eqb w 1) (omega arith) (omega (arith, wide_long w code n))

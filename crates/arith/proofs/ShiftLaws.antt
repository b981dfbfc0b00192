-- Shifts to the right, over the width. Assumes nothing.
use Prim.Native.Nat.{ℕ, ◌/◌, ◌^◌, ◌<◌, ◌≤◌}
use mathlib.Core.Path.{◌≡◌, sym}
use native.Mathlib.Nat.{div-eq_of_lt, pow-le-pow_right, lt_of_lt_of_le}
use native.Mathlib.Omega.{arith}

-- a number of w bits shifted by w places or more is 0
pub shifted_out : (w x k : ℕ) → x < 2 ^ w → w ≤ k → 0 ≡ x / 2 ^ k
shifted_out w x k h l =
    sym (div-eq_of_lt {n = x} {m = 2 ^ k} (lt_of_lt_of_le h (pow-le-pow_right {n = 2} (omega arith) {i = w} {j = k} l)))

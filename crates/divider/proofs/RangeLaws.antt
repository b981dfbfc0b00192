-- The range of a divider's count. Assumes nothing.
use Prim.Native.Nat.{ℕ, ◌-◌, ◌≤◌, ◌<◌}
use mathlib.Core.Path.{◌≡◌, refl}
use mathlib.Core.Bool.{Bool, true, false}
use native.Mathlib.Omega.{arith}
use lib.Dec.{leb}
use borrow.Author.Tests.{leb-false}
use Rattle.arith.specs.Pick.{pick}
use Rattle.divider.specs.Divider.{tick}

-- a divider's count stays from 1 to what bounds both the count and the period
pub tick_ranged : (n c m : ℕ) → 1 ≤ n → n ≤ m → c ≤ m → (1 ≤ tick n c) × (tick n c ≤ m)
tick_ranged n c m a b q = go (leb c 1) refl
  where
    go : (t : Bool) → leb c 1 ≡ t → (1 ≤ pick t n (c - 1)) × (pick t n (c - 1) ≤ m)
    go true e = (a, b)
    go false e = let f : 1 < c = leb-false _ _ e in (omega arith, omega arith)

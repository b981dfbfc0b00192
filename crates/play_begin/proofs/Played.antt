-- A log that is played has its sample memory, and passes. Assumes nothing.
use Prim.Native.Nat.{ℕ}
use native.Mathlib.Omega.{arith}
use mathlib.Core.Path.{◌≡◌, refl}
use mathlib.Core.Bool.{Bool, true, false}
use mathlib.Core.List.{List}
use lib.Dec.{eqb}
use lib.ListN.{length}
use borrow.Author.Tests.{eqb-true}
use Rattle.arith.specs.Pick.{pick}
use Rattle.recording.specs.Whole.{check_of}
use Rattle.play_begin.specs.Whole.{play_number}

pub played : (log memory : List ℕ) → play_number log memory ≡ 0 → (length memory ≡ 32768) × ((check_of log).number ≡ 0)
unfolding play_number
played log memory h = by (eqb (length memory) 32768) refl h
  where
    by : (b : Bool) → eqb (length memory) 32768 ≡ b → pick b (check_of log).number 1 ≡ 0 → (length memory ≡ 32768) × ((check_of log).number ≡ 0)
    by true e h = (eqb-true (length memory) 32768 e, h)
    by false e h = absurd (omega (arith, h))

-- Bounds of clocks and counts. Assumes nothing.
use Prim.Native.Nat.{ℕ, ◌+◌, ◌*◌, ◌/◌, ◌%◌, ◌^◌, ◌≤◌, ◌<◌}
use mathlib.Core.Path.{◌≡◌, refl}
use mathlib.Core.Bool.{Bool, true, false}
use native.Mathlib.Omega.{arith}
use lib.Dec.{eqb, ltb}
use borrow.Author.Tests.{ltb-false}
use Rattle.arith.specs.Pick.{pick, either}
use Rattle.clock_rate.specs.Rate.{clock_rate}
use Rattle.vgm_measure.specs.declared.Count.{Count}
use Rattle.vgm_measure.specs.Import.{stood}
use Rattle.vgm_measure.specs.Measure.{gap_turns, heavy_at, Light}

pub clocks_fit : (pal : Bool) (s : ℕ) → s < 2 ^ 32 → s * clock_rate pal < 2 ^ 64
unfolding clock_rate
clocks_fit true s h = omega arith
clocks_fit false s h = omega arith

pub stood_most : (pal : Bool) (s : ℕ) → s ≤ 53200000 → stood pal s ≤ 2200000000
unfolding stood clock_rate
stood_most true s h = omega arith
stood_most false s h = omega arith

pub stood_few : (pal : Bool) (s : ℕ) → stood pal s ≤ 2000000000 → s ≤ 53100000
unfolding stood clock_rate
stood_few true s h = omega arith
stood_few false s h = omega arith

pub stood_more : (pal : Bool) (s n : ℕ) → stood pal s ≤ stood pal (s + n)
unfolding stood clock_rate
stood_more true s n = omega arith
stood_more false s n = omega arith

pub turns_most : (g : ℕ) → g ≤ 3000000000 → gap_turns g ≤ 3001
unfolding gap_turns
turns_most g h = by (eqb (g % 1000000) 0)
  where
    by : (b : Bool) → pick b (g / 1000000) (g / 1000000 + 1) ≤ 3001
    by true = omega arith
    by false = omega arith

pub either_false : (a b : Bool) → either a b ≡ false → (a ≡ false) × (b ≡ false)
either_false true b e = absurd (let z : ◌≡◌ {A = ℕ} 0 1 = cc in omega arith)
either_false false b e = (refl, e)

pub light_of : (pal : Bool) (k : Count) → heavy_at pal k ≡ false → Light pal k
unfolding heavy_at
light_of pal k e =
    let f = either_false (ltb 2000000000 (stood pal k.samples)) (ltb 1000000 k.turns) e in
    record { clocks = ltb-false 2000000000 (stood pal k.samples) f.0; few = ltb-false 1000000 k.turns f.1 }

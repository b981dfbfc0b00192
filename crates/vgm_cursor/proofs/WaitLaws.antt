-- A wait fits: the clocks that were given, and so many more. Assumes nothing.
use Prim.Native.Nat.{ℕ, ◌+◌, ◌-◌, ◌^◌, ◌≤◌, ◌<◌, min}
use mathlib.Core.Bool.{Bool, true, false}
use native.Mathlib.Omega.{arith}
use Rattle.clock_rate.specs.Rate.{clock_rate}
use Rattle.vgm_measure.specs.Import.{stood}

stood_fits : (pal : Bool) (s : ℕ) → s ≤ 100000000 → stood pal s < 2 ^ 32
unfolding stood clock_rate
stood_fits true s h = omega arith
stood_fits false s h = omega arith

pub wait_fits : (pal : Bool) (s h : ℕ) → s ≤ 100000000 → h < 2 ^ 32 → h + min (stood pal s - h) 1000000 < 2 ^ 32
wait_fits pal s h i j = let m = stood_fits pal s i in omega arith

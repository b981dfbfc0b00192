-- What each channel gives can be had again from the one number, and so can the status byte. Assumes nothing.
use Prim.Native.Nat.{ℕ, ◌/◌, ◌%◌, ◌^◌, ◌≤◌}
use mathlib.Core.Path.{◌≡◌}
use mathlib.Core.Bool.{true, false}
use native.Mathlib.Omega.{arith}
use lib.Dec.{ltb}
use Rattle.arith.proofs.PickLaws.{pick_both}
use Rattle.chip_square.proofs.RangeLaws.{square_output_most}
use Rattle.chip_triangle.specs.Triangle.{triangle_at, triangle_output}
use Rattle.chip_triangle.specs.declared.Triangle.{Triangle}
use Rattle.chip_noise.proofs.RangeLaws.{noise_output_most}
use Rattle.chip_dmc.specs.Clock.{dmc_output}
use Rattle.chip.specs.Range.{in_range}
use Rattle.chip.specs.declared.State.{State}
use Rattle.chip.proofs.RangeLaws.{state_in_lem}
use Rattle.chip_access.specs.Status.{status_byte}
use Rattle.chip_seen.specs.Seen.{seen_of}
use Rattle.chip_seen.specs.declared.Seen.{Seen}
use Rattle.c_chip.specs.Boundary.{packed}
use Rattle.c_probe.specs.Packed.{outputs_in, outputs_packed, status_packed}

-- what the channels of a state in range give
record Small (v : Seen) : Type 0 where
  pub square1 : v.square1 ≤ 15
  pub square2 : v.square2 ≤ 15
  pub triangle : v.triangle ≤ 15
  pub noise : v.noise ≤ 15
  pub dmc : v.dmc ≤ 127

triangle_most : (t : Triangle) → triangle_output t ≤ 15
unfolding triangle_output triangle_at
triangle_most t = pick_both (λ (k : ℕ). k ≤ 15) (ltb (t.sequencer.position % 32) 16) (omega arith) (omega arith)

small : (s : State) → in_range s ≡ true → Small (seen_of s)
unfolding seen_of dmc_output
small s e =
    let h = state_in_lem s e in
    record {
      square1 = square_output_most false s.square1 h.square1;
      square2 = square_output_most true s.square2 h.square2;
      triangle = triangle_most s.triangle;
      noise = noise_output_most s.noise h.noise;
      dmc = h.dmc.output.level;
    }

-- the lanes of a value
pub record Lanes (value : ℕ) (v : Seen) : Type 0 where
  pub square1 : value % 2 ^ 4 ≡ v.square1
  pub square2 : value / 2 ^ 4 % 2 ^ 4 ≡ v.square2
  pub triangle : value / 2 ^ 8 % 2 ^ 4 ≡ v.triangle
  pub noise : value / 2 ^ 12 % 2 ^ 4 ≡ v.noise
  pub dmc : value / 2 ^ 16 ≡ v.dmc

lanes : (v : Seen) → Small v → Lanes (outputs_in v) v
lanes v h =
    let a = h.square1 in
    let b = h.square2 in
    let t = h.triangle in
    let n = h.noise in
    let d = h.dmc in
    record { square1 = omega arith; square2 = omega arith; triangle = omega arith; noise = omega arith; dmc = omega arith }

module _ (s : State) (e : in_range s ≡ true) where
  -- WHAT EACH CHANNEL GIVES
  pub apart : (outputs_packed s % 2 ^ 8 ≡ 0) × Lanes (outputs_packed s / 2 ^ 8) (seen_of s)
  unfolding outputs_packed
  apart =
      let q : packed 0 (outputs_in (seen_of s)) / 2 ^ 8 ≡ outputs_in (seen_of s) = omega arith in
      rw e (omega arith, rw q (lanes (seen_of s) (small s e)))

  -- THE STATUS BYTE
  pub status_apart : (status_packed s % 2 ^ 8 ≡ 0) × (status_packed s / 2 ^ 8 ≡ status_byte s)
  unfolding status_packed
  status_apart = rw e (omega arith, omega arith)

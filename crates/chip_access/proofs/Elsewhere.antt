-- A write to a register of one channel leaves the other channels, and all but $4015 and $4017 leave the frame. Assumes nothing.
use Prim.Native.Nat.{ℕ, ◌≤◌}
use mathlib.Core.Path.{◌≡◌, refl}
use native.Mathlib.Omega.{arith}
use lib.Dec.{eqb}
use borrow.Author.Tests.{eqb-true, eqb-false}
use Rattle.arith.proofs.PickLaws.{pick_each}
use Rattle.chip_access.specs.Write.{channel_of, place_of, channel_written, register_written}
use Rattle.chip.specs.declared.State.{State}

-- what stays, where a write goes to a channel: squares 0 and 1, triangle 2, noise 3, DMC 4
pub record Elsewhere (channel : ℕ) (s r : State) : Type 0 where
  pub square1 : (channel ≡ 0 → ⊥) → r.square1 ≡ s.square1
  pub square2 : (channel ≡ 1 → ⊥) → r.square2 ≡ s.square2
  pub triangle : (channel ≡ 2 → ⊥) → r.triangle ≡ s.triangle
  pub noise : (channel ≡ 3 → ⊥) → r.noise ≡ s.noise
  pub dmc : (channel ≡ 4 → ⊥) → r.dmc ≡ s.dmc
  pub frame : r.frame ≡ s.frame

elsewhere_kept : (channel place value : ℕ) (s : State) → channel ≤ 4 → Elsewhere channel s (channel_written channel place value s)
unfolding channel_written
elsewhere_kept channel place value s h =
    let P : State → Type 0 = Elsewhere channel s in
    pick_each P (eqb channel 0)
    (λ e. let c = eqb-true channel 0 e in record { square1 = λ no. absurd (no c); square2 = λ _. refl; triangle = λ _. refl; noise = λ _. refl; dmc = λ _. refl; frame = refl })
    (λ e0. pick_each P (eqb channel 1)
    (λ e. let c = eqb-true channel 1 e in record { square1 = λ _. refl; square2 = λ no. absurd (no c); triangle = λ _. refl; noise = λ _. refl; dmc = λ _. refl; frame = refl })
    (λ e1. pick_each P (eqb channel 2)
    (λ e. let c = eqb-true channel 2 e in record { square1 = λ _. refl; square2 = λ _. refl; triangle = λ no. absurd (no c); noise = λ _. refl; dmc = λ _. refl; frame = refl })
    (λ e2. pick_each P (eqb channel 3)
    (λ e. let c = eqb-true channel 3 e in record { square1 = λ _. refl; square2 = λ _. refl; triangle = λ _. refl; noise = λ no. absurd (no c); dmc = λ _. refl; frame = refl })
    (λ e3. pick_each P (eqb channel 4)
    (λ e. let c = eqb-true channel 4 e in record { square1 = λ _. refl; square2 = λ _. refl; triangle = λ _. refl; noise = λ _. refl; dmc = λ no. absurd (no c); frame = refl })
    (λ e4. absurd (let no : ⊥ = omega (arith, eqb-false channel 0 e0, eqb-false channel 1 e1, eqb-false channel 2 e2, eqb-false channel 3 e3, eqb-false channel 4 e4) in no))))))

-- by register: $4000..$4013
pub write_elsewhere : (register value : ℕ) (s : State) → register ≤ 0x4013 → Elsewhere (channel_of register) s (register_written register value s)
unfolding register_written
write_elsewhere register value s h = elsewhere_kept (channel_of register) (place_of register) value s (omega arith)

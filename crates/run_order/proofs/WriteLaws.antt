-- Two writes to different channels, in either order, for any state. Assumes nothing.
use Prim.Native.Nat.{ℕ, zero, suc, ◌≤◌}
use mathlib.Core.Path.{◌≡◌, refl, sym, ap, ◌∙◌}
use mathlib.Core.Bool.{Bool, true, false}
use native.Mathlib.Omega.{arith}
use lib.Dec.{eqb}
use borrow.Author.Tests.{eqb-true}
use Rattle.arith.specs.Pick.{pick}
use Rattle.chip_square.specs.Write.{square_write}
use Rattle.chip_triangle.specs.Write.{triangle_write}
use Rattle.chip_noise.specs.Noise.{noise_write}
use Rattle.chip_dmc.specs.Write.{dmc_write}
use Rattle.chip.specs.declared.State.{State}
use Rattle.chip_access.specs.Write.{channel_of, place_of, channel_written, register_written}
use Rattle.run_order.specs.Order.{Apart}

-- a write part by part: its own channel is written, the others stay, and so do the frame and the machine
unfoldable parts : ℕ → ℕ → ℕ → State → State
parts channel place value s =
    record {
      square1 = pick (eqb channel 0) (square_write place value s.square1) s.square1;
      square2 = pick (eqb channel 1) (square_write place value s.square2) s.square2;
      triangle = pick (eqb channel 2) (triangle_write place value s.triangle) s.triangle;
      noise = pick (eqb channel 3) (noise_write place value s.noise) s.noise;
      dmc = pick (eqb channel 4) (dmc_write place value s.dmc) s.dmc;
      frame = s.frame;
      pal = s.pal;
    }

parts_are : (channel place value : ℕ) (s : State) → channel ≤ 4 → channel_written channel place value s ≡ parts channel place value s
unfolding channel_written parts
parts_are zero place value s h = refl
parts_are (suc zero) place value s h = refl
parts_are (suc (suc zero)) place value s h = refl
parts_are (suc (suc (suc zero))) place value s h = refl
parts_are (suc (suc (suc (suc zero)))) place value s h = refl
parts_are (suc (suc (suc (suc (suc n))))) place value s h = absurd (omega arith)

-- one part, written by the first of two writes, by the second or by neither
crossed : {A : Type 0} (a b : Bool) → (a ≡ true → b ≡ true → ⊥) → (f g : A → A) (x : A)
    → pick b (g (pick a (f x) x)) (pick a (f x) x) ≡ pick a (f (pick b (g x) x)) (pick b (g x) x)
crossed true true clash f g x = absurd (clash refl refl)
crossed true false clash f g x = refl
crossed false true clash f g x = refl
crossed false false clash f g x = refl

module _ (c c' : ℕ) (other : c ≡ c' → ⊥) where
  never : (k : ℕ) → eqb c k ≡ true → eqb c' k ≡ true → ⊥
  never k e f = other (eqb-true c k e ∙ sym (eqb-true c' k f))

  parts_swap : (p p' v v' : ℕ) (s : State) → parts c' p' v' (parts c p v s) ≡ parts c p v (parts c' p' v' s)
  unfolding parts
  parts_swap p p' v v' s =
      rw (
        crossed (eqb c 0) (eqb c' 0) (never 0) (square_write p v) (square_write p' v') s.square1,
        crossed (eqb c 1) (eqb c' 1) (never 1) (square_write p v) (square_write p' v') s.square2,
        crossed (eqb c 2) (eqb c' 2) (never 2) (triangle_write p v) (triangle_write p' v') s.triangle,
        crossed (eqb c 3) (eqb c' 3) (never 3) (noise_write p v) (noise_write p' v') s.noise,
        crossed (eqb c 4) (eqb c' 4) (never 4) (dmc_write p v) (dmc_write p' v') s.dmc,
      )
      refl

-- TWO WRITES TO DIFFERENT CHANNELS, IN EITHER ORDER
pub writes_swap : (register register' value value' : ℕ) → Apart register register' → (s : State)
    → register_written register' value' (register_written register value s) ≡ register_written register value (register_written register' value' s)
unfolding register_written
writes_swap register register' value value' apart s =
    let c = channel_of register in
    let c' = channel_of register' in
    let p = place_of register in
    let p' = place_of register' in
    let low : channel_of register ≤ 4 = omega (arith, apart.high) in
    let low' : channel_of register' ≤ 4 = omega (arith, apart.high') in
    parts_are c' p' value' (channel_written c p value s) low'
    ∙ (ap (parts c' p' value') (parts_are c p value s low)
    ∙ (parts_swap c c' apart.channels p p' value value' s
    ∙ (ap (parts c p value) (sym (parts_are c' p' value' s low'))
    ∙ sym (parts_are c p value (channel_written c' p' value' s) low))))

-- The noise's part in the leap: still, the closed form and the next change are clocks of the noise. Assumes nothing.
use Prim.Native.Nat.{ℕ, zero, suc, ◌+◌, ◌-◌, ◌*◌, ◌/◌, ◌%◌, ◌^◌, ◌≤◌, ◌<◌}
use mathlib.Core.Path.{◌≡◌, refl, sym, ap, ◌∙◌}
use mathlib.Core.Bool.{Bool, true, false}
use native.Mathlib.Nat.{pow-succ', mul_left_comm, suc-add, div-one}
use native.Mathlib.Omega.{arith}
use lib.Dec.{eqb}
use borrow.Author.Tests.{eqb-true}
use Rattle.arith.specs.Bit.{bit_of, bit_set}
use Rattle.arith.specs.Iterate.{iterate}
use Rattle.arith.specs.Pick.{pick}
use Rattle.arith.proofs.IterateLaws.{iterate_along}
use Rattle.arith.proofs.PickLaws.{pick_each}
use Rattle.divider.specs.Divider.{due, Driven, drive}
use Rattle.leap_still.specs.Forever.{forever}
use Rattle.divider.proofs.DividerLaws.{drive_closed, drive_still, drive_turned}
use Rattle.chip_noise.specs.Noise.{with_shifter, noise_amount, noise_output}
use Rattle.chip_noise.specs.Shifter.{tap_of, shifted_of, shifter_clock}
use Rattle.chip_noise.specs.declared.Shifter.{Shifter}
use Rattle.chip_noise.specs.declared.Noise.{Noise}
use Rattle.chip_noise.proofs.RangeLaws.{ShifterRanged}
use Rattle.chip_noise.proofs.ShifterLaws.{shifted_sum, shifted_most}
use Rattle.leap_noise.specs.Leap.{shifter_gives, alike, noise_still, shifter_advanced, shifter_turned}

-- the timer as a divider, and the register it drives
abbrev shifter_of : Driven ℕ → Shifter
shifter_of d = record { timer = d.count; register = d.part }

abbrev own : Shifter → Driven ℕ
own h = record { count = h.timer; part = h.register }

module _ (n : ℕ) (mode : Bool) where
  clock_driven : (d : Driven ℕ) → shifter_clock n mode (shifter_of d) ≡ shifter_of (drive n (shifted_of mode) d)
  unfolding shifter_clock drive
  clock_driven d = go (due d.count)
    where
      go : (t : Bool)
          → ◌≡◌ {A = Shifter}
          (record { timer = pick t n (d.count - 1); register = pick t (shifted_of mode d.part) d.part })
          (shifter_of
          (pick t (record { count = n; part = shifted_of mode d.part }) (record { count = d.count - 1; part = d.part })))
      go true = refl
      go false = refl

  driven : (g : ℕ) (h : Shifter)
      → iterate (shifter_clock n mode) g h ≡ shifter_of (iterate (drive n (shifted_of mode)) g (own h))
  driven g h = iterate_along (shifter_clock n mode) (drive n (shifted_of mode)) shifter_of clock_driven g (own h)

  -- THE LAW OF THE CLOSED FORM: any number of clocks
  pub shifter_closed : 0 < n → (g : ℕ) (h : Shifter) → 1 ≤ h.timer
      → iterate (shifter_clock n mode) g h ≡ shifter_advanced n mode g h
  unfolding shifter_advanced
  shifter_closed hn g h t =
      driven g h ∙ ap shifter_of (drive_closed n (shifted_of mode) hn g h.timer h.register t)

-- the lowest k + 1 bits of x and r are alike
abbrev Agree : ℕ → ℕ → ℕ → Type 0
Agree zero x r = x % 2 ≡ r % 2
Agree (suc k) x r = (x % 2 ≡ r % 2) × Agree k (x / 2) (r / 2)

agree_refl : (k r : ℕ) → Agree k r r
agree_refl zero r = refl
agree_refl (suc k) r = (refl, agree_refl k (r / 2))

agree_low : (k x r : ℕ) → Agree k x r → x % 2 ≡ r % 2
agree_low zero x r a = a
agree_low (suc k) x r a = a.0

twice : (f m : ℕ) → f * 2 ^ suc m ≡ 2 * (f * 2 ^ m)
twice f m = ap (λ (p : ℕ). f * p) (pow-succ' 2 m) ∙ mul_left_comm f 2 (2 ^ m)

-- whatever is put on top of them
agree_top : (k i f a b : ℕ) → Agree k a b → Agree k (a + f * 2 ^ (suc k + i)) b
agree_top zero i f a b h =
    let e : f * 2 ^ (1 + i) ≡ 2 * (f * 2 ^ i) = ap (λ (m : ℕ). f * 2 ^ m) (omega arith) ∙ twice f i in
    rw e (omega arith)
agree_top (suc k) i f a b h =
    let e : f * 2 ^ (suc (suc k) + i) ≡ 2 * (f * 2 ^ (suc k + i)) =
    ap (λ (m : ℕ). f * 2 ^ m) (suc-add (suc k) i) ∙ twice f (suc k + i)
    in
    let half : (a + 2 * (f * 2 ^ (suc k + i))) / 2 ≡ a / 2 + f * 2 ^ (suc k + i) = omega arith in
    let low : (a + 2 * (f * 2 ^ (suc k + i))) % 2 ≡ b % 2 = omega (arith, h.0) in
    rw e (low, rw half (agree_top k i f (a / 2) (b / 2) h.1))

-- a shift moves them down by one
agree_shift : (mode : Bool) (k x r : ℕ) → k ≤ 13 → x ≤ 32767 → Agree (suc k) x r → Agree k (shifted_of mode x) (r / 2)
agree_shift mode k x r h m a =
    let whole : x / 2 % 16384 ≡ x / 2 = omega arith in
    let i : suc k + (13 - k) ≡ 14 = omega arith in
    let top : Agree k (x / 2 + (bit_of x 0 + bit_of x (tap_of mode)) % 2 * 2 ^ (suc k + (13 - k))) (r / 2) =
    agree_top k (13 - k) ((bit_of x 0 + bit_of x (tap_of mode)) % 2) (x / 2) (r / 2) a.1
    in
    rw (shifted_sum mode x, whole) (rw i at top)

-- THE OUTPUTS THAT LEAVE BIT 0
alike_leaves : (mode : Bool) (k j x r : ℕ) → k ≤ 14 → x ≤ 32767 → Agree k x r → j ≤ alike k r
    → iterate (shifted_of mode) j x % 2 ≡ r % 2
unfolding iterate alike
alike_leaves mode k zero x r h m a q = agree_low k x r a
alike_leaves mode zero (suc j) x r h m a q = absurd (let no : ⊥ = omega arith in no)
alike_leaves mode (suc k) (suc j) x r h m a q =
    go (eqb (r / 2 % 2) (r % 2)) refl
    (λ p. alike_leaves mode k j (shifted_of mode x) (r / 2) (omega arith) (shifted_most mode x)
    (agree_shift mode k x r (omega arith) m a) p)
    q
  where
    go : (t : Bool) → eqb (r / 2 % 2) (r % 2) ≡ t
        → (j ≤ alike k (r / 2) → iterate (shifted_of mode) j (shifted_of mode x) % 2 ≡ r / 2 % 2)
        → suc j ≤ pick t (suc (alike k (r / 2))) 0 → iterate (shifted_of mode) j (shifted_of mode x) % 2 ≡ r % 2
    go true e ih q = ih (omega arith) ∙ eqb-true _ _ e
    go false e ih q = absurd (let no : ⊥ = omega arith in no)

-- with an amount of 0 it gives 0, whatever its register
pub gives_none : (h : Shifter) → shifter_gives 0 h ≡ 0
unfolding shifter_gives
gives_none h = go (bit_set h.register 0)
  where
    go : (t : Bool) → ◌≡◌ {A = ℕ} (pick t 0 0) 0
    go true = refl
    go false = refl

module _ (n : ℕ) (hn : 0 < n) (mode : Bool) (amount : ℕ) (h : Shifter) {top : ℕ} (r : ShifterRanged top h) where
  bit_leaves : (j : ℕ) → j ≤ alike 14 h.register
      → pick (bit_set (iterate (shifted_of mode) j h.register) 0) 0 amount ≡ pick (bit_set h.register 0) 0 amount
  bit_leaves j q =
      let x = iterate (shifted_of mode) j h.register in
      let low : x % 2 ≡ h.register % 2 =
      alike_leaves mode 14 j h.register h.register (omega arith) r.register_to (agree_refl 14 h.register) q
      in
      let same : bit_of x 0 ≡ bit_of h.register 0 = simp (div-one, low) in
      ap (λ (b : ℕ). pick (eqb b 1) 0 amount) same

  -- THE LAW OF STILL
  pub noise_still_lem : (k : ℕ) → k ≤ noise_still amount n h
      → shifter_gives amount (iterate (shifter_clock n mode) k h) ≡ shifter_gives amount h
  unfolding noise_still shifter_gives
  noise_still_lem k =
      pick_each (λ (m : ℕ). k ≤ m → shifter_gives amount (iterate (shifter_clock n mode) k h) ≡ shifter_gives amount h)
      (eqb amount 0) (λ e q. none (eqb-true _ _ e)) (λ e q. moves (omega arith))
    where
      none : amount ≡ 0 → shifter_gives amount (iterate (shifter_clock n mode) k h) ≡ shifter_gives amount h
      none z = rw z (gives_none (iterate (shifter_clock n mode) k h) ∙ sym (gives_none h))

      moves : k ≤ h.timer - 1 + alike 14 h.register * n
          → shifter_gives amount (iterate (shifter_clock n mode) k h) ≡ shifter_gives amount h
      moves q =
          ap (shifter_gives amount) (driven n mode k h)
          ∙ drive_still n (shifted_of mode) hn (λ (x : ℕ). pick (bit_set x 0) 0 amount) (alike 14 h.register) h.timer
          h.register r.timer_from bit_leaves k q

  -- THE NEXT CHANGE
  pub noise_turned : noise_still amount n h < forever
      → iterate (shifter_clock n mode) (noise_still amount n h + 1) h ≡ shifter_turned n mode h
  unfolding noise_still shifter_turned
  noise_turned =
      pick_each
      (λ (m : ℕ). m < forever → iterate (shifter_clock n mode) (m + 1) h ≡ shifter_turned n mode h)
      (eqb amount 0) (λ e m. absurd (let no : ⊥ = omega arith in no)) (λ e m. turns)
    where
      q : ℕ
      q = alike 14 h.register

      turns : iterate (shifter_clock n mode) (h.timer - 1 + q * n + 1) h ≡ shifter_turned n mode h
      turns =
          let d : h.timer - 1 + q * n + 1 ≡ h.timer + q * n = omega (arith, r.timer_from) in
          rw d
          (driven n mode (h.timer + q * n) h
          ∙ ap shifter_of (drive_turned n (shifted_of mode) hn q h.timer h.register r.timer_from))

-- OF THE CHANNEL
module _ (n : ℕ) (c : Noise) where
  pub noise_gives : (h : Shifter) → noise_output (with_shifter c h) ≡ shifter_gives (noise_amount c) h
  unfolding noise_output noise_amount shifter_gives
  noise_gives h = refl

-- What is seen is the same exactly where its nine numbers are; when a clock stands. Assumes nothing.
use Prim.Native.Nat.{ℕ, ◌≤◌}
use mathlib.Core.Path.{◌≡◌, refl}
use mathlib.Core.Bool.{Bool, true, false}
use native.Mathlib.Omega.{arith}
use borrow.Author.Tests.{eq-eqb, eqb-true}
use lib.Dec.{eqb}
use Rattle.arith.proofs.PickLaws.{both_left, both_right}
use Rattle.clock_rate.specs.Rate.{clock_rate, clock_time}
use Rattle.chip_seen.specs.Seen.{same_seen}
use Rattle.chip_seen.specs.declared.Seen.{Seen}

self : (n : ℕ) → eqb n n ≡ true
self n = eq-eqb n n refl

pub seen_self : (a : Seen) → same_seen a a ≡ true
unfolding same_seen
seen_self a =
    rw (
      self a.level,
      self a.square1,
      self a.square2,
      self a.triangle,
      self a.noise,
      self a.dmc,
      self a.line,
      self a.frame_flag,
      self a.dmc_flag,
    )

abbrev made : ℕ → ℕ → ℕ → ℕ → ℕ → ℕ → ℕ → ℕ → ℕ → Seen
made a b c d e f g h i =
    record { level = a; square1 = b; square2 = c; triangle = d; noise = e; dmc = f; line = g; frame_flag = h; dmc_flag = i }

alike : {a a' b b' c c' d d' e e' f f' g g' h h' i i' : ℕ}
    → a ≡ a' → b ≡ b' → c ≡ c' → d ≡ d' → e ≡ e' → f ≡ f' → g ≡ g' → h ≡ h' → i ≡ i' → made a b c d e f g h i ≡ made a' b' c' d' e' f' g' h' i'
alike p q r s t u v w x = rw (p, q, r, s, t, u, v, w, x)

pub seen_is : (a b : Seen) → same_seen a b ≡ true → a ≡ b
unfolding same_seen
seen_is a b e =
    let f = both_right (eqb a.level b.level) _ e in
    let g = both_right (eqb a.square1 b.square1) _ f in
    let h = both_right (eqb a.square2 b.square2) _ g in
    let i = both_right (eqb a.triangle b.triangle) _ h in
    let j = both_right (eqb a.noise b.noise) _ i in
    let k = both_right (eqb a.dmc b.dmc) _ j in
    let l = both_right (eqb a.line b.line) _ k in
    alike
    (eqb-true a.level b.level (both_left (eqb a.level b.level) _ e))
    (eqb-true a.square1 b.square1 (both_left (eqb a.square1 b.square1) _ f))
    (eqb-true a.square2 b.square2 (both_left (eqb a.square2 b.square2) _ g))
    (eqb-true a.triangle b.triangle (both_left (eqb a.triangle b.triangle) _ h))
    (eqb-true a.noise b.noise (both_left (eqb a.noise b.noise) _ i))
    (eqb-true a.dmc b.dmc (both_left (eqb a.dmc b.dmc) _ j))
    (eqb-true a.line b.line (both_left (eqb a.line b.line) _ k))
    (eqb-true a.frame_flag b.frame_flag (both_left (eqb a.frame_flag b.frame_flag) _ l))
    (eqb-true a.dmc_flag b.dmc_flag (both_right (eqb a.frame_flag b.frame_flag) _ l))

-- the nanoseconds of a clock have a bound
pub time_most : (pal : Bool) (c : ℕ) → c ≤ 4000000000 → clock_time pal c ≤ 4000000000000
unfolding clock_time clock_rate
time_most true c h = omega arith
time_most false c h = omega arith

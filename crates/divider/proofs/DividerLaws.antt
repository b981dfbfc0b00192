-- Divider facts, once for any period and whatever the divider drives. Assumes nothing.
use Prim.Native.Nat.{ℕ, zero, suc, ◌+◌, ◌-◌, ◌*◌, ◌/◌, ◌%◌, ◌≤◌, ◌<◌}
use mathlib.Core.Path.{◌≡◌, refl, ap, ◌∙◌}
use native.Mathlib.Nat.{add_comm, sub-zero, zero-mul, suc-mul, mod-lt, div-add-mod', div-lt_iff_lt-mul, add-sub_cancel_left, mul-mod_left, mul-div_cancel}
use native.Mathlib.Omega.{arith}
use mathlib.Core.Bool.{Bool, true, false}
use lib.Dec.{ltb}
use borrow.Author.Tests.{lt-leb, le-ltb, ltb-true, ltb-false}
use Rattle.arith.specs.Iterate.{iterate}
use Rattle.arith.specs.Pick.{pick}
use Rattle.divider.specs.Divider.{Driven, drive, outputs, count_after}
use Rattle.arith.proofs.IterateLaws.{iterate_add, iterate_one}

-- ANY NUMBER OF TICKS IN CLOSED FORM
module _ {A : Type 0} (n : ℕ) (step : A → A) where
  -- fewer ticks than the count: no output
  pub drive_before : (g c : ℕ) (x : A) → g < c
      → iterate (drive n step) g (record { count = c; part = x }) ≡ record { count = c - g; part = x }
  unfolding iterate drive
  drive_before zero c x h = simp sub-zero
  drive_before (suc g) c x h =
      rw (lt-leb c 1 (omega arith))
      (drive_before g (c - 1) x (omega arith) ∙ ap (λ (k : ℕ). record { count = k; part = x }) (omega arith))

  -- as many ticks as the count: one output, and the count is the period
  pub drive_at : (c : ℕ) (x : A) → 0 < c
      → iterate (drive n step) c (record { count = c; part = x }) ≡ record { count = n; part = step x }
  unfolding drive
  drive_at c x h =
      let e : c ≡ c - 1 + 1 = omega arith in
      let one : c - (c - 1) ≡ 1 = omega arith in
      ap (λ (k : ℕ). iterate (drive n step) k (record { count = c; part = x })) e
      ∙ iterate_add (drive n step) (c - 1) 1 (record { count = c; part = x })
      ∙ ap (iterate (drive n step) 1) (drive_before (c - 1) c x (omega arith))
      ∙ iterate_one (drive n step) _
      ∙ rw one

  -- q whole turns
  drive_turns : 0 < n → (q : ℕ) (x : A)
      → iterate (drive n step) (q * n) (record { count = n; part = x }) ≡ record { count = n; part = iterate step q x }
  unfolding iterate
  drive_turns h zero x = rw zero-mul
  drive_turns h (suc q) x =
      ap (λ (k : ℕ). iterate (drive n step) k (record { count = n; part = x })) (suc-mul q n ∙ add_comm (q * n) n)
      ∙ iterate_add (drive n step) n (q * n) (record { count = n; part = x })
      ∙ ap (iterate (drive n step) (q * n)) (drive_at n x h)
      ∙ drive_turns h q (step x)

  -- as many ticks as the count or more: by the quotient and the remainder of the rest
  drive_after : 0 < n → (g c : ℕ) (x : A) → 0 < c → c ≤ g
      → iterate (drive n step) g (record { count = c; part = x })
      ≡ record { count = n - (g - c) % n; part = iterate step (suc ((g - c) / n)) x }
  unfolding iterate
  drive_after hn g c x hc h =
      ap (λ (k : ℕ). iterate (drive n step) k (record { count = c; part = x })) split
      ∙ iterate_add (drive n step) c (q * n + r) (record { count = c; part = x })
      ∙ ap (iterate (drive n step) (q * n + r)) (drive_at c x hc)
      ∙ iterate_add (drive n step) (q * n) r (record { count = n; part = step x })
      ∙ ap (iterate (drive n step) r) (drive_turns hn q (step x))
      ∙ drive_before r n (iterate step q (step x)) (mod-lt (g - c) hn)
    where
      q : ℕ
      q = (g - c) / n

      r : ℕ
      r = (g - c) % n

      split : g ≡ c + (q * n + r)
      split = omega (arith, div-add-mod' (g - c) n)

  -- any number of ticks, in one form
  pub drive_closed : 0 < n → (g c : ℕ) (x : A) → 0 < c
      → iterate (drive n step) g (record { count = c; part = x }) ≡ record { count = count_after n c g; part = iterate step (outputs n c g) x }
  unfolding count_after outputs iterate
  drive_closed hn g c x hc = go (ltb g c) refl
    where
      go : (t : Bool) → ltb g c ≡ t
          → iterate (drive n step) g (record { count = c; part = x })
          ≡ record { count = pick t (c - g) (n - (g - c) % n); part = iterate step (pick t 0 (suc ((g - c) / n))) x }
      go true e = drive_before g c x (ltb-true g c e)
      go false e = drive_after hn g c x hc (ltb-false g c e)

-- THE COUNT AND THE OUTPUTS BY THEMSELVES

-- a count is at most what bounds the count before and the period
pub count_after_top : (n c g m : ℕ) → n ≤ m → c ≤ m → count_after n c g ≤ m
unfolding count_after
count_after_top n c g m nm cm = go (ltb g c)
  where
    go : (t : Bool) → pick t (c - g) (n - (g - c) % n) ≤ m
    go true = omega arith
    go false = omega arith

-- in fewer ticks than q turns after the count there are at most q outputs
outputs_most : (n c g q : ℕ) → 0 < n → 0 < c → g < c + q * n → outputs n c g ≤ q
unfolding outputs
outputs_most n c g q hn hc h = go (ltb g c) refl
  where
    go : (t : Bool) → ltb g c ≡ t → pick t 0 (suc ((g - c) / n)) ≤ q
    go true e = omega arith
    go false e =
        let b : c ≤ g = ltb-false g c e in
        let f : (g - c) / n < q = (div-lt_iff_lt-mul {k = n} {x = g - c} {y = q} hn).1 (omega arith) in
        omega arith

-- exactly at an output: q turns after the count
count_at_turn : (n c q : ℕ) → count_after n c (c + q * n) ≡ n
unfolding count_after
count_at_turn n c q = rw (le-ltb (c + q * n) c (omega arith), add-sub_cancel_left c (q * n), mul-mod_left q n) (sub-zero n)

outputs_at_turn : (n c q : ℕ) → 0 < n → outputs n c (c + q * n) ≡ suc q
unfolding outputs
outputs_at_turn n c q h = rw (le-ltb (c + q * n) c (omega arith), add-sub_cancel_left c (q * n), mul-div_cancel q h)

-- ONE LAW OF STILL AND TURN for whatever a divider drives: while its part's first q outputs leave what it gives, so do the clocks up to the
-- one before the next output; and at that clock the count is the period and the part has made q + 1 steps
module _ {A : Type 0} (n : ℕ) (step : A → A) (hn : 0 < n) where
  pub drive_still : {B : Type 0} (gives : A → B) (q c : ℕ) (x : A) → 0 < c → ((j : ℕ) → j ≤ q → gives (iterate step j x) ≡ gives x)
      → (k : ℕ) → k ≤ c - 1 + q * n → gives (iterate (drive n step) k (record { count = c; part = x })).part ≡ gives x
  drive_still gives q c x hc same k h =
      ap (λ (d : Driven A). gives d.part) (drive_closed n step hn k c x hc)
      ∙ same (outputs n c k) (outputs_most n c k q hn hc (omega arith))

  pub drive_turned : (q c : ℕ) (x : A) → 0 < c
      → iterate (drive n step) (c + q * n) (record { count = c; part = x }) ≡ record { count = n; part = iterate step (suc q) x }
  drive_turned q c x hc =
      drive_closed n step hn (c + q * n) c x hc
      ∙ rw (count_at_turn n c q, outputs_at_turn n c q hn)

  -- at the clock before that output: the count is 1 and the part has made q steps
  pub drive_brink : (q c : ℕ) (x : A) → 0 < c
      → iterate (drive n step) (c - 1 + q * n) (record { count = c; part = x }) ≡ record { count = 1; part = iterate step q x }
  unfolding iterate
  drive_brink zero c x hc =
      let none : c - 1 + 0 * n ≡ c - 1 = omega (arith, zero-mul n) in
      let one : c - (c - 1) ≡ 1 = omega arith in
      ap (λ (k : ℕ). iterate (drive n step) k (record { count = c; part = x })) none
      ∙ drive_before n step (c - 1) c x (omega arith)
      ∙ ap (λ (k : ℕ). record { count = k; part = x }) one
  drive_brink (suc q) c x hc =
      let split : c - 1 + suc q * n ≡ c + q * n + (n - 1) = omega (arith, suc-mul q n) in
      let one : n - (n - 1) ≡ 1 = omega arith in
      ap (λ (k : ℕ). iterate (drive n step) k (record { count = c; part = x })) split
      ∙ iterate_add (drive n step) (c + q * n) (n - 1) (record { count = c; part = x })
      ∙ ap (iterate (drive n step) (n - 1)) (drive_turned q c x hc)
      ∙ drive_before n step (n - 1) n (iterate step q (step x)) (omega arith)
      ∙ ap (λ (k : ℕ). record { count = k; part = iterate step q (step x) }) one

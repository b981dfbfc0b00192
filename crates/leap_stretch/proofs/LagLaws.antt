-- Laws of a part that lags, for any step, output and still. Assumes nothing.
use Rattle.std.proofs.Common.{◌≡◌, ℕ, ◌+◌, ◌-◌, ◌<◌, ◌≤◌, sym, refl, ap, ◌∙◌, subst, arith}
use Rattle.arith.specs.Iterate.{iterate}
use Rattle.leap_stretch.specs.Lag.{Follows}
use Rattle.arith.proofs.IterateLaws.{iterate_zero, iterate_add, iterate_keeps}

module _ {C : Type 0} {step : C → C} {out still : C → ℕ} where
  -- at the start nothing lags
  pub lag_start : (c : C) → Follows step out still c 0 c 0 (0 + still c + 1) (out c)
  lag_start c = record { reached = sym (iterate_zero step c); begun = omega arith; ahead = omega arith; due = refl; given = refl }

  module _ {first : C} {now : ℕ} {c : C} {at next gives : ℕ} (f : Follows step out still first now c at next gives) where
    -- brought to clock k, it is what k clocks make of the first
    pub lag_to : (k : ℕ) → at ≤ k → iterate step (k - at) c ≡ iterate step k first
    lag_to k h =
        ap (iterate step (k - at)) f.reached
        ∙ sym (iterate_add step at (k - at) first)
        ∙ ap (λ (n : ℕ). iterate step n first) (omega arith)

    -- it waits up to its next change
    pub lag_wait : (e : ℕ) → now ≤ e → e < next → Follows step out still first e c at next gives
    lag_wait e h q = record { reached = f.reached; begun = omega arith; ahead = q; due = f.due; given = f.given }

    -- brought up to clock e
    pub lag_moved : (e : ℕ) (d : C) → at ≤ e → d ≡ iterate step (e - at) c → Follows step out still first e d e (e + still d + 1) (out d)
    lag_moved e d h q = record { reached = q ∙ lag_to e h; begun = omega arith; ahead = omega arith; due = refl; given = refl }

    -- what is kept is what it gives, up to its next change
    pub lag_gives : (Fine : C → Type 0) → ((x : C) → Fine x → Fine (step x)) → ((x : C) (k : ℕ) → Fine x → k ≤ still x → out (iterate step k x) ≡ out x)
        → Fine first → (k : ℕ) → at ≤ k → k < next → out (iterate step k first) ≡ gives
    lag_gives Fine keeps quiet fine k h q =
        ap out (sym (lag_to k h))
        ∙ quiet c (k - at) (subst Fine (sym f.reached) (iterate_keeps Fine step keeps at first fine)) (omega (arith, f.due))
        ∙ sym f.given

    pub lag_fine : (Fine : C → Type 0) → ((x : C) → Fine x → Fine (step x)) → Fine first → Fine c
    lag_fine Fine keeps fine = subst Fine (sym f.reached) (iterate_keeps Fine step keeps at first fine)

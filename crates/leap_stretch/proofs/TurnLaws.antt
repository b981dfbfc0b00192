-- A channel that lags, at an event: for any channel. Assumes nothing.
use Rattle.std.proofs.Common.{◌≡◌, ℕ, ◌+◌, ◌<◌, ◌≤◌, sym, ap, ◌∙◌, arith}
use Rattle.arith.specs.Iterate.{iterate}
use Rattle.leap_still.specs.Forever.{forever}
use Rattle.leap_stretch.specs.Lag.{Follows}
use Rattle.leap_stretch.proofs.LagLaws.{lag_moved, lag_gives, lag_fine}

-- What a channel owes the leap: a clock keeps its range, for `still` clocks it gives the same, and one more clock brings the change.
pub record Leaps {C : Type 0} (step : C → C) (out still : C → ℕ) (turned : C → C) (Fine : C → Type 0) : Type 0 where
  pub keeps : (x : C) → Fine x → Fine (step x)
  pub same : (x : C) (k : ℕ) → Fine x → k ≤ still x → out (iterate step k x) ≡ out x
  pub turns : (x : C) → Fine x → still x < forever → iterate step (still x + 1) x ≡ turned x

module _ {C : Type 0} {step : C → C} {out still : C → ℕ} {turned : C → C} {Fine : C → Type 0} (o : Leaps step out still turned Fine)
    {first : C} (fine : Fine first) {now : ℕ} {c : C} {at next gives : ℕ} (f : Follows step out still first now c at next gives) where
  -- the channel as it is held is in range
  pub held_fine : Fine c
  held_fine = lag_fine f Fine o.keeps fine

  -- THE EVENT: brought up to its next change, it follows on
  pub turned_follows : (e : ℕ) → next ≡ e → e ≤ forever → Follows step out still first e (turned c) e (e + still (turned c) + 1) (out (turned c))
  turned_follows e q m =
      lag_moved f e (turned c) (omega (arith, f.begun, f.ahead))
      (sym (o.turns c held_fine (omega (arith, f.due))) ∙ ap (λ (k : ℕ). iterate step k c) (omega (arith, f.due)))

  -- what is kept is what it gives, up to its next change
  pub held_gives : (k : ℕ) → now ≤ k → k < next → out (iterate step k first) ≡ gives
  held_gives k h q = lag_gives f Fine o.keeps o.same fine k (omega (arith, f.begun)) q

-- The frame between two steps, by its clock, for any times that rise. Assumes nothing.
use Prim.Native.Nat.{ℕ, suc, ◌+◌, ◌-◌, ◌%◌, ◌≤◌, ◌<◌}
use mathlib.Core.Path.{◌≡◌, refl, sym, ap, ◌∙◌}
use mathlib.Core.Bool.{Bool, true, false, not}
use native.Mathlib.Nat.{mod-eq_of_lt, mod-lt, mod_self, mod-add-mod, add-mod_left}
use native.Mathlib.Omega.{arith}
use lib.Dec.{leb, ltb, eqb}
use borrow.Author.Tests.{leb-true, leb-false, ltb-true, ltb-false, ne_eqb, eq-eqb}
use Rattle.arith.specs.Pick.{pick, both}
use Rattle.arith.proofs.PickLaws.{pick_each}
use Rattle.chip_frame.specs.Frame.{last_number, frame_moved, step_at, next_step, frame_due}
use Rattle.leap_frame.specs.Leap.{frame_before, frame_passed}
use Rattle.chip_frame.proofs.RangeLaws.{FrameRanged}
use Rattle.chip_frame.specs.declared.Times.{Times}
use Rattle.chip_frame.specs.declared.Frame.{Frame}

-- times that rise
pub record Rising (t : Times) : Type 0 where
  pub first : 1 ≤ t.first
  pub second : t.first < t.second
  pub third : t.second < t.third
  pub fourth : t.third < t.fourth
  pub fifth : t.fourth < t.fifth

abbrev at_clock_lem : Frame → ℕ → Frame
at_clock_lem f k = record { mode = f.mode; disable = f.disable; clock = k; interrupt = f.interrupt }

abbrev last : Times → Frame → ℕ
last t f = last_number t f.mode

-- ONE CLOCK MORE

-- the number behind one goes round as a remainder does
next_round : (last k : ℕ) → k ≤ last → pick (leb last k) 0 (k + 1) ≡ (k + 1) % (last + 1)
next_round last k h =
    pick_each (λ (x : ℕ). x ≡ (k + 1) % (last + 1)) (leb last k)
    (λ e. let same : k ≡ last = omega (arith, leb-true last k e) in sym (rw same (mod_self (last + 1))))
    (λ e. let l : k < last = leb-false last k e in sym (mod-eq_of_lt (omega arith)))

module _ (t : Times) (f : Frame) (h : FrameRanged t f) where
  -- no clocks leave it
  pub passed_none : frame_passed t 0 f ≡ f
  unfolding frame_passed
  passed_none =
      let whole : f.clock % (last t f + 1) ≡ f.clock = mod-eq_of_lt (omega (arith, h.clock)) in
      let none : f.clock + 0 ≡ f.clock = omega arith in
      ap (at_clock_lem f) (rw none whole)

  -- and one clock is one more
  pub passed_more : (g : ℕ) → frame_moved t (frame_passed t g f) ≡ frame_passed t (suc g) f
  unfolding frame_moved frame_passed
  passed_more g =
      let below : (f.clock + g) % (last t f + 1) < last t f + 1 = mod-lt (f.clock + g) (omega arith) in
      ap (at_clock_lem f)
      (next_round (last t f) ((f.clock + g) % (last t f + 1)) (omega arith)
      ∙ mod-add-mod (f.clock + g) (last t f + 1) 1
      ∙ ap (λ (x : ℕ). x % (last t f + 1)) (omega arith))

-- WHERE NO STEP COMES

-- at a number that is none of the times
no_step : (t : Times) (mode : Bool) (k : ℕ)
    → (k ≡ t.first → ⊥) → (k ≡ t.second → ⊥) → (k ≡ t.third → ⊥) → (k ≡ t.fourth → ⊥) → (k ≡ t.fifth → ⊥)
    → step_at t mode k ≡ 0
unfolding step_at
no_step t mode k a b c d e =
    rw (ne_eqb k t.first a, ne_eqb k t.second b, ne_eqb k t.third c, ne_eqb k t.fourth d, ne_eqb k t.fifth e) (none mode)
  where
    none : (m : Bool) → ◌≡◌ {A = ℕ} (pick (both m false) 1 0) 0
    none true = refl
    none false = refl

-- WHERE ONE COMES

module _ (t : Times) (rise : Rising t) (mode : Bool) where
  at_first : eqb (step_at t mode t.first) 0 ≡ false
  unfolding step_at
  at_first = rw (eq-eqb t.first t.first refl) (two mode)
    where
      two : (m : Bool) → eqb (pick m 2 1) 0 ≡ false
      two true = refl
      two false = refl

  at_second : eqb (step_at t mode t.second) 0 ≡ false
  unfolding step_at
  at_second =
      rw (ne_eqb t.second t.first (λ e. omega (arith, rise.second)), eq-eqb t.second t.second refl) (two mode)
    where
      two : (m : Bool) → eqb (pick m 3 2) 0 ≡ false
      two true = refl
      two false = refl

  at_third : eqb (step_at t mode t.third) 0 ≡ false
  unfolding step_at
  at_third =
      rw (ne_eqb t.third t.first (λ e. omega (arith, rise.second, rise.third)), ne_eqb t.third t.second (λ e. omega (arith, rise.third)), eq-eqb t.third t.third refl)
      (two mode)
    where
      two : (m : Bool) → eqb (pick m 4 3) 0 ≡ false
      two true = refl
      two false = refl

  at_fourth : eqb (step_at t mode t.fourth) 0 ≡ false
  unfolding step_at
  at_fourth =
      rw (ne_eqb t.fourth t.first (λ e. omega (arith, rise.second, rise.third, rise.fourth)), ne_eqb t.fourth t.second (λ e. omega (arith, rise.third, rise.fourth)), ne_eqb t.fourth t.third (λ e. omega (arith, rise.fourth)), eq-eqb t.fourth t.fourth refl)
      (two mode)
    where
      two : (m : Bool) → eqb (pick m 5 4) 0 ≡ false
      two true = refl
      two false = refl

at_fifth : (t : Times) → Rising t → eqb (step_at t true t.fifth) 0 ≡ false
unfolding step_at
at_fifth t rise =
    rw (ne_eqb t.fifth t.first (λ e. omega (arith, rise.second, rise.third, rise.fourth, rise.fifth)), ne_eqb t.fifth t.second (λ e. omega (arith, rise.third, rise.fourth, rise.fifth)), ne_eqb t.fifth t.third (λ e. omega (arith, rise.fourth, rise.fifth)), ne_eqb t.fifth t.fourth (λ e. omega (arith, rise.fifth)), eq-eqb t.fifth t.fifth refl)

-- THE CLOCKS BEFORE A STEP

-- none of b clocks brings a step, and the one behind them does
record Brink (t : Times) (f : Frame) (b : ℕ) : Type 0 where
  pub none : (g : ℕ) → g < b → step_at t f.mode ((f.clock + suc g) % (last_number t f.mode + 1)) ≡ 0
  pub due : eqb (step_at t f.mode ((f.clock + suc b) % (last_number t f.mode + 1))) 0 ≡ false

fourth_most : (t : Times) → Rising t → (mode : Bool) → t.fourth ≤ last_number t mode
fourth_most t rise true = omega (arith, rise.fifth)
fourth_most t rise false = omega arith

module _ (t : Times) (rise : Rising t) (f : Frame) (h : FrameRanged t f) where
  -- up to a time in this frame
  up : (time : ℕ) → f.clock < time → time ≤ last t f → ((k : ℕ) → f.clock < k → k < time → step_at t f.mode k ≡ 0)
      → eqb (step_at t f.mode time) 0 ≡ false → Brink t f (time - 1 - f.clock)
  up time below within none at =
      record {
        none =
            λ g few. let k : ℕ = f.clock + suc g in
            let whole : k % (last t f + 1) ≡ k = mod-eq_of_lt (omega arith) in rw whole (none k (omega arith) (omega arith));
        due =
            let there : f.clock + suc (time - 1 - f.clock) ≡ time = omega arith in
            let whole : time % (last t f + 1) ≡ time = mod-eq_of_lt (omega arith) in rw (there, whole) at;
      }

  -- from the last number, round to the first time
  round : f.clock ≡ last t f → Brink t f t.first
  round at_end =
      let top = fourth_most t rise f.mode in
      let on : (g : ℕ) → g ≤ t.first → (f.clock + suc g) % (last t f + 1) ≡ g =
      λ g few. let e : f.clock + suc g ≡ (last t f + 1) + g = omega arith in
      let whole : g % (last t f + 1) ≡ g = mod-eq_of_lt (omega (arith, rise.second, rise.third, rise.fourth)) in rw e (add-mod_left (last t f + 1) g ∙ whole)
      in
      record {
        none =
            λ g few. rw (on g (omega arith))
            (no_step t f.mode g (λ e. omega arith) (λ e. omega (arith, rise.second)) (λ e. omega (arith, rise.second, rise.third)) (λ e. omega (arith, rise.second, rise.third, rise.fourth)) (λ e. omega (arith, rise.second, rise.third, rise.fourth, rise.fifth)));
        due = rw (on t.first (omega arith)) (at_first t rise f.mode);
      }

  -- behind the fourth time
  late : t.fourth ≤ f.clock → (mode : Bool) → f.mode ≡ mode
      → Brink t f (pick (both mode (ltb f.clock t.fifth)) (t.fifth - 1 - f.clock) t.first)
  late past false m =
      let top : f.clock ≤ t.fourth = rw m at h.clock in
      let there : last t f ≡ t.fourth = rw m refl in
      round (omega arith)
  late past true m =
      let top : f.clock ≤ t.fifth = rw m at h.clock in
      let there : last t f ≡ t.fifth = rw m refl in
      pick_each (Brink t f) (ltb f.clock t.fifth)
      (λ e. let below : f.clock < t.fifth = ltb-true f.clock t.fifth e in
      up t.fifth below (omega arith)
      (λ k lo hi. no_step t f.mode k (λ x. omega (arith, rise.second, rise.third, rise.fourth)) (λ x. omega (arith, rise.third, rise.fourth)) (λ x. omega (arith, rise.fourth)) (λ x. omega arith) (λ x. omega arith))
      (rw m (at_fifth t rise)))
      (λ e. let above : t.fifth ≤ f.clock = ltb-false f.clock t.fifth e in round (omega arith))

  brink : Brink t f (frame_before t f)
  unfolding frame_before
  brink =
      let top = fourth_most t rise f.mode in
      pick_each (Brink t f) (ltb f.clock t.first)
      (λ e. let below : f.clock < t.first = ltb-true f.clock t.first e in
      up t.first below (omega (arith, rise.second, rise.third, rise.fourth))
      (λ k lo hi. no_step t f.mode k (λ x. omega arith) (λ x. omega (arith, rise.second)) (λ x. omega (arith, rise.second, rise.third)) (λ x. omega (arith, rise.second, rise.third, rise.fourth)) (λ x. omega (arith, rise.second, rise.third, rise.fourth, rise.fifth)))
      (at_first t rise f.mode))
      (λ e1. let past1 : t.first ≤ f.clock = ltb-false f.clock t.first e1 in
      pick_each (Brink t f) (ltb f.clock t.second)
      (λ e. let below : f.clock < t.second = ltb-true f.clock t.second e in
      up t.second below (omega (arith, rise.third, rise.fourth))
      (λ k lo hi. no_step t f.mode k (λ x. omega arith) (λ x. omega arith) (λ x. omega (arith, rise.third)) (λ x. omega (arith, rise.third, rise.fourth)) (λ x. omega (arith, rise.third, rise.fourth, rise.fifth)))
      (at_second t rise f.mode))
      (λ e2. let past2 : t.second ≤ f.clock = ltb-false f.clock t.second e2 in
      pick_each (Brink t f) (ltb f.clock t.third)
      (λ e. let below : f.clock < t.third = ltb-true f.clock t.third e in
      up t.third below (omega (arith, rise.fourth))
      (λ k lo hi. no_step t f.mode k (λ x. omega (arith, rise.second)) (λ x. omega arith) (λ x. omega arith) (λ x. omega (arith, rise.fourth)) (λ x. omega (arith, rise.fourth, rise.fifth)))
      (at_third t rise f.mode))
      (λ e3. let past3 : t.third ≤ f.clock = ltb-false f.clock t.third e3 in
      pick_each (Brink t f) (ltb f.clock t.fourth)
      (λ e. let below : f.clock < t.fourth = ltb-true f.clock t.fourth e in
      up t.fourth below top
      (λ k lo hi. no_step t f.mode k (λ x. omega (arith, rise.second, rise.third)) (λ x. omega (arith, rise.third)) (λ x. omega arith) (λ x. omega arith) (λ x. omega (arith, rise.fifth)))
      (at_fourth t rise f.mode))
      (λ e4. late (ltb-false f.clock t.fourth e4) f.mode refl))))

  -- the step behind g clocks
  next_is : (g : ℕ) → next_step t (frame_passed t g f) ≡ step_at t f.mode ((f.clock + suc g) % (last t f + 1))
  unfolding frame_passed
  next_is g = ap (λ (x : Frame). step_at t f.mode x.clock) (passed_more t f h g)

  -- after fewer clocks than bring a step the next brings none,
  pub passed_due : (g : ℕ) → g < frame_before t f → frame_due t (frame_passed t g f) ≡ false
  unfolding frame_due
  passed_due g few =
      let n : next_step t (frame_passed t g f) ≡ 0 = next_is g ∙ brink.none g few in
      ap (λ (k : ℕ). not (eqb k 0)) n

  -- and the clock behind them brings the step
  pub before_due : frame_due t (frame_passed t (frame_before t f) f) ≡ true
  unfolding frame_due
  before_due = ap not (ap (λ (k : ℕ). eqb k 0) (next_is (frame_before t f)) ∙ brink.due)

-- HOW LONG A STRETCH CAN BE

-- where no gap between two times is longer, and the first comes no later, a stretch between two steps is no longer either
pub record Gaps (t : Times) (most : ℕ) : Type 0 where
  pub first : t.first ≤ most
  pub second : t.second ≤ t.first + most
  pub third : t.third ≤ t.second + most
  pub fourth : t.fourth ≤ t.third + most
  pub fifth : t.fifth ≤ t.fourth + most

pub before_most : (t : Times) (most : ℕ) → Gaps t most → (f : Frame) → frame_before t f ≤ most
unfolding frame_before
before_most t most gaps f =
    pick_each (λ (b : ℕ). b ≤ most) (ltb f.clock t.first) (λ e. omega (arith, gaps.first))
    (λ e1. let past1 : t.first ≤ f.clock = ltb-false f.clock t.first e1 in
    pick_each (λ (b : ℕ). b ≤ most) (ltb f.clock t.second) (λ e. omega (arith, gaps.second))
    (λ e2. let past2 : t.second ≤ f.clock = ltb-false f.clock t.second e2 in
    pick_each (λ (b : ℕ). b ≤ most) (ltb f.clock t.third) (λ e. omega (arith, gaps.third))
    (λ e3. let past3 : t.third ≤ f.clock = ltb-false f.clock t.third e3 in
    pick_each (λ (b : ℕ). b ≤ most) (ltb f.clock t.fourth) (λ e. omega (arith, gaps.fourth))
    (λ e4. let past4 : t.fourth ≤ f.clock = ltb-false f.clock t.fourth e4 in
    pick_each (λ (b : ℕ). b ≤ most) (both f.mode (ltb f.clock t.fifth)) (λ e. omega (arith, gaps.fifth)) (λ e. gaps.first)))))

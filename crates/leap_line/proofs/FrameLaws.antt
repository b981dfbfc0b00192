-- The frame counts down to its flag, for any times that rise. Assumes nothing.
use Prim.Native.Nat.{ℕ, ◌+◌, ◌-◌, ◌<◌, ◌≤◌}
use mathlib.Core.Path.{◌≡◌, refl, sym, ◌∙◌}
use mathlib.Core.Bool.{Bool, true, false, not}
use native.Mathlib.Omega.{arith}
use lib.Dec.{ltb, leb, eqb}
use borrow.Author.Tests.{eqb-true, eqb-false, ne_eqb, lt-ltb, le-ltb, leb-true, leb-false}
use Rattle.arith.specs.Pick.{pick, both}
use Rattle.arith.proofs.PickLaws.{pick_both}
use Rattle.chip_frame.specs.Frame.{last_number, frame_moved, step_at, next_step, frame_due, frame_stepped, frame_asserts}
use Rattle.chip_frame.specs.declared.Times.{Times}
use Rattle.chip_frame.specs.declared.Frame.{Frame}
use Rattle.leap_frame.proofs.LeapLaws.{Rising}
use Rattle.leap_line.specs.Until.{frame_until}
use Rattle.leap_line.proofs.CountLaws.{Counts, arrives, counts_both}

-- the frame a clock later
abbrev pub frame_next : Times → Frame → Frame
frame_next t f = pick (frame_due t f) (frame_stepped (next_step t f) (frame_moved t f)) (frame_moved t f)

-- in mode 0 step 4 comes at the fourth time alone
step_four : (t : Times) → Rising t → (c : ℕ) → eqb (step_at t false c) 4 ≡ eqb c t.fourth
unfolding step_at
step_four t r c = go (eqb c t.first) (eqb c t.second) (eqb c t.third) (eqb c t.fourth) refl refl refl refl
  where
    go : (p q s u : Bool) → eqb c t.first ≡ p → eqb c t.second ≡ q → eqb c t.third ≡ s → eqb c t.fourth ≡ u
        → eqb (pick p 1 (pick q 2 (pick s 3 (pick u 4 0)))) 4 ≡ u
    go true q s u e f g h = sym (sym h ∙ ne_eqb c t.fourth (λ z. let k = eqb-true c t.first e in omega (arith, r.second, r.third, r.fourth)))
    go false true s u e f g h = sym (sym h ∙ ne_eqb c t.fourth (λ z. let k = eqb-true c t.second f in omega (arith, r.third, r.fourth)))
    go false false true u e f g h = sym (sym h ∙ ne_eqb c t.fourth (λ z. let k = eqb-true c t.third g in omega (arith, r.fourth)))
    go false false false true e f g h = refl
    go false false false false e f g h = refl

module _ (t : Times) (f : Frame) where
  next_mode : (frame_next t f).mode ≡ f.mode
  unfolding frame_stepped frame_moved
  next_mode = pick_both (λ (x : Frame). x.mode ≡ f.mode) (frame_due t f) refl refl

  next_disable : (frame_next t f).disable ≡ f.disable
  unfolding frame_stepped frame_moved
  next_disable = pick_both (λ (x : Frame). x.disable ≡ f.disable) (frame_due t f) refl refl

  next_clock : (frame_next t f).clock ≡ pick (leb (last_number t f.mode) f.clock) 0 (f.clock + 1)
  unfolding frame_stepped frame_moved
  next_clock = pick_both (λ (x : Frame). x.clock ≡ pick (leb (last_number t f.mode) f.clock) 0 (f.clock + 1)) (frame_due t f) refl refl

  -- the flag is set by step 4 of mode 0 with disable clear, and by nothing else
  next_flag : (frame_next t f).interrupt ≡ pick (both (not f.disable) (both (not f.mode) (eqb (next_step t f) 4))) true f.interrupt
  unfolding frame_stepped frame_moved frame_due
  next_flag = go (next_step t f) (eqb (next_step t f) 0) refl
    where
      by : (a b i : Bool) → i ≡ pick (both a (both b false)) true i
      by true true i = refl
      by true false i = refl
      by false b i = refl

      none : (k : ℕ) → k ≡ 0 → f.interrupt ≡ pick (both (not f.disable) (both (not f.mode) (eqb k 4))) true f.interrupt
      none k e = rw e (by (not f.disable) (not f.mode) f.interrupt)

      go : (k : ℕ) (b : Bool) → eqb k 0 ≡ b
          → (pick (not b) (frame_stepped k (frame_moved t f)) (frame_moved t f)).interrupt ≡ pick (both (not f.disable) (both (not f.mode) (eqb k 4))) true f.interrupt
      go k true e = none k (eqb-true k 0 e)
      go k false e = refl

-- nothing is counted
pub idle : (x : Bool) → Counts 0 x x 0
idle x = record { now = λ z. absurd (omega arith); else = λ z. refl; on = λ z. absurd (omega arith); never = λ z. refl }

-- one clock nearer
pub nearer : {u u' : ℕ} (x : Bool) → 1 < u → u' ≡ u - 1 → Counts u x x u'
nearer x h e = record { now = λ z. absurd (omega arith); else = λ z. refl; on = λ z. e; never = λ z. absurd (omega arith) }

module _ (t : Times) (r : Rising t) where
  abbrev F : ℕ
  F = t.fourth

  abbrev until : ℕ → ℕ
  until c = pick (ltb c F) (F - c) (F + 1)

  some : 0 < t.fourth
  some = omega (arith, r.second, r.third, r.fourth)

  -- in mode 0 with disable clear
  running : (c : ℕ) (i : Bool) (b : Bool) → leb F c ≡ b → Counts (until c) i (pick (eqb (pick b 0 (c + 1)) F) true i) (until (pick b 0 (c + 1)))
  running c i true e =
      let h : F ≤ c = leb-true F c e in
      rw (le-ltb c F h, lt-ltb 0 F some, ne_eqb 0 F (λ z. omega (arith, some))) (nearer i (omega (arith, some)) (omega arith))
  running c i false e = go (eqb (c + 1) F) refl
    where
      h : c < F
      h = leb-false F c e

      go : (b : Bool) → eqb (c + 1) F ≡ b → Counts (until c) i (pick b true i) (until (c + 1))
      go true f = rw (lt-ltb c F h) (arrives (let k = eqb-true (c + 1) F f in omega (arith, h)) refl)
      go false f = let k = eqb-false (c + 1) F f in rw (lt-ltb c F h, lt-ltb (c + 1) F (omega (arith, h))) (nearer i (omega (arith, h)) (omega (arith, h)))

  plain : (m d : Bool) (c : ℕ) (i : Bool)
      → let c' = pick (leb (last_number t m) c) 0 (c + 1) in
      Counts (pick (both (not m) (not d)) (until c) 0) i
      (pick (both (not d) (both (not m) (eqb (step_at t m c') 4))) true i) (pick (both (not m) (not d)) (until c') 0)
  plain true true c i = idle i
  plain true false c i = idle i
  plain false true c i = idle i
  plain false false c i = rw (step_four t r (pick (leb F c) 0 (c + 1))) (running c i (leb F c) refl)

  plain_frame : (f : Frame) → let c' = pick (leb (last_number t f.mode) f.clock) 0 (f.clock + 1) in
      Counts (pick (both (not f.mode) (not f.disable)) (until f.clock) 0) f.interrupt
      (pick (both (not f.disable) (both (not f.mode) (eqb (next_step t f) 4))) true f.interrupt)
      (pick (both (not f.mode) (not f.disable)) (until c') 0)
  unfolding frame_moved
  plain_frame f = plain f.mode f.disable f.clock f.interrupt

  -- THE FRAME COUNTS DOWN TO ITS FLAG
  pub frame_counts : (f : Frame) → Counts (frame_until t f) f.interrupt (frame_next t f).interrupt (frame_until t (frame_next t f))
  unfolding frame_until
  frame_counts f = rw (next_mode t f, next_disable t f, next_clock t f, next_flag t f) (plain_frame f)

  -- a frame that counts has disable clear
  enabled : (f : Frame) → frame_until t f ≡ 1 → not f.disable ≡ true
  unfolding frame_until
  enabled f = go f.mode f.disable
    where
      go : (m d : Bool) → pick (both (not m) (not d)) (until f.clock) 0 ≡ 1 → not d ≡ true
      go m false e = refl
      go true true e = absurd (omega arith)
      go false true e = absurd (omega arith)

  -- AND TO WHAT IT ASSERTS
  pub asserts_counts : (f : Frame) → Counts (frame_until t f) (frame_asserts f) (frame_asserts (frame_next t f)) (frame_until t (frame_next t f))
  unfolding frame_asserts
  asserts_counts f = rw (next_disable t f) (counts_both (not f.disable) (enabled f) (frame_counts f))

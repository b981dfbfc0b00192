-- A square's part in the leap: the whole numbers are the sequencer's, and still, the closed form and the next change are its clocks.
-- Assumes nothing.
use Rattle.std.proofs.Common.{◌≡◌, ℕ, zero, suc, ◌+◌, ◌-◌, ◌*◌, ◌/◌, ◌%◌, ◌<◌, ◌≤◌, Bool, true, false, not, eqb, sym, refl, ap, ◌∙◌, mul-le-mul, add-one, arith, eq-eqb, ne_eqb, eqb-true, leb-false}
use borrow.Author.Tests.{eqb-false}
use Rattle.arith.specs.Iterate.{iterate}
use Rattle.arith.specs.Pick.{pick}
use Rattle.arith.proofs.IterateLaws.{iterate_along, iterate_along_while}
use Rattle.arith.proofs.PickLaws.{pick_each}
use Rattle.divider.specs.Divider.{due, Driven, drive, outputs, count_after}
use Rattle.leap_still.specs.Forever.{forever}
use Rattle.divider.proofs.DividerLaws.{drive_closed, drive_still, drive_turned}
use Rattle.chip_timer.specs.Timer.{timer_period, timer_clock}
use Rattle.divider.proofs.RangeLaws.{tick_ranged}
use Rattle.chip_square.specs.Sequencer.{duty_bit, sequencer_clock}
use Rattle.chip_square.specs.Square.{with_sequencer, square_amount, square_output}
use Rattle.leap_square.specs.Leap.{steps_of, beat_of, with_beat, beat_clock, duty_row, beat_gives, duty_turns, square_still, beat_advanced, beat_turned}
use Rattle.chip_square.specs.declared.Sequencer.{Sequencer}
use Rattle.chip_square.specs.declared.Square.{Square}
use Rattle.leap_square.specs.declared.Beat.{Beat}
use Rattle.chip_square.proofs.RangeLaws.{SequencerRanged}
use Rattle.leap_square.proofs.TurnLaws.{turns_most, turns_leave}

pub record BeatRanged (b : Beat) : Type 0 where
  pub n_from : 1 ≤ b.n
  pub n_to : b.n ≤ 2048
  pub count_from : 1 ≤ b.count
  pub count_to : b.count ≤ 2048
  pub steps : b.steps ≤ 15

-- a clock keeps the range
pub beat_clocked : (b : Beat) → BeatRanged b → BeatRanged (beat_clock b)
unfolding beat_clock
beat_clocked b r =
    let t = tick_ranged b.n b.count 2048 r.n_from r.n_to r.count_to in
    record {
      n_from = r.n_from;
      n_to = r.n_to;
      count_from = t.0;
      count_to = t.1;
      steps = pick_each (λ (k : ℕ). k ≤ 15) (due b.count) (λ e. omega arith) (λ e. r.steps);
    }

-- a sequencer in range is a beat in range
pub beat_ranged : (q : Sequencer) → SequencerRanged q → BeatRanged (beat_of q)
unfolding beat_of steps_of
beat_ranged q r =
    record {
      n_from = omega arith;
      n_to = omega arith;
      count_from = r.timer.count_from;
      count_to = r.timer.count_to;
      steps =
          pick_each (λ (k : ℕ). 2 * q.position + k ≤ 15) q.half (λ e. omega (arith, r.position))
          (λ e. omega (arith, r.position));
    }

n_stays : (b : Beat) → (beat_clock b).n ≡ b.n
unfolding beat_clock
n_stays b = refl

-- THE BEAT IS THE SEQUENCER'S

-- half flag and position, an output on
half_flips : (s : ℕ) → not (eqb (s % 2) 1) ≡ eqb ((s + 1) % 16 % 2) 1
half_flips s = go (eqb (s % 2) 1) refl
  where
    go : (t : Bool) → eqb (s % 2) 1 ≡ t → not t ≡ eqb ((s + 1) % 16 % 2) 1
    go true e =
        let h : s % 2 ≡ 1 = eqb-true _ _ e in
        sym (ne_eqb ((s + 1) % 16 % 2) 1 (λ z. omega arith))
    go false e =
        let h : s % 2 ≡ 1 → ⊥ = eqb-false _ _ e in
        sym (eq-eqb ((s + 1) % 16 % 2) 1 (omega arith))

position_moves : (s : ℕ) → pick (eqb (s % 2) 1) ((s / 2 % 8 + 1) % 8) (s / 2 % 8) ≡ (s + 1) % 16 / 2 % 8
position_moves s =
    pick_each (λ (k : ℕ). k ≡ (s + 1) % 16 / 2 % 8) (eqb (s % 2) 1)
    (λ e. let h : s % 2 ≡ 1 = eqb-true _ _ e in omega arith)
    (λ e. let h : s % 2 ≡ 1 → ⊥ = eqb-false _ _ e in omega arith)

module _ (q : Sequencer) where
  clock_beats : (b : Beat) → BeatRanged b → b.n ≡ timer_period q.timer
      → sequencer_clock (with_beat q b) ≡ with_beat q (beat_clock b)
  unfolding sequencer_clock timer_clock with_beat beat_clock
  clock_beats b r e = go (due b.count) refl
    where
      small : b.count % 65536 ≡ b.count
      small = omega (arith, r.count_to)

      go : (t : Bool) → due b.count ≡ t → sequencer_clock (with_beat q b) ≡ with_beat q (beat_clock b)
      go true d =
          let n : timer_period q.timer % 65536 ≡ timer_period q.timer = omega arith in
          rw (small, d, e, n, half_flips b.steps, position_moves b.steps)
      go false d =
          let f : 1 < b.count = leb-false _ _ d in
          let c : (b.count - 1) % 65536 ≡ b.count - 1 = omega (arith, r.count_to) in
          rw (small, d, c)

  beat_back : SequencerRanged q → with_beat q (beat_of q) ≡ q
  unfolding with_beat beat_of steps_of
  beat_back r = go q.half refl
    where
      go : (t : Bool) → q.half ≡ t
          → ◌≡◌ {A = Sequencer}
          (record {
            timer = record { period = q.timer.period; count = q.timer.count % 65536 };
            half = eqb ((2 * q.position + pick t 1 0) % 2) 1;
            position = (2 * q.position + pick t 1 0) / 2 % 8;
          })
          (record { timer = q.timer; half = t; position = q.position })
      go true d =
          let a : q.timer.count % 65536 ≡ q.timer.count = omega (arith, r.timer.count_to) in
          let h : (2 * q.position + 1) % 2 ≡ 1 = omega arith in
          let m : (2 * q.position + 1) / 2 ≡ q.position = omega arith in
          let p : q.position % 8 ≡ q.position = omega (arith, r.position) in
          rw (a, h, m, p)
      go false d =
          let a : q.timer.count % 65536 ≡ q.timer.count = omega (arith, r.timer.count_to) in
          let h : (2 * q.position + 0) % 2 ≡ 0 = omega arith in
          let m : (2 * q.position + 0) / 2 ≡ q.position = omega arith in
          let p : q.position % 8 ≡ q.position = omega (arith, r.position) in
          rw (a, h, m, p)

  pub sequencer_beats : SequencerRanged q → (g : ℕ) → iterate sequencer_clock g q ≡ with_beat q (iterate beat_clock g (beat_of q))
  unfolding beat_of
  sequencer_beats r g =
      ap (iterate sequencer_clock g) (sym (beat_back r))
      ∙ iterate_along_while sequencer_clock beat_clock (with_beat q)
      (λ m b. BeatRanged b × (b.n ≡ timer_period q.timer))
      (λ m b p. clock_beats b p.0 p.1)
      (λ m b p. (beat_clocked b p.0, n_stays b ∙ p.1))
      g (beat_of q) (beat_ranged q r, refl)

-- THE CLOSED FORM

-- the steps an output on
abbrev step : ℕ → ℕ
step s = (s + 1) % 16

steps_on : (k s : ℕ) → s ≤ 15 → iterate step k s ≡ (s + k) % 16
unfolding iterate
steps_on zero s h = omega arith
steps_on (suc k) s h = steps_on k (step s) (omega arith) ∙ omega arith

-- the timer as a divider, and the steps that it drives
abbrev beat_with : ℕ → Driven ℕ → Beat
beat_with n d = record { n = n; count = d.count; steps = d.part }

abbrev own : Beat → Driven ℕ
own b = record { count = b.count; part = b.steps }

clock_driven : (n : ℕ) (d : Driven ℕ) → beat_clock (beat_with n d) ≡ beat_with n (drive n step d)
unfolding beat_clock drive
clock_driven n d = go (due d.count)
  where
    go : (t : Bool)
        → ◌≡◌ {A = Beat} (record { n = n; count = pick t n (d.count - 1); steps = pick t (step d.part) d.part })
        (beat_with n (pick t (record { count = n; part = step d.part }) (record { count = d.count - 1; part = d.part })))
    go true = refl
    go false = refl

driven : (g : ℕ) (b : Beat) → iterate beat_clock g b ≡ beat_with b.n (iterate (drive b.n step) g (own b))
driven g b = iterate_along beat_clock (drive b.n step) (beat_with b.n) (clock_driven b.n) g (own b)

pub beat_closed : (g : ℕ) (b : Beat) → 1 ≤ b.n → 1 ≤ b.count → b.steps ≤ 15 → iterate beat_clock g b ≡ beat_advanced g b
unfolding beat_advanced
beat_closed g b hn hc hs =
    driven g b
    ∙ ap (beat_with b.n) (drive_closed b.n step hn g b.count b.steps hc)
    ∙ ap (λ (k : ℕ). beat_with b.n (record { count = count_after b.n b.count g; part = k }))
    (steps_on (outputs b.n b.count g) b.steps hs)

-- still fits in 64 bits with room to spare, for any fields of their types
pub still_most : (row amount : ℕ) (b : Beat) → b.n ≤ 4294967295 → b.count ≤ 4294967295
    → square_still row amount b ≤ 70000000000
unfolding square_still
still_most row amount b hn hc =
    pick_each (λ (x : ℕ). x ≤ 70000000000) (eqb amount 0) (λ e. omega arith)
    (λ e.
    omega
    (arith, mul-le-mul {n₁ = duty_turns row b.steps} {m₁ = b.n} {n₂ = 13} {m₂ = 4294967295} (turns_most row b.steps) hn))

-- with an amount of 0 it gives 0
pub gives_none : (row : ℕ) (b : Beat) → beat_gives row 0 b ≡ 0
unfolding beat_gives
gives_none row b = go (eqb (duty_bit (row / 16) (b.steps / 2)) 1)
  where
    go : (t : Bool) → ◌≡◌ {A = ℕ} (pick t 0 0) 0
    go true = refl
    go false = refl

-- what it gives is at most its amount
pub gives_most : (row amount : ℕ) (b : Beat) → beat_gives row amount b ≤ amount
unfolding beat_gives
gives_most row amount b =
    pick_each (λ (k : ℕ). k ≤ amount) (eqb (duty_bit (row / 16) (b.steps / 2)) 1) (λ e. omega arith) (λ e. omega arith)

module _ (row amount : ℕ) (b : Beat) (r : BeatRanged b) where
  bit_leaves : (j : ℕ) → j ≤ duty_turns row b.steps
      → pick (eqb (duty_bit (row / 16) (iterate step j b.steps / 2)) 1) amount 0
      ≡ pick (eqb (duty_bit (row / 16) (b.steps / 2)) 1) amount 0
  bit_leaves j q =
      ap (λ (s : ℕ). pick (eqb (duty_bit (row / 16) (s / 2)) 1) amount 0) (steps_on j b.steps r.steps)
      ∙ ap (λ (x : ℕ). pick (eqb x 1) amount 0) (turns_leave row b.steps j r.steps q)

  -- THE LAW OF STILL
  pub square_still_lem : (k : ℕ) → k ≤ square_still row amount b
      → beat_gives row amount (iterate beat_clock k b) ≡ beat_gives row amount b
  unfolding square_still beat_gives
  square_still_lem k =
      pick_each (λ (m : ℕ). k ≤ m → beat_gives row amount (iterate beat_clock k b) ≡ beat_gives row amount b)
      (eqb amount 0) (λ e q. none (eqb-true _ _ e)) (λ e q. moves (omega arith))
    where
      none : amount ≡ 0 → beat_gives row amount (iterate beat_clock k b) ≡ beat_gives row amount b
      none z = rw z (gives_none row (iterate beat_clock k b) ∙ sym (gives_none row b))

      moves : k ≤ b.count - 1 + duty_turns row b.steps * b.n
          → beat_gives row amount (iterate beat_clock k b) ≡ beat_gives row amount b
      moves q =
          ap (beat_gives row amount) (driven k b)
          ∙ drive_still b.n step r.n_from (λ (s : ℕ). pick (eqb (duty_bit (row / 16) (s / 2)) 1) amount 0)
          (duty_turns row b.steps) b.count b.steps r.count_from bit_leaves k q

  -- THE NEXT CHANGE
  pub square_turned : square_still row amount b < forever
      → iterate beat_clock (square_still row amount b + 1) b ≡ beat_turned row b
  unfolding square_still beat_turned
  square_turned =
      pick_each (λ (m : ℕ). m < forever → iterate beat_clock (m + 1) b ≡ beat_turned row b) (eqb amount 0)
      (λ e m. absurd (let no : ⊥ = omega arith in no)) (λ e m. turned)
    where
      t : ℕ
      t = duty_turns row b.steps

      turned : iterate beat_clock (b.count - 1 + t * b.n + 1) b ≡ beat_turned row b
      turned =
          let d : b.count - 1 + t * b.n + 1 ≡ b.count + t * b.n = omega (arith, r.count_from) in
          rw d
          (driven (b.count + t * b.n) b
          ∙ ap (beat_with b.n) (drive_turned b.n step r.n_from t b.count b.steps r.count_from)
          ∙ ap (λ (k : ℕ). beat_with b.n (record { count = b.n; part = k }))
          (steps_on (suc t) b.steps r.steps ∙ ap (λ (k : ℕ). (b.steps + k) % 16) (sym (add-one t))))

  -- in range its still is within a stretch, or for ever
  pub square_still_most : square_still row amount b ≤ forever
  unfolding square_still
  square_still_most =
      pick_each (λ (x : ℕ). x ≤ forever) (eqb amount 0) (λ e. omega arith)
      (λ e.
      omega (
        arith,
        r.count_to,
        mul-le-mul {n₁ = duty_turns row b.steps} {m₁ = b.n} {n₂ = 13} {m₂ = 2048} (turns_most row b.steps) r.n_to,
      ))

-- OF THE CHANNEL: between frame steps only its sequencer moves
module _ (second : Bool) (s : Square) where
  -- what it gives at a beat
  pub square_gives_at : (b : Beat)
      → square_output second (with_sequencer s (with_beat s.sequencer b))
      ≡ beat_gives (duty_row s.duty) (square_amount second s) b
  unfolding square_output square_amount with_beat beat_gives duty_row duty_bit
  square_gives_at b =
      let e : s.duty % 4 * 16 / 16 % 4 ≡ s.duty % 4 = omega arith in
      let p : b.steps / 2 % 8 % 8 ≡ b.steps / 2 % 8 = omega arith in
      rw (e, p)

  pub square_gives : square_output second s ≡ beat_gives (duty_row s.duty) (square_amount second s) (beat_of s.sequencer)
  unfolding square_output beat_gives beat_of steps_of duty_row duty_bit
  square_gives =
      let e : s.duty % 4 * 16 / 16 % 4 ≡ s.duty % 4 = omega arith in
      let p : (2 * s.sequencer.position + pick s.sequencer.half 1 0) / 2 ≡ s.sequencer.position =
      pick_each (λ (k : ℕ). (2 * s.sequencer.position + k) / 2 ≡ s.sequencer.position) s.sequencer.half
      (λ h. omega arith) (λ h. omega arith)
      in rw (e, p)

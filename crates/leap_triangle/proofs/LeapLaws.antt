-- The triangle's part in the leap: the whole numbers are the sequencer's, and still, the closed form and the next change are its clocks.
-- Assumes nothing.
use Prim.Native.Nat.{ℕ, zero, suc, ◌+◌, ◌-◌, ◌%◌, ◌≤◌, ◌<◌}
use mathlib.Core.Path.{◌≡◌, refl, sym, ap, ◌∙◌}
use mathlib.Core.Bool.{Bool, true, false}
use native.Mathlib.Omega.{arith}
use native.Mathlib.Nat.{zero-mul}
use lib.Dec.{ltb, eqb}
use Rattle.arith.specs.Iterate.{iterate}
use Rattle.arith.specs.Pick.{pick, both}
use Rattle.arith.proofs.IterateLaws.{iterate_along, iterate_along_while}
use Rattle.arith.proofs.PickLaws.{pick_both, pick_each}
use Rattle.divider.specs.Divider.{due, tick, Driven, drive, outputs, count_after}
use Rattle.leap_still.specs.Forever.{forever}
use Rattle.divider.proofs.DividerLaws.{drive_at, drive_closed, drive_still}
use Rattle.chip_timer.specs.Timer.{timer_period, timer_clock}
use Rattle.divider.proofs.RangeLaws.{tick_ranged}
use Rattle.chip_triangle.specs.Triangle.{triangle_sequenced, with_sequencer, triangle_at, triangle_output}
use Rattle.leap_triangle.specs.Leap.{triangle_beat_of, triangle_with_beat, position_after, triangle_beat_clock, triangle_gives, triangle_still, triangle_beat_advanced, triangle_beat_turned}
use Rattle.chip_triangle.specs.declared.Sequencer.{Sequencer}
use Rattle.chip_triangle.specs.declared.Triangle.{Triangle}
use Rattle.leap_triangle.specs.declared.Beat.{Beat}
use Rattle.chip_triangle.proofs.RangeLaws.{SequencerRanged}

pub record BeatRanged (b : Beat) : Type 0 where
  pub n_from : 1 ≤ b.n
  pub n_to : b.n ≤ 2048
  pub count_from : 1 ≤ b.count
  pub count_to : b.count ≤ 2048
  pub position : b.position ≤ 31

position_most : (on k p : ℕ) → p ≤ 31 → position_after on k p ≤ 31
unfolding position_after
position_most on k p h = pick_both (λ (x : ℕ). x ≤ 31) (eqb on 0) h (omega arith)

-- a clock keeps the range
pub beat_clocked : (on : ℕ) (b : Beat) → BeatRanged b → BeatRanged (triangle_beat_clock on b)
unfolding triangle_beat_clock
beat_clocked on b r =
    let t = tick_ranged b.n b.count 2048 r.n_from r.n_to r.count_to in
    record {
      n_from = r.n_from;
      n_to = r.n_to;
      count_from = t.0;
      count_to = t.1;
      position =
          pick_both (λ (k : ℕ). k ≤ 31) (due b.count) (position_most on 1 b.position r.position) r.position;
    }

-- a sequencer in range is a beat in range
pub beat_ranged : (q : Sequencer) → SequencerRanged q → BeatRanged (triangle_beat_of q)
unfolding triangle_beat_of
beat_ranged q r =
    record {
      n_from = omega arith;
      n_to = omega arith;
      count_from = r.timer.count_from;
      count_to = r.timer.count_to;
      position = r.position;
    }

n_stays : (on : ℕ) (b : Beat) → (triangle_beat_clock on b).n ≡ b.n
unfolding triangle_beat_clock
n_stays on b = refl

-- THE BEAT IS THE SEQUENCER'S

module _ (on : Bool) (q : Sequencer) where
  position_moves : (t : Bool) (p : ℕ) → p ≤ 31
      → pick (both t on) ((p % 32 + 1) % 32) (p % 32) ≡ pick t (position_after (pick on 1 0) 1 p) p % 32
  unfolding position_after
  position_moves t p h = go t on
    where
      go : (t on : Bool)
          → pick (both t on) ((p % 32 + 1) % 32) (p % 32)
          ≡ pick t (pick (eqb (pick on 1 0) 0) p ((p + 1) % 32)) p % 32
      go true true = omega arith
      go true false = refl
      go false on = refl

  clock_beats : (b : Beat) → BeatRanged b → b.n ≡ timer_period q.timer
      → triangle_sequenced on (triangle_with_beat q b) ≡ triangle_with_beat q (triangle_beat_clock (pick on 1 0) b)
  unfolding triangle_sequenced timer_clock triangle_with_beat triangle_beat_clock
  clock_beats b r e =
      let small : b.count % 65536 ≡ b.count = omega (arith, r.count_to) in
      let counts : tick (timer_period q.timer) b.count ≡ tick b.n b.count % 65536 =
      rw e
      (pick_each (λ (k : ℕ). k ≡ k % 65536) (due b.count) (λ d. omega arith) (λ d. omega (arith, r.count_to)))
      in
      rw (small, counts, position_moves (due b.count) b.position r.position)

  beat_back : SequencerRanged q → triangle_with_beat q (triangle_beat_of q) ≡ q
  unfolding triangle_with_beat triangle_beat_of
  beat_back r =
      let a : q.timer.count % 65536 ≡ q.timer.count = omega (arith, r.timer.count_to) in
      let p : q.position % 32 ≡ q.position = omega (arith, r.position) in
      rw (a, p)

  pub triangle_beats : SequencerRanged q → (g : ℕ)
      → iterate (triangle_sequenced on) g q
      ≡ triangle_with_beat q (iterate (triangle_beat_clock (pick on 1 0)) g (triangle_beat_of q))
  unfolding triangle_beat_of
  triangle_beats r g =
      ap (iterate (triangle_sequenced on) g) (sym (beat_back r))
      ∙ iterate_along_while (triangle_sequenced on) (triangle_beat_clock (pick on 1 0)) (triangle_with_beat q)
      (λ m b. BeatRanged b × (b.n ≡ timer_period q.timer))
      (λ m b p. clock_beats b p.0 p.1)
      (λ m b p. (beat_clocked (pick on 1 0) b p.0, n_stays (pick on 1 0) b ∙ p.1))
      g (triangle_beat_of q) (beat_ranged q r, refl)

-- THE CLOSED FORM

-- the position k outputs on
held : (on : ℕ) → eqb on 0 ≡ true → (k p : ℕ) → iterate (position_after on 1) k p ≡ position_after on k p
unfolding iterate position_after
held on e zero p = rw e
held on e (suc k) p = rw e (held on e k p ∙ rw e)

moved : (on : ℕ) → eqb on 0 ≡ false → (k p : ℕ) → p ≤ 31 → iterate (position_after on 1) k p ≡ position_after on k p
unfolding iterate position_after
moved on e zero p h = rw e (omega arith)
moved on e (suc k) p h =
    let next : position_after on 1 p ≡ (p + 1) % 32 = rw e in
    ap (iterate (position_after on 1) k) next
    ∙ moved on e k ((p + 1) % 32) (omega arith)
    ∙ rw e (omega arith)

positions_on : (on k p : ℕ) → p ≤ 31 → iterate (position_after on 1) k p ≡ position_after on k p
positions_on on k p h = go (eqb on 0) refl
  where
    go : (t : Bool) → eqb on 0 ≡ t → iterate (position_after on 1) k p ≡ position_after on k p
    go true e = held on e k p
    go false e = moved on e k p h

-- the timer as a divider, and the position that it drives
abbrev beat_with : ℕ → Driven ℕ → Beat
beat_with n d = record { n = n; count = d.count; position = d.part }

abbrev own : Beat → Driven ℕ
own b = record { count = b.count; part = b.position }

clock_driven : (on n : ℕ) (d : Driven ℕ)
    → triangle_beat_clock on (beat_with n d) ≡ beat_with n (drive n (position_after on 1) d)
unfolding triangle_beat_clock drive
clock_driven on n d = go (due d.count)
  where
    go : (t : Bool)
        → ◌≡◌ {A = Beat}
        (record { n = n; count = pick t n (d.count - 1); position = pick t (position_after on 1 d.part) d.part })
        (beat_with n
        (pick t (record { count = n; part = position_after on 1 d.part }) (record { count = d.count - 1; part = d.part })))
    go true = refl
    go false = refl

driven : (on g : ℕ) (b : Beat)
    → iterate (triangle_beat_clock on) g b ≡ beat_with b.n (iterate (drive b.n (position_after on 1)) g (own b))
driven on g b =
    iterate_along (triangle_beat_clock on) (drive b.n (position_after on 1)) (beat_with b.n) (clock_driven on b.n) g (own b)

pub triangle_beat_closed : (on g : ℕ) (b : Beat) → 1 ≤ b.n → 1 ≤ b.count → b.position ≤ 31
    → iterate (triangle_beat_clock on) g b ≡ triangle_beat_advanced on g b
unfolding triangle_beat_advanced
triangle_beat_closed on g b hn hc hp =
    driven on g b
    ∙ ap (beat_with b.n) (drive_closed b.n (position_after on 1) hn g b.count b.position hc)
    ∙ ap (λ (k : ℕ). beat_with b.n (record { count = count_after b.n b.count g; part = k }))
    (positions_on on (outputs b.n b.count g) b.position hp)

-- what it gives is at most 15
pub gives_most : (b : Beat) → triangle_gives b ≤ 15
unfolding triangle_gives triangle_at
gives_most b =
    pick_each (λ (k : ℕ). k ≤ 15) (ltb (b.position % 32) 16) (λ e. omega arith) (λ e. omega arith)

module _ (on : ℕ) (b : Beat) (r : BeatRanged b) where
  -- held by its counters it gives the same after any number of clocks
  pub triangle_held : eqb on 0 ≡ true → (g : ℕ) → triangle_gives (iterate (triangle_beat_clock on) g b) ≡ triangle_gives b
  unfolding triangle_beat_advanced triangle_gives position_after
  triangle_held e g =
      ap triangle_gives (triangle_beat_closed on g b r.n_from r.count_from r.position) ∙ rw e

  -- THE LAW OF STILL
  pub triangle_still_lem : (k : ℕ) → k ≤ triangle_still on b
      → triangle_gives (iterate (triangle_beat_clock on) k b) ≡ triangle_gives b
  unfolding triangle_still triangle_gives iterate
  triangle_still_lem k =
      pick_each (λ (m : ℕ). k ≤ m → triangle_gives (iterate (triangle_beat_clock on) k b) ≡ triangle_gives b) (eqb on 0)
      (λ e q. triangle_held e k) (λ e q. moves (omega arith))
    where
      none : (j : ℕ) → j ≤ 0 → triangle_at (iterate (position_after on 1) j b.position) ≡ triangle_at b.position
      none j q = let z : j ≡ 0 = omega arith in rw z

      moves : k ≤ b.count - 1 → triangle_gives (iterate (triangle_beat_clock on) k b) ≡ triangle_gives b
      moves q =
          ap triangle_gives (driven on k b)
          ∙ drive_still b.n (position_after on 1) r.n_from triangle_at 0 b.count b.position r.count_from none k
          (omega (arith, zero-mul b.n))

  -- THE NEXT CHANGE
  pub triangle_turned : triangle_still on b < forever
      → iterate (triangle_beat_clock on) (triangle_still on b + 1) b ≡ triangle_beat_turned b
  unfolding triangle_still triangle_beat_turned position_after
  triangle_turned =
      pick_each (λ (m : ℕ). m < forever → iterate (triangle_beat_clock on) (m + 1) b ≡ triangle_beat_turned b) (eqb on 0)
      (λ e m. absurd (let no : ⊥ = omega arith in no)) (λ e m. turned e)
    where
      turned : eqb on 0 ≡ false → iterate (triangle_beat_clock on) (b.count - 1 + 1) b ≡ triangle_beat_turned b
      turned e =
          let d : b.count - 1 + 1 ≡ b.count = omega (arith, r.count_from) in
          rw d
          (driven on b.count b
          ∙ ap (beat_with b.n) (drive_at b.n (position_after on 1) b.count b.position r.count_from)
          ∙ rw e)

-- OF THE CHANNEL: between frame steps only its sequencer moves
module _ (t : Triangle) where
  -- what it gives at a beat
  pub triangle_gives_at : (b : Beat)
      → triangle_output (with_sequencer t (triangle_with_beat t.sequencer b)) ≡ triangle_gives b
  unfolding triangle_output triangle_with_beat triangle_gives triangle_at
  triangle_gives_at b = let e : b.position % 32 % 32 ≡ b.position % 32 = omega arith in rw e

  pub triangle_gives_lem : triangle_output t ≡ triangle_gives (triangle_beat_of t.sequencer)
  unfolding triangle_output triangle_gives triangle_beat_of
  triangle_gives_lem = refl

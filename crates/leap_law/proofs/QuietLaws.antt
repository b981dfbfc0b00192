-- THE LAW OF THE LEAP, proved: in the quiet state any clocks that bring no frame step leave the level, and every field has its closed form. Each channel's
-- own law gives its fields; that no clock brings a step is the same as that there are no more of them than `before_step`. Assumes nothing.
use Prim.Native.Nat.{ℕ, ◌+◌, ◌*◌, ◌/◌, ◌%◌, ◌≤◌}
use mathlib.Core.Path.{◌≡◌, refl, sym, ap, ◌∙◌}
use mathlib.Core.Bool.{Bool, true, false, true≢false}
use mathlib.Core.List.{List}
use native.Mathlib.Nat.{mod-eq_of_lt, mod-lt}
use lib.Arith.{mod-mul, digits_div}
use lib.Dec.{ltb}
use native.Mathlib.Omega.{arith}
use borrow.Author.Tests.{eq-eqb, ltb-true, ltb-false}
use Rattle.arith.specs.Iterate.{iterate}
use Rattle.divider.specs.Divider.{outputs, count_after}
use Rattle.divider.proofs.DividerLaws.{count_after_top}
use Rattle.chip_timer.specs.Timer.{timer_period}
use Rattle.chip_square.specs.Sequencer.{sequencer_clock}
use Rattle.chip_square.specs.Square as square
use Rattle.leap_square.specs.Leap.{steps_of, beat_of, with_beat, beat_clock, duty_row, beat_gives, beat_advanced}
use Rattle.chip_square.specs.declared.Square.{Square}
use Rattle.chip_square.specs.declared.Sequencer as square1
use Rattle.chip_square.proofs.RangeLaws.{SquareRanged, SequencerRanged}
use Rattle.leap_square.proofs.LeapLaws as squares
use Rattle.chip_triangle.specs.Triangle as triangle
use Rattle.leap_triangle.specs.Leap.{triangle_gate, triangle_beat_of, triangle_with_beat, triangle_beat_clock, position_after, triangle_beat_advanced}
use Rattle.chip_triangle.specs.declared.Triangle.{Triangle}
use Rattle.chip_triangle.specs.declared.Sequencer as triangle1
use Rattle.chip_triangle.proofs.RangeLaws.{TriangleRanged}
use Rattle.chip_triangle.proofs.RangeLaws as triangles1
use Rattle.leap_triangle.proofs.LeapLaws as triangles
use Rattle.chip_noise.specs.Shifter.{shifter_clock}
use Rattle.chip_noise.specs.Noise as noise
use Rattle.chip_noise.specs.declared.Noise.{Noise}
use Rattle.chip_noise.specs.declared.Shifter.{Shifter}
use Rattle.leap_noise.proofs.LeapLaws as noises
use Rattle.leap_dmc.proofs.LeapLaws.{DmcIdle, idle_closed, idle_still}
use Rattle.chip_frame.specs.Frame.{frame_due}
use Rattle.leap_frame.proofs.LeapLaws.{passed_due, before_due}
use Rattle.chip.specs.Clock.{step_due, chip_clock}
use Rattle.chip.specs.Level.{state_level}
use Rattle.chip.specs.Range.{in_range}
use Rattle.chip_tables.specs.Table.{noise_period, dmc_period, frame_times}
use Rattle.chip.specs.declared.State.{State}
use Rattle.chip.proofs.RangeLaws.{StateRanged, state_in_lem, noise_period_range, dmc_period_range}
use Rattle.leap_law.specs.Between.{state_with}
use Rattle.leap_law.specs.Frame.{before_step, passed_frame}
use Rattle.leap_law.specs.Quiet.{Quiet, square_after, triangle_after, quiet_after, NoStep, LeapLaw}
use Rattle.leap_law.proofs.BetweenLaws.{between}
use Rattle.leap_law.proofs.FrameLaws.{times_rise}

-- A SQUARE WITH NO LENGTH

-- what the code makes of a square, count and steps by their remainders, is the law's text
pub square_plain : (q : square1.Sequencer) → SequencerRanged q → (g : ℕ) → with_beat q (beat_advanced g (beat_of q)) ≡ square_after g q
unfolding with_beat beat_advanced beat_of square_after
square_plain q r g =
    let n : ℕ = timer_period q.timer in
    let c : ℕ = count_after n q.timer.count g in
    let x : ℕ = steps_of q + outputs n q.timer.count g in
    let top : c ≤ 2048 = count_after_top n q.timer.count g 2048 (omega arith) r.timer.count_to in
    let e : c % 65536 ≡ c = mod-eq_of_lt (omega arith) in
    let both : x % 16 ≡ x / 2 % 8 * 2 + x % 2 = mod-mul x {m = 8} {c = 2} (omega arith) (omega arith) in
    let h : x % 16 % 2 ≡ x % 2 = omega (arith, both) in
    let half : x % 16 / 2 ≡ x / 2 % 8 =
    ap (λ (y : ℕ). y / 2) both ∙ digits_div (x / 2 % 8) {m = 2} {r = x % 2} (mod-lt x {m = 2} (omega arith))
    in
    let p : x % 16 / 2 % 8 ≡ x / 2 % 8 = ap (λ (y : ℕ). y % 8) half ∙ mod-eq_of_lt (mod-lt (x / 2) {m = 8} (omega arith)) in
    rw (e, h, p) refl

-- a square in closed form, whatever its length
square_goes : (q : Square) → SquareRanged q → (g : ℕ)
    → iterate sequencer_clock g q.sequencer ≡ square_after g q.sequencer
square_goes q r g =
    let b = squares.beat_ranged q.sequencer r.sequencer in
    squares.sequencer_beats q.sequencer r.sequencer g
    ∙ ap (with_beat q.sequencer) (squares.beat_closed g (beat_of q.sequencer) b.n_from b.count_from b.steps)
    ∙ square_plain q.sequencer r.sequencer g

-- with no length it gives nothing, wherever its sequencer is
no_amount : (second : Bool) (q : Square) → q.length.count ≡ 0 → square.square_amount second q ≡ 0
unfolding square.square_amount
no_amount second q z = rw (eq-eqb q.length.count 0 z)

square_silent : (second : Bool) (q : Square) → SquareRanged q → q.length.count ≡ 0 → (g : ℕ)
    → square.square_output second (square.with_sequencer q (iterate sequencer_clock g q.sequencer)) ≡ square.square_output second q
square_silent second q r z g =
    let row = duty_row q.duty in
    let none : (b : Rattle.leap_square.specs.declared.Beat.Beat) → beat_gives row (square.square_amount second q) b ≡ 0 =
    λ b. rw (no_amount second q z) (squares.gives_none row b)
    in
    ap (λ (x : square1.Sequencer). square.square_output second (square.with_sequencer q x)) (squares.sequencer_beats q.sequencer r.sequencer g)
    ∙ squares.square_gives_at second q (iterate beat_clock g (beat_of q.sequencer))
    ∙ none (iterate beat_clock g (beat_of q.sequencer))
    ∙ sym (none (beat_of q.sequencer))
    ∙ sym (squares.square_gives second q)

-- A TRIANGLE WITH NO LENGTH

-- a triangle with no length is gated
pub gate_shut : (t : Triangle) → t.length.count ≡ 0 → triangle_gate t ≡ 0
unfolding triangle_gate triangle.runs
gate_shut t z = rw z

triangle_goes : (t : Triangle) → TriangleRanged t → (g : ℕ)
    → iterate (triangle.triangle_sequenced (triangle.runs t)) g t.sequencer
    ≡ triangle_with_beat t.sequencer (iterate (triangle_beat_clock (triangle_gate t)) g (triangle_beat_of t.sequencer))
unfolding triangle_gate
triangle_goes t r g = triangles.triangle_beats (triangle.runs t) t.sequencer r.sequencer g

-- what the code makes of a triangle that is held is the law's text
pub triangle_plain : (q : triangle1.Sequencer) → triangles1.SequencerRanged q → (g : ℕ)
    → triangle_with_beat q (triangle_beat_advanced 0 g (triangle_beat_of q)) ≡ triangle_after g q
unfolding triangle_with_beat triangle_beat_advanced triangle_beat_of position_after triangle_after
triangle_plain q r g =
    let n : ℕ = timer_period q.timer in
    let c : ℕ = count_after n q.timer.count g in
    let top : c ≤ 2048 = count_after_top n q.timer.count g 2048 (omega arith) r.timer.count_to in
    let e : c % 65536 ≡ c = mod-eq_of_lt (omega arith) in
    let p : q.position % 32 ≡ q.position = mod-eq_of_lt (omega (arith, r.position)) in
    rw (e, p) refl

triangle_rests : (t : Triangle) → TriangleRanged t → t.length.count ≡ 0 → (g : ℕ)
    → iterate (triangle.triangle_sequenced (triangle.runs t)) g t.sequencer
    ≡ triangle_after g t.sequencer
triangle_rests t r z g =
    let b = triangles.beat_ranged t.sequencer r.sequencer in
    triangle_goes t r g
    ∙ ap (triangle_with_beat t.sequencer)
    (rw (gate_shut t z) (triangles.triangle_beat_closed 0 g (triangle_beat_of t.sequencer) b.n_from b.count_from b.position))
    ∙ triangle_plain t.sequencer r.sequencer g

-- and gives what it gave
triangle_holds : (t : Triangle) → TriangleRanged t → t.length.count ≡ 0 → (g : ℕ)
    → triangle.triangle_output (triangle.with_sequencer t (iterate (triangle.triangle_sequenced (triangle.runs t)) g t.sequencer))
    ≡ triangle.triangle_output t
triangle_holds t r z g =
    let b = triangle_beat_of t.sequencer in
    ap (λ (x : triangle1.Sequencer). triangle.triangle_output (triangle.with_sequencer t x)) (triangle_goes t r g)
    ∙ triangles.triangle_gives_at t (iterate (triangle_beat_clock (triangle_gate t)) g b)
    ∙ triangles.triangle_held (triangle_gate t) b (triangles.beat_ranged t.sequencer r.sequencer) (eq-eqb (triangle_gate t) 0 (gate_shut t z)) g
    ∙ sym (triangles.triangle_gives_lem t)

-- A NOISE WITH NO LENGTH, AND AN IDLE DMC

-- a noise with no length gives nothing, whatever its register
noise_silent : (n : ℕ) (c : Noise) → c.length.count ≡ 0 → (h : Shifter)
    → noise.noise_output (noise.with_shifter c h) ≡ noise.noise_output c
unfolding noise.noise_amount
noise_silent n c z h =
    let none : (x : Shifter) → noise.noise_output (noise.with_shifter c x) ≡ 0 =
    λ x. noises.noise_gives n c x ∙ rw (eq-eqb c.length.count 0 z) (noises.gives_none x)
    in none h ∙ sym (none c.shifter)

idle : (s : State) → Quiet s → DmcIdle s.dmc
idle s q = record { silence = q.silence; full = q.buffer; remaining = q.remaining }

-- CLOCKS THAT BRING NO STEP
module _ (memory : List ℕ) (s : State) (ranged : in_range s ≡ true) where
  abbrev r : StateRanged s
  r = state_in_lem s ranged

  -- whether clock k of a stretch brings a step
  due_at : (k : ℕ) → k ≤ before_step s → step_due (iterate (chip_clock memory) k s) ≡ frame_due (frame_times s.pal) (passed_frame k s)
  unfolding state_with
  due_at k few = ap step_due (between memory s r.frame k few)

  -- clocks that bring no step are at most those before the next one,
  pub no_step_few : (g : ℕ) → NoStep memory s g → g ≤ before_step s
  no_step_few g none = go (ltb (before_step s) g) refl
    where
      go : (t : Bool) → ltb (before_step s) g ≡ t → g ≤ before_step s
      go true e =
          let b : ℕ = before_step s in
          absurd (true≢false (sym (before_due (frame_times s.pal) (times_rise s.pal) s.frame r.frame) ∙ sym (due_at b (omega arith)) ∙ none b (ltb-true b g e)))
      go false e = ltb-false (before_step s) g e

  -- and the other way round
  pub few_no_step : (g : ℕ) → g ≤ before_step s → NoStep memory s g
  few_no_step g few k h = due_at k (omega arith) ∙ passed_due (frame_times s.pal) (times_rise s.pal) s.frame r.frame k (omega arith)

module _ (memory : List ℕ) (s : State) (ranged : in_range s ≡ true) (q : Quiet s) (g : ℕ) (few : g ≤ before_step s) where
  abbrev dmc_n : ℕ
  dmc_n = dmc_period s.pal s.dmc.registers.index

  -- EVERY FIELD
  quiet_closed : iterate (chip_clock memory) g s ≡ quiet_after g s
  unfolding quiet_after
  quiet_closed =
      let r = state_in_lem s ranged in
      let a = square_goes s.square1 r.square1 g in
      let b = square_goes s.square2 r.square2 g in
      let t = triangle_rests s.triangle r.triangle q.triangle g in
      let n = noises.shifter_closed (noise_period s.pal s.noise.index) s.noise.mode (noise_period_range s.pal s.noise.index).0 g s.noise.shifter
      r.noise.shifter.timer_from
      in
      let d = idle_closed memory dmc_n (dmc_period_range s.pal s.dmc.registers.index).0 s.dmc r.dmc (idle s q) g in
      between memory s r.frame g few ∙ rw (a, b, t, n, d)

  -- THE LEVEL
  quiet_level : state_level (iterate (chip_clock memory) g s) ≡ state_level s
  unfolding state_level state_with
  quiet_level =
      let r = state_in_lem s ranged in
      let a = square_silent false s.square1 r.square1 q.square1 g in
      let b = square_silent true s.square2 r.square2 q.square2 g in
      let t = triangle_holds s.triangle r.triangle q.triangle g in
      let n = noise_silent (noise_period s.pal s.noise.index) s.noise q.noise
      (iterate (shifter_clock (noise_period s.pal s.noise.index) s.noise.mode) g s.noise.shifter)
      in
      let d = idle_still memory dmc_n (dmc_period_range s.pal s.dmc.registers.index).0 s.dmc r.dmc (idle s q) g in
      ap state_level (between memory s r.frame g few) ∙ rw (a, b, t, n, d)

-- THE LAW
pub leap_law : LeapLaw
leap_law memory s ranged q g none =
    let few = no_step_few memory s ranged g none in
    record { level = quiet_level memory s ranged q g few; state = quiet_closed memory s ranged q g few }

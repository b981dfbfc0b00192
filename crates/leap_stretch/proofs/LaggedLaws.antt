-- A stretch whose channels lag: what is kept is the machine. Assumes nothing.
use Rattle.std.proofs.Common.{◌≡◌, ℕ, ◌+◌, ◌<◌, ◌≤◌, min, Bool, true, false, eqb, List, sym, refl, ap, ◌∙◌, arith}
use borrow.Author.Tests.{eqb-false}
use Rattle.arith.specs.Iterate.{iterate}
use Rattle.leap_still.specs.Forever.{forever}
use Rattle.chip_mixer.specs.Mixer.{mixed}
use Rattle.chip_mixer.specs.Parts.{triangle_weight, others_weight}
use Rattle.leap_calm.specs.Level.{summed_by}
use Rattle.leap_calm.proofs.LevelLaws.{summed_is}
use Rattle.chip_triangle.specs.Triangle.{triangle_at}
use Rattle.leap_law.specs.Frame.{before_step}
use Rattle.leap_law.proofs.FrameLaws.{before_step_most}
use Rattle.chip.specs.Clock.{chip_clock}
use Rattle.chip.specs.Level.{state_level}
use Rattle.chip.specs.Range.{Bytes}
use Rattle.chip_tables.specs.Table.{noise_period, dmc_period}
use Rattle.chip.specs.declared.State.{State}
use Rattle.chip.proofs.RangeLaws.{StateRanged, noise_period_range, dmc_period_range}
use Rattle.leap_law.specs.Between.{state_with}
use Rattle.leap_law.proofs.BetweenLaws.{between}
use Rattle.leap_square.specs.Lag.{square_lag_out}
use Rattle.leap_stretch.specs.Lagged.{sum_of, lags_at, lags_of, renewed_with, renewed, stretch_state}
use Rattle.leap_square.specs.declared.lag.SquareLag.{SquareLag}
use Rattle.leap_stretch.specs.declared.Lags.{Lags}
use Rattle.leap_stretch.proofs.SquareLaws.{SquareKept, Halves, square_start, square_halves, square_kept_lem, square_out, square_at}
use Rattle.leap_stretch.proofs.TriangleLaws.{TriangleKept, triangle_start, triangle_kept, triangle_out, triangle_at_lem}
use Rattle.leap_stretch.proofs.NoiseLaws.{NoiseKept, noise_start, noise_renewed_lem, noise_out, noise_at}
use Rattle.leap_stretch.proofs.DmcLaws.{DmcKept, dmc_start, dmc_renewed_lem, dmc_out, dmc_at_lem}

-- the sooner of two
pub sooner_most : (x y : ℕ) → (min x y ≤ x) × (min x y ≤ y)
sooner_most x y = (omega arith, omega arith)

pub sooner_past : (k x y : ℕ) → k < x → k < y → k < min x y
sooner_past k x y h q = omega arith

-- THE INVARIANT: at clock `l.now` of a stretch that began in s
pub record Lagging (memory : List ℕ) (s : State) (l : Lags) : Type 0 where
  pub square1 : SquareKept false s.square1 l.now l.square1
  pub square2 : SquareKept true s.square2 l.now l.square2
  pub triangle : TriangleKept s.triangle l.now l.triangle
  pub noise : NoiseKept (noise_period s.pal s.noise.index) s.noise l.now l.noise
  pub dmc : DmcKept memory (dmc_period s.pal s.dmc.registers.index) s.dmc l.now l.dmc
  pub soon : l.soon ≡ min (min l.square1.next l.square2.next) l.triangle.next
  pub next : l.next ≡ min l.soon (min l.noise.next l.dmc.next)
  pub level : l.level ≡ summed_by (sum_of l.square1.kept l.square2.kept) (triangle_weight (triangle_at l.triangle.position)) (others_weight l.noise.out l.dmc.out)

-- one shift of the sum gives the sum, since there is no carry
sum_is : (a b : SquareLag) → Halves a → Halves b → sum_of a.kept b.kept ≡ square_lag_out a + square_lag_out b
unfolding sum_of square_lag_out
sum_is a b h q = omega (arith, h.out, h.span, q.out, q.span)

-- the level by the sum is the level
level_is : (a b : SquareLag) → Halves a → Halves b → (t n d : ℕ)
    → mixed (square_lag_out a) (square_lag_out b) t n d ≡ summed_by (sum_of a.kept b.kept) (triangle_weight t) (others_weight n d)
level_is a b h q t n d =
    summed_is (square_lag_out a) (square_lag_out b) t n d h.out q.out
    ∙ ap (λ (s : ℕ). summed_by s (triangle_weight t) (others_weight n d)) (sym (sum_is a b h q))

-- the start of a stretch
pub lagging_start : (memory : List ℕ) (s : State) → Lagging memory s (lags_of s)
unfolding lags_of lags_at
lagging_start memory s =
    record {
      square1 = square_start false s.square1;
      square2 = square_start true s.square2;
      triangle = triangle_start s.triangle;
      noise = noise_start (noise_period s.pal s.noise.index) s.noise;
      dmc = dmc_start memory (dmc_period s.pal s.dmc.registers.index) s.dmc;
      soon = refl;
      next = refl;
      level = refl;
    }

module _ (memory : List ℕ) (s : State) (l : Lags) (g : Lagging memory s l) where
  -- the next event is past now, and no channel's own is before it
  pub soon_past : l.now < l.soon
  soon_past =
      rw g.soon
      (sooner_past l.now (min l.square1.next l.square2.next) l.triangle.next
      (sooner_past l.now l.square1.next l.square2.next g.square1.follows.ahead g.square2.follows.ahead)
      g.triangle.follows.ahead)

  pub next_past : l.now < l.next
  next_past =
      rw g.next
      (sooner_past l.now l.soon (min l.noise.next l.dmc.next) soon_past
      (sooner_past l.now l.noise.next l.dmc.next g.noise.follows.ahead g.dmc.follows.ahead))

  -- where neither noise nor DMC is due, the next event is one of squares and triangle
  pub next_soon : l.soon < l.noise.next → l.soon < l.dmc.next → l.next ≡ l.soon
  next_soon n d = omega (arith, g.next, n, d)

  -- what each channel's next change is at least
  pub record Soonest (a b t n d : ℕ) : Type 0 where
    pub voices : l.next ≤ l.soon
    pub soon1 : l.soon ≤ a
    pub soon2 : l.soon ≤ b
    pub soon3 : l.soon ≤ t
    pub square1 : l.next ≤ a
    pub square2 : l.next ≤ b
    pub triangle : l.next ≤ t
    pub noise : l.next ≤ n
    pub dmc : l.next ≤ d

  pub next_most : Soonest l.square1.next l.square2.next l.triangle.next l.noise.next l.dmc.next
  next_most =
      let ab = sooner_most l.square1.next l.square2.next in
      let abt = sooner_most (min l.square1.next l.square2.next) l.triangle.next in
      let nd = sooner_most l.noise.next l.dmc.next in
      let all = sooner_most l.soon (min l.noise.next l.dmc.next) in
      let s = g.soon in
      let e = g.next in
      record {
        voices = omega (arith, all.0);
        soon1 = omega (arith, ab.0, abt.0);
        soon2 = omega (arith, ab.1, abt.0);
        soon3 = omega (arith, abt.1);
        square1 = omega (arith, ab.0, abt.0, all.0);
        square2 = omega (arith, ab.1, abt.0, all.0);
        triangle = omega (arith, abt.1, all.0);
        noise = omega (arith, nd.0, all.1);
        dmc = omega (arith, nd.1, all.1);
      }

module _ (memory : List ℕ) (bytes : Bytes memory) (s : State) (r : StateRanged s) (l : Lags) (g : Lagging memory s l) where
  abbrev noise_n : ℕ
  noise_n = noise_period s.pal s.noise.index

  abbrev dmc_n : ℕ
  dmc_n = dmc_period s.pal s.dmc.registers.index

  -- ONE EVENT
  pub lagging_renewed : l.next ≤ forever → Lagging memory s (renewed memory l l.next)
  unfolding renewed renewed_with lags_at
  lagging_renewed f =
      let p = next_past memory s l g in
      let m = next_most memory s l g in
      let due : Bool = eqb l.soon l.next in
      let late : (x : ℕ) → l.soon ≤ x → due ≡ false → l.next < x =
      λ x h z. let ne : l.soon ≡ l.next → ⊥ = eqb-false l.soon l.next z in omega (arith, m.voices)
      in
      let pn = noise_period_range s.pal s.noise.index in
      let pd = dmc_period_range s.pal s.dmc.registers.index in
      record {
        square1 = square_kept_lem false s.square1 r.square1 l.now l.square1 g.square1 l.next (omega arith) m.square1 f due (late _ m.soon1);
        square2 = square_kept_lem true s.square2 r.square2 l.now l.square2 g.square2 l.next (omega arith) m.square2 f due (late _ m.soon2);
        triangle = triangle_kept s.triangle r.triangle l.now l.triangle g.triangle l.next (omega arith) m.triangle f due (late _ m.soon3);
        noise = noise_renewed_lem noise_n pn.0 pn.1 s.noise r.noise l.now l.noise g.noise l.next (omega arith) m.noise f;
        dmc = dmc_renewed_lem memory bytes dmc_n pd.0 pd.1 s.dmc r.dmc l.now l.dmc g.dmc l.next (omega arith) m.dmc f;
        soon = refl;
        next = refl;
        level = refl;
      }

  module _ (k : ℕ) (from : l.now ≤ k) (to : k < l.next) (few : k ≤ before_step s) where
    -- the kept level is the level, up to the next event
    pub lagging_level : state_level (iterate (chip_clock memory) k s) ≡ l.level
    unfolding state_level state_with
    lagging_level =
        let m = next_most memory s l g in
        let pn = noise_period_range s.pal s.noise.index in
        let pd = dmc_period_range s.pal s.dmc.registers.index in
        let a = square_out false s.square1 r.square1 l.now l.square1 g.square1 k from (omega (arith, m.square1)) in
        let b = square_out true s.square2 r.square2 l.now l.square2 g.square2 k from (omega (arith, m.square2)) in
        let t = triangle_out s.triangle r.triangle l.now l.triangle g.triangle k from (omega (arith, m.triangle)) in
        let n = noise_out noise_n pn.0 pn.1 s.noise r.noise l.now l.noise g.noise k from (omega (arith, m.noise)) in
        let d = dmc_out memory bytes dmc_n pd.0 pd.1 s.dmc r.dmc l.now l.dmc g.dmc k from (omega (arith, m.dmc)) in
        ap state_level (between memory s r.frame k few) ∙ rw (a, b, t, n, d)
        (level_is l.square1 l.square2 (square_halves false s.square1 r.square1 l.now l.square1 g.square1)
        (square_halves true s.square2 r.square2 l.now l.square2 g.square2)
        (triangle_at l.triangle.position) l.noise.out l.dmc.out
        ∙ sym g.level)

    -- the state brought to clock k is the machine's
    pub lagging_state : stretch_state s l k ≡ iterate (chip_clock memory) k s
    unfolding stretch_state
    lagging_state =
        let m = next_most memory s l g in
        let pn = noise_period_range s.pal s.noise.index in
        let pd = dmc_period_range s.pal s.dmc.registers.index in
        let a = square_at s.square1 r.square1 k in
        let b = square_at s.square2 r.square2 k in
        let t = triangle_at_lem s.triangle r.triangle k in
        let n = noise_at noise_n pn.0 pn.1 s.noise r.noise l.now l.noise g.noise k from in
        let d = dmc_at_lem memory bytes dmc_n pd.0 pd.1 s.dmc r.dmc l.now l.dmc g.dmc k from (omega (arith, m.dmc)) in
        rw (a, b, t, n, d) (sym (between memory s r.frame k few))

-- at the event the kept level is the machine's
pub event_level : (memory : List ℕ) (bytes : Bytes memory) (s : State) (r : StateRanged s) (l : Lags) (g : Lagging memory s l)
    → l.next ≤ before_step s → state_level (iterate (chip_clock memory) l.next s) ≡ (renewed memory l l.next).level
unfolding renewed renewed_with lags_at
event_level memory bytes s r l g few =
    let f : l.next ≤ forever = omega (arith, before_step_most s) in
    let e = lagging_renewed memory bytes s r l g f in
    lagging_level memory bytes s r (renewed memory l l.next) e l.next (omega arith) (next_past memory s (renewed memory l l.next) e) few

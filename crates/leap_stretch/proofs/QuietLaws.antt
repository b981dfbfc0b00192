-- In the quiet state a stretch is one leap: no event comes before its end. Assumes nothing.
use Rattle.std.proofs.Common.{◌≡◌, ℕ, ◌+◌, ◌<◌, ◌≤◌, Bool, true, false, refl, arith, eq-eqb}
use native.Mathlib.Nat.{sub-zero}
use Rattle.leap_still.specs.Forever.{forever}
use Rattle.chip_square.specs.Square.{square_amount}
use Rattle.leap_square.specs.Leap.{square_still}
use Rattle.leap_square.specs.Lag.{square_lag}
use Rattle.chip_square.specs.declared.Square.{Square}
use Rattle.leap_square.specs.declared.Beat as square1
use Rattle.chip_triangle.specs.Triangle.{runs}
use Rattle.leap_triangle.specs.Leap.{triangle_gate, triangle_still}
use Rattle.leap_triangle.specs.Lag.{triangle_lag}
use Rattle.chip_triangle.specs.declared.Triangle.{Triangle}
use Rattle.leap_triangle.specs.declared.Beat as triangle1
use Rattle.chip_noise.specs.Noise.{noise_amount}
use Rattle.leap_noise.specs.Leap.{noise_still}
use Rattle.leap_noise.specs.Lag.{noise_lag, noise_shifter_at}
use Rattle.chip_noise.specs.declared.Noise.{Noise}
use Rattle.chip_noise.specs.declared.Shifter.{Shifter}
use Rattle.leap_dmc.specs.Lag.{dmc_lag, dmc_at}
use Rattle.leap_dmc.proofs.LeapLaws.{DmcIdle, idle_forever}
use Rattle.leap_law.specs.Frame.{before_step}
use Rattle.leap_law.proofs.FrameLaws.{before_step_most}
use Rattle.chip_tables.specs.Table.{dmc_period}
use Rattle.chip.specs.declared.State.{State}
use Rattle.chip.proofs.RangeLaws.{StateRanged}
use Rattle.leap_law.specs.Quiet.{Quiet, quiet_after}
use Rattle.leap_law.proofs.QuietLaws.{gate_shut, square_plain, triangle_plain}
use Rattle.leap_stretch.specs.Lagged.{lags_at, lags_of, stretch_state}
use Rattle.leap_stretch.proofs.LaggedLaws.{sooner_past}

square_still_lem : (second : Bool) (q : Square) → q.length.count ≡ 0 → (row : ℕ) (b : square1.Beat) → square_still row (square_amount second q) b ≡ forever
unfolding square_still square_amount
square_still_lem second q z row b = rw (eq-eqb q.length.count 0 z)

triangle_still_lem : (t : Triangle) → t.length.count ≡ 0 → (b : triangle1.Beat) → triangle_still (triangle_gate t) b ≡ forever
unfolding triangle_still triangle_gate runs
triangle_still_lem t z b = rw z

noise_still_lem : (c : Noise) → c.length.count ≡ 0 → (n : ℕ) (h : Shifter) → noise_still (noise_amount c) n h ≡ forever
unfolding noise_still noise_amount
noise_still_lem c z n h = rw (eq-eqb c.length.count 0 z)

-- THE RUN PASSES A QUIET STRETCH IN ONE LEAP: its next event is past every clock before the next frame step
pub quiet_leaps : (s : State) → Quiet s → before_step s < (lags_of s).next
unfolding lags_of lags_at square_lag triangle_lag noise_lag dmc_lag
quiet_leaps s q =
    let m = before_step_most s in
    let i : DmcIdle s.dmc = record { silence = q.silence; full = q.buffer; remaining = q.remaining } in
    let far : (x : ℕ) → x ≡ forever → before_step s < 0 + x + 1 = λ x e. omega arith in
    let a = far _ (square_still_lem false s.square1 q.square1 _ _) in
    let b = far _ (square_still_lem true s.square2 q.square2 _ _) in
    let t = far _ (triangle_still_lem s.triangle q.triangle _) in
    let n = far _ (noise_still_lem s.noise q.noise _ _) in
    let d = far _ (idle_forever (dmc_period s.pal s.dmc.registers.index) s.dmc i) in
    sooner_past _ _ _ (sooner_past _ _ _ (sooner_past _ _ _ a b) t) (sooner_past _ _ _ n d)

-- and the state that it makes of k clocks of it is the law's
pub quiet_passed : (s : State) → StateRanged s → Quiet s → (k : ℕ) → k ≤ before_step s → stretch_state s (lags_of s) k ≡ quiet_after k s
unfolding stretch_state lags_of lags_at square_lag triangle_lag noise_lag dmc_lag noise_shifter_at dmc_at quiet_after
quiet_passed s r q k few =
    rw (sub-zero k, gate_shut s.triangle q.triangle)
    (rw (square_plain s.square1.sequencer r.square1.sequencer k, square_plain s.square2.sequencer r.square2.sequencer k, triangle_plain s.triangle.sequencer r.triangle.sequencer k) refl)

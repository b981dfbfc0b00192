-- Between crates: what is kept of a stretch; proved to be the chip at each clock (proofs/LaggedLaws).
-- A stretch between two frame steps, each channel brought up only when what it gives may change. Clocks count from the stretch's start.
use Rattle.std.specs.Prelude.{ℕ, ◌+◌, ◌/◌, ◌%◌, min, true, false, List, ◌==◌}
use Rattle.arith.specs.Pick.{pick}
use Rattle.chip_square.specs.Square.{square_amount}
use Rattle.leap_square.specs.Leap.{beat_of, with_beat, duty_row, beat_advanced}
use Rattle.leap_square.specs.Lag.{square_lag, square_renewed}
use Rattle.leap_triangle.specs.Leap.{triangle_gate, triangle_beat_of, triangle_with_beat, triangle_beat_advanced}
use Rattle.leap_triangle.specs.Lag.{triangle_lag, triangle_renewed}
use Rattle.chip_triangle.specs.Triangle.{triangle_at}
use Rattle.chip_noise.specs.Noise.{noise_amount}
use Rattle.leap_noise.specs.Lag.{noise_lag, noise_renewed, noise_shifter_at}
use Rattle.leap_dmc.specs.Lag.{dmc_lag, dmc_renewed, dmc_at}
use Rattle.leap_law.specs.Frame.{passed_frame}
use Rattle.chip_mixer.specs.Parts.{triangle_weight, others_weight}
use Rattle.leap_calm.specs.Level.{summed_by}
use Rattle.chip_tables.specs.Table.{noise_period, dmc_period}
use Rattle.leap_law.specs.Between.{state_with}
use Rattle.leap_square.specs.declared.lag.SquareLag.{SquareLag}
use Rattle.leap_triangle.specs.declared.lag.TriangleLag.{TriangleLag}
use Rattle.leap_noise.specs.declared.lag.NoiseLag.{NoiseLag}
use Rattle.leap_dmc.specs.declared.lag.DmcLag.{DmcLag}
use Rattle.chip.specs.declared.State.{State}
use Rattle.leap_stretch.specs.declared.Lags.{Lags}

-- the sum of what two squares give, from the numbers kept of them: their sum in 64 bits, less its lower half
unfoldable pub sum_of : ℕ → ℕ → ℕ
sum_of a b = (a + b) % 18446744073709551616 / 4294967296

-- the five channels as they are kept at clock `now`: the next event is the soonest change, `soon` that of squares and triangle alone; the level is
-- made from what they give
unfoldable pub lags_at : SquareLag → SquareLag → TriangleLag → NoiseLag → DmcLag → ℕ → Lags
lags_at a b t n d now =
    record {
      square1 = a;
      square2 = b;
      triangle = t;
      noise = n;
      dmc = d;
      now = now;
      soon = min (min a.next b.next) t.next;
      next = min (min (min a.next b.next) t.next) (min n.next d.next);
      level = summed_by (sum_of a.kept b.kept) (triangle_weight (triangle_at t.position)) (others_weight n.out d.out);
    }

-- at the start of a stretch
unfoldable pub lags_of : State → Lags
lags_of s =
    lags_at (square_lag (duty_row s.square1.duty) (square_amount false s.square1) (beat_of s.square1.sequencer) 0)
    (square_lag (duty_row s.square2.duty) (square_amount true s.square2) (beat_of s.square2.sequencer) 0)
    (triangle_lag (triangle_gate s.triangle) (triangle_beat_of s.triangle.sequencer) 0)
    (noise_lag (noise_period s.pal s.noise.index) s.noise.mode (noise_amount s.noise) s.noise.shifter 0)
    (dmc_lag (dmc_period s.pal s.dmc.registers.index) s.dmc 0)
    0

-- an event at clock e: squares and triangle are brought up to it where one of them is due, the others are as they are given
unfoldable pub renewed_with : Lags → NoiseLag → DmcLag → ℕ → Lags
renewed_with l n d e =
    lags_at (pick (l.soon == e) (square_renewed l.square1 e) l.square1) (pick (l.soon == e) (square_renewed l.square2 e) l.square2)
    (pick (l.soon == e) (triangle_renewed l.triangle e) l.triangle) n d e

-- the event at clock e: whoever is due is brought up to it
unfoldable pub renewed : List ℕ → Lags → ℕ → Lags
renewed memory l e = renewed_with l (noise_renewed l.noise e) (dmc_renewed memory l.dmc e) e

-- Helper: the same event with the DMC left as it is, which is right where it isn't due
unfoldable pub sounds_renewed : Lags → ℕ → Lags
sounds_renewed l e = renewed_with l (noise_renewed l.noise e) l.dmc e

-- Helper: the same event with noise and DMC left as they are
unfoldable pub voices_renewed : Lags → ℕ → Lags
voices_renewed l e =
    lags_at (square_renewed l.square1 e) (square_renewed l.square2 e) (triangle_renewed l.triangle e) l.noise l.dmc e

-- the whole state at clock k of a stretch that began in s
unfoldable pub stretch_state : State → Lags → ℕ → State
stretch_state s l k =
    state_with (with_beat s.square1.sequencer (beat_advanced k (beat_of s.square1.sequencer)))
    (with_beat s.square2.sequencer (beat_advanced k (beat_of s.square2.sequencer)))
    (triangle_with_beat s.triangle.sequencer (triangle_beat_advanced (triangle_gate s.triangle) k (triangle_beat_of s.triangle.sequencer)))
    (noise_shifter_at l.noise k) (dmc_at l.dmc k) (passed_frame k s) s

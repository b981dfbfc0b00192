-- The law of the leap. Document 01: "where all four lengths and remaining are 0, the buffer is empty and silence is set, any g clocks that bring no
-- frame step leave the level as it was, and every field after them has a closed form in quotients and remainders of g, only the noise shift
-- register going output by output." It is proved beside it (proofs/QuietLaws), and what a stretch of the run promises names it.
use Rattle.std.specs.Prelude.{ℕ, ◌+◌, ◌/◌, ◌%◌, ◌<◌, ◌≡◌, true, false, List, eqb}
use Rattle.arith.specs.Iterate.{iterate}
use Rattle.divider.specs.Divider.{outputs, count_after}
use Rattle.chip_timer.specs.Timer.{timer_period}
use Rattle.chip_timer.specs.declared.Timer.{Timer}
use Rattle.chip_square.specs.declared.Sequencer as square
use Rattle.leap_square.specs.Leap.{steps_of}
use Rattle.chip_triangle.specs.declared.Sequencer as triangle
use Rattle.leap_noise.specs.Leap.{shifter_advanced}
use Rattle.leap_dmc.specs.Leap.{dmc_advanced}
use Rattle.chip.specs.Clock.{step_due, chip_clock}
use Rattle.chip.specs.Level.{state_level}
use Rattle.chip.specs.Range.{in_range}
use Rattle.chip_tables.specs.Table.{noise_period, dmc_period}
use Rattle.chip.specs.declared.State.{State}
use Rattle.leap_law.specs.Between.{state_with}
use Rattle.leap_law.specs.Frame.{passed_frame}

-- "where all four lengths and remaining are 0, the buffer is empty and silence is set"
pub record Quiet (s : State) : Type 0 where
  pub square1 : s.square1.length.count ≡ 0
  pub square2 : s.square2.length.count ≡ 0
  pub triangle : s.triangle.length.count ≡ 0
  pub noise : s.noise.length.count ≡ 0
  pub remaining : s.dmc.reader.remaining ≡ 0
  pub buffer : s.dmc.reader.full ≡ false
  pub silence : s.dmc.output.silence ≡ true

-- a timer g clocks on, and the outputs it gives in them
abbrev pub timer_after : ℕ → Timer → Timer
timer_after g t = record { period = t.period; count = count_after (timer_period t) t.count g }

abbrev pub timer_outputs : ℕ → Timer → ℕ
timer_outputs g t = outputs (timer_period t) t.count g

-- a square: each output flips the half flag, and each second one advances the position (`steps_of`: half flag and position as one count of sixteen)
unfoldable pub square_after : ℕ → square.Sequencer → square.Sequencer
square_after g q =
    record {
      timer = timer_after g q.timer;
      half = eqb ((steps_of q + timer_outputs g q.timer) % 2) 1;
      position = (steps_of q + timer_outputs g q.timer) / 2 % 8;
    }

-- the triangle: its length is 0, so it holds its position
unfoldable pub triangle_after : ℕ → triangle.Sequencer → triangle.Sequencer
triangle_after g q = record { timer = timer_after g q.timer; position = q.position }

-- every field g clocks on, where none of them brings a frame step; the frame's clock number goes round (`passed_frame`)
unfoldable pub quiet_after : ℕ → State → State
quiet_after g s =
    state_with (square_after g s.square1.sequencer) (square_after g s.square2.sequencer) (triangle_after g s.triangle.sequencer)
    (shifter_advanced (noise_period s.pal s.noise.index) s.noise.mode g s.noise.shifter)
    (dmc_advanced (dmc_period s.pal s.dmc.registers.index) g s.dmc)
    (passed_frame g s) s

-- "g clocks that bring no frame step": the frame's own test fails at each of them
abbrev pub NoStep : List ℕ → State → ℕ → Type 0
NoStep memory s g = (k : ℕ) → k < g → step_due (iterate (chip_clock memory) k s) ≡ false

-- what g quiet clocks come to
pub record Leapt (memory : List ℕ) (s : State) (g : ℕ) : Type 0 where
  pub level : state_level (iterate (chip_clock memory) g s) ≡ state_level s
  pub state : iterate (chip_clock memory) g s ≡ quiet_after g s

-- THE LAW OF THE LEAP
abbrev pub LeapLaw : Type 0
LeapLaw = (memory : List ℕ) (s : State) → in_range s ≡ true → Quiet s → (g : ℕ) → NoStep memory s g → Leapt memory s g

-- Request 6, "Why is this channel silent?", for a square or the noise channel.
use Rattle.std.specs.Prelude.{ℕ, Bool, true, false, not, eqb}
use Rattle.arith.specs.Pick.{pick}
use Rattle.arith.specs.Bit.{bit_set}
use Rattle.chip_envelope.specs.Envelope.{volume}
use Rattle.chip_sweep.specs.Sweep.{low_period, high_target}
use Rattle.chip_square.specs.Sequencer.{duty_bit}
use Rattle.chip_square.specs.Square.{square_output}
use Rattle.chip_square.specs.declared.Square.{Square}
use Rattle.chip_noise.specs.Noise.{noise_output}
use Rattle.chip_noise.specs.declared.Noise.{Noise}
use Rattle.chip.specs.Range.{in_range}
use Rattle.chip.specs.declared.State.{State}
use Rattle.chip_why.specs.declared.Reason.{Reason}
use Rattle.chip_why.specs.declared.Reason.TheVariants.{Refused, NotEnabled, LengthZero, PeriodLow, TargetHigh, StepLow, VolumeZero, Sounds}

-- "answer with the first true reason in this order: not enabled; length is 0; period below 8; sweep target above 2047; duty step low, or for noise
-- bit 0 set; volume is 0. Otherwise answer that it sounds, with its number": the tests in that order, and the number
unfoldable pub first_reason : (off short low high still quiet : Bool) → ℕ → Reason
first_reason off short low high still quiet given =
    pick off NotEnabled
    (pick short LengthZero
    (pick low PeriodLow
    (pick high TargetHigh
    (pick still StepLow
    (pick quiet VolumeZero (Sounds given))))))

-- a square
unfoldable pub square_why : Bool → Square → Reason
square_why second s =
    first_reason (not s.length.enabled)
    (eqb s.length.count 0)
    (low_period s.sequencer.timer.period)
    (high_target second s.sweep s.sequencer.timer.period)
    (eqb (duty_bit s.duty s.sequencer.position) 0)
    (eqb (volume s.envelope) 0)
    (square_output second s)

-- the noise: "The two sweep reasons are for squares only."
unfoldable pub noise_why : Noise → Reason
noise_why c =
    first_reason (not c.length.enabled)
    (eqb c.length.count 0)
    false
    false
    (bit_set c.shifter.register 0)
    (eqb (volume c.envelope) 0)
    (noise_output c)

-- by the channel's number, as the registers group the channels: 0 square 1, 1 square 2, 3 the noise; "24 for any other channel"
unfoldable pub channel_why : ℕ → State → Reason
channel_why channel s =
    pick (eqb channel 0) (square_why false s.square1)
    (pick (eqb channel 1) (square_why true s.square2)
    (pick (eqb channel 3) (noise_why s.noise) (Refused 24)))

-- "Refusals: 2, then 24"
unfoldable pub why_answer : ℕ → State → Reason
why_answer channel s = pick (in_range s) (channel_why channel s) (Refused 2)

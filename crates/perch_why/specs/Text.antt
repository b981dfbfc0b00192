-- What `perch why CLOCK` writes about a log.
use Rattle.std.specs.Prelude.{ℕ, Bool, true, false, List, ◌++◌, eqb}
use Rattle.arith.specs.Pick.{pick}
use Rattle.text.specs.Ascii.{bytes}
use Rattle.text.specs.Decimal.{decimal_text}
use Rattle.text_lines.specs.Lines.{keyed_line, refused_line}
use Rattle.chip.specs.declared.State.{State}
use Rattle.chip_why.specs.Why.{why_answer}
use Rattle.chip_why.specs.declared.Reason.{Reason}
use Rattle.chip_why.specs.declared.Reason.TheVariants.{Refused, NotEnabled, LengthZero, PeriodLow, TargetHigh, StepLow, VolumeZero, Sounds}
use Rattle.play_at.specs.declared.At.{At}
use Rattle.play_at.specs.Reached.{state_at}

-- what stands still: a square's duty step, or bit 0 of the noise
unfoldable pub step_word : Bool → List ℕ
step_word noise = pick noise (bytes "bit") (bytes "step")

-- a key and a number
unfoldable pub numbered : List ℕ → ℕ → List ℕ
numbered key n = key ++ decimal_text n

-- a reason in a word (a state at a clock of a log is in range: `refused` never comes)
unfoldable pub reason_word : Bool → Reason → List ℕ
reason_word noise (Refused n) = numbered (bytes "refused:") n
reason_word noise NotEnabled = bytes "disabled"
reason_word noise LengthZero = bytes "length"
reason_word noise PeriodLow = bytes "period"
reason_word noise TargetHigh = bytes "sweep"
reason_word noise StepLow = step_word noise
reason_word noise VolumeZero = bytes "volume"
reason_word noise (Sounds n) = numbered (bytes "sounds:") n

-- `CHANNEL=WORD`
unfoldable pub channel_line : List ℕ → Bool → Reason → List ℕ
channel_line key noise r = key ++ (reason_word noise r ++ bytes "\n")

-- a line for each channel
unfoldable pub channel_lines : State → List ℕ
channel_lines s =
    channel_line (bytes "square1=") false (why_answer 0 s)
    ++ (channel_line (bytes "square2=") false (why_answer 1 s)
    ++ channel_line (bytes "noise=") true (why_answer 3 s))

-- the clock that was reached, and the channels there; or the refusal
unfoldable pub outcome_text : At → List ℕ
outcome_text a =
    pick (eqb a.number 0)
    (keyed_line (bytes "clock=") a.clock ++ channel_lines a.state)
    (refused_line a.number a.place)

-- THE TEXT for a log, a sample memory and a clock; each of its lines ends in one line feed
unfoldable pub why_text : List ℕ → List ℕ → ℕ → List ℕ
why_text log memory clock = bytes "why=1\n" ++ outcome_text (state_at log memory clock)

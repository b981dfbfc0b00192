-- What `perch meter` writes about a log.
use Rattle.std.specs.Prelude.{ℕ, zero, suc, Bool, true, false, List, [], ◌∷◌, ◌++◌, eqb}
use Rattle.arith.specs.Pick.{pick}
use Rattle.text.specs.Ascii.{bytes}
use Rattle.text.specs.Decimal.{decimal_text}
use Rattle.text_lines.specs.Lines.{refused_line}
use Rattle.recording.specs.Whole.{machine_of}
use Rattle.log_rules.specs.Tree.{acts}
use Rattle.recording.specs.Whole.{tree_of}
use Rattle.chip.specs.Range.{power_on}
use Rattle.play_walk.specs.declared.Moment.{Moment}
use Rattle.meter.specs.declared.Metering.{Metering}
use Rattle.meter.specs.declared.Metering.TheVariants.{Refused, NoLevels, Silent, Steady, Moving}
use Rattle.play_meter.specs.declared.Answer.{Answer}
use Rattle.play_meter.specs.declared.waits.Next.{Next}
use Rattle.play_meter.specs.Meters.{WaitMeter, waits_from, log_meter}
use Rattle.play_meter.specs.Passing.{pass_next, pass_of}

-- a key and a number
unfoldable pub numbered : List ℕ → ℕ → List ℕ
numbered key n = key ++ decimal_text n

-- `moving:LOWEST:HIGHEST`, out of 32,768
unfoldable pub moving_word : ℕ → ℕ → List ℕ
moving_word low high = bytes "moving:" ++ (decimal_text low ++ (bytes ":" ++ decimal_text high))

-- a meter in a word (what a log sounds like has a level, and none is above 32,767: `refused` and `none` never come)
unfoldable pub meter_word : Metering ℕ → List ℕ
meter_word (Refused k) = numbered (bytes "refused:") k
meter_word NoLevels = bytes "none"
meter_word Silent = bytes "silent"
meter_word (Steady v) = numbered (bytes "steady:") v
meter_word (Moving low high) = moving_word low high

-- `all=METER`
unfoldable pub all_line : Metering ℕ → List ℕ
all_line m = bytes "all=" ++ (meter_word m ++ bytes "\n")

-- the meter of the whole log, or the refusal
unfoldable pub outcome_text : Answer → List ℕ
outcome_text a = pick (eqb a.number 0) (all_line a.meter) (refused_line a.number a.place)

-- THE TEXT for a log and a sample memory; each of its lines ends in one line feed
unfoldable pub meter_text : List ℕ → List ℕ → List ℕ
meter_text log memory = bytes "meter=1\n" ++ outcome_text (log_meter log memory)

-- `wait=CLOCK:CLOCKS:METER`: the clock at which a wait begins, its clocks and its meter
unfoldable pub wait_line : ℕ → ℕ → Metering ℕ → List ℕ
wait_line time clocks m =
    bytes "wait=" ++ (decimal_text time ++ (bytes ":" ++ (decimal_text clocks ++ (bytes ":" ++ (meter_word m ++ bytes "\n")))))

unfoldable pub waits_text : List WaitMeter → List ℕ
waits_text [] = []
waits_text (x ∷ l) = wait_line x.time x.clocks x.meter ++ waits_text l

-- THE TEXT of `perch meter waits`: the same, and behind it a line for each wait of a log that passes
unfoldable pub meter_waits_text : List ℕ → List ℕ → List ℕ
meter_waits_text log memory =
    meter_text log memory
    ++ pick (eqb (log_meter log memory).number 0) (waits_text (waits_from memory (acts (tree_of log)) 0 (power_on (machine_of log)))) []

-- what is written of a step: a wait's line
unfoldable pub next_text : Next → List ℕ
next_text Next.Over = []
next_text Next.Moved = []
next_text (Next.Wait time clocks m) = wait_line time clocks m
next_text (Next.Refused k p) = []

abbrev pub is_over : Next → Bool
is_over Next.Over = true
is_over Next.Moved = false
is_over (Next.Wait time clocks m) = false
is_over (Next.Refused k p) = true

-- what is written of n steps, or of those up to the end (from a log's beginning, all its waits: proofs/Joined)
unfoldable pub steps_text : List ℕ → List ℕ → ℕ → Moment → List ℕ
steps_text log memory zero m = []
steps_text log memory (suc n) m =
    next_text (pass_next (pass_of log memory m).said)
    ++ pick (is_over (pass_next (pass_of log memory m).said)) [] (steps_text log memory n (pass_of log memory m).state)

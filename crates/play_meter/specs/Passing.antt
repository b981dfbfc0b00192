-- The waits of a log as a teller that says them, one step of the log's walk at a time, for any moment and any bytes.
use Rattle.std.specs.Prelude.{ℕ, ◌+◌, ◌≡◌, List, [], ◌∷◌, leb}
use Rattle.arith.specs.Iterate.{iterate}
use Rattle.arith.specs.Pick.{pick}
use Rattle.reading.specs.Saying.{Said, over, on, says, refused, said_number, said_place, said_things, Turn}
use Rattle.chip.specs.Clock.{chip_clock}
use Rattle.chip.specs.Range.{in_range}
use Rattle.chip_api.specs.Answer.{is_memory}
use Rattle.play_walk.specs.declared.Moment.{Moment}
use Rattle.play_walk.specs.declared.Met.{Met}
use Rattle.play_walk.specs.Walk.{moment_of, walk_step}
use Rattle.play_meter.specs.declared.waits.Next.{Next}
use Rattle.play_meter.specs.declared.waits.Passed.{Passed}
use Rattle.play_meter.specs.Meters.{WaitMeter, wait_meter}

abbrev pub Go : Type 0
Go = Turn Moment WaitMeter

abbrev pub go : Said WaitMeter → Moment → Go
go w m = record { said = w; state = m }

-- what a step of the walk met, and the moment behind it: a wait is said with its meter; a line at fault is refused
unfoldable pub met_pass : List ℕ → Met → Moment → Go
met_pass memory Met.Moved m = go on m
met_pass memory (Met.Access x b a) m = go on m
met_pass memory (Met.Wait n) m =
    go (says (wait_meter memory n m.time m.state)) (moment_of m.cursor (iterate (chip_clock memory) n m.state) (m.time + n))
met_pass memory Met.End m = go over m
met_pass memory (Met.Refused k p) m = go (refused k p) m

-- ONE STEP. 1: "sample memory isn't 32,768 bytes"; 2: "a state field is outside its range"; 9: "over 2,000,000,000 clocks"; all at 0
unfoldable pub pass_of : List ℕ → List ℕ → Moment → Go
pass_of log memory m =
    pick (is_memory memory)
    (pick (in_range m.state)
    (pick (leb m.time 2000000000) (met_pass memory (walk_step log m).met (walk_step log m).moment) (go (refused 9 0) m))
    (go (refused 2 0) m))
    (go (refused 1 0) m)

-- the answer for what is said
abbrev pub pass_next : Said WaitMeter → Next
pass_next over = Next.Over
pass_next on = Next.Moved
pass_next (says x) = Next.Wait x.time x.clocks x.meter
pass_next (refused k p) = Next.Refused k p

abbrev pub passed_of : Next → Moment → Passed
passed_of n m = record { next = n; moment = m }

abbrev pub passed : Go → Passed
passed t = passed_of (pass_next t.said) t.state

-- Document 01: "When an answer is an enum, a definition states this paper's number and values for each enum case": a refusal has its own number and place, all
-- else is 0 at 0, and the value is the wait with its meter
abbrev pub next_number : Next → ℕ
next_number Next.Over = 0
next_number Next.Moved = 0
next_number (Next.Wait t n m) = 0
next_number (Next.Refused k q) = k

abbrev pub next_place : Next → ℕ
next_place Next.Over = 0
next_place Next.Moved = 0
next_place (Next.Wait t n m) = 0
next_place (Next.Refused k q) = q

abbrev pub next_waits : Next → List WaitMeter
next_waits Next.Over = []
next_waits Next.Moved = []
next_waits (Next.Wait t n m) = record { time = t; clocks = n; meter = m } ∷ []
next_waits (Next.Refused k q) = []

-- an answer has those of what is said
abbrev pub NextIs : Said WaitMeter → Next → Type 0
NextIs w r = (next_number r ≡ said_number w) × (next_place r ≡ said_place w) × (next_waits r ≡ said_things w)

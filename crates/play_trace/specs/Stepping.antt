-- A window of a log as a teller that says its events, one small step at a time, for any place and any bytes. From the beginning of a log that passes it says
-- the window's events, one after the other, and then the end (proofs/Said).
use Rattle.std.specs.Prelude.{ℕ, zero, suc, ◌+◌, ◌-◌, min, Bool, true, false, ◌≡◌, List, [], ◌∷◌, eqb, leb}
use Rattle.arith.specs.Iterate.{iterate}
use Rattle.arith.specs.Pick.{pick}
use Rattle.reading.specs.Saying.{Said, over, on, says, refused, said_number, said_place, said_things, Turn}
use Rattle.chip.specs.Clock.{chip_clock}
use Rattle.chip.specs.Range.{in_range}
use Rattle.chip.specs.declared.State.{State}
use Rattle.chip_api.specs.Answer.{is_memory}
use Rattle.chip_seen.specs.Seen.{seen_of, same_seen}
use Rattle.play_walk.specs.declared.Moment.{Moment}
use Rattle.play_walk.specs.declared.Met.{Met}
use Rattle.play_walk.specs.Walk.{moment_of, walk_start, walk_step}
use Rattle.play_trace.specs.declared.Event.{Event}
use Rattle.play_trace.specs.declared.Event.TheVariants.{Begins}
use Rattle.play_trace.specs.declared.Place.{Place}
use Rattle.play_trace.specs.declared.Next.{Next}
use Rattle.play_trace.specs.declared.Passed.{Passed}
use Rattle.play_trace.specs.Window.{shown_at, clock_event, access_event}

abbrev pub Go : Type 0
Go = Turn Place Event

abbrev pub go : Said Event → Place → Go
go w p = record { said = w; state = p }

-- a moment of a log, the clocks of its wait that are still to be worked, the accesses done at its clock, and whether the window has begun
abbrev pub place_of : Moment → ℕ → ℕ → Bool → Place
place_of m left done begun = record { moment = m; left = left; done = done; begun = begun }

-- at a log's beginning, on its machine
abbrev pub place_start : List ℕ → Place
place_start log = place_of (walk_start log) 0 0 false

-- the window begins here
unfoldable pub begins_at : Place → Go
begins_at p = go (says (Begins (shown_at p.moment.state p.moment.time 0))) (place_of p.moment p.left 0 true)

-- k clocks of a wait
unfoldable pub clocks_past : List ℕ → ℕ → Place → Place
clocks_past memory k p =
    place_of (moment_of p.moment.cursor (iterate (chip_clock memory) k p.moment.state) (p.moment.time + k)) (p.left - k) 0 p.begun

-- BEFORE THE WINDOW: what a step of the walk met, and the moment behind it; the window of a log that ends here begins at the end
unfoldable pub approach : Place → Met → Moment → Go
approach p Met.Moved m = go on (place_of m 0 0 false)
approach p (Met.Access x b a) m = go on (place_of m 0 0 false)
approach p (Met.Wait n) m = go on (place_of m n 0 false)
approach p Met.End m = begins_at p
approach p (Met.Refused k q) m = go (refused k q) (place_of m 0 0 false)

-- a step of the log, or clocks of a wait, at most up to the window
unfoldable pub outside_step : List ℕ → List ℕ → ℕ → Place → Go
outside_step log memory from p =
    pick (leb from p.moment.time) (begins_at p)
    (pick (eqb p.left 0) (approach p (walk_step log p.moment).met (walk_step log p.moment).moment)
    (go on (clocks_past memory (min p.left (from - p.moment.time)) p)))

-- the clocks, at most n, up to the first after which something seen differs from now
unfoldable pub until_seen : List ℕ → ℕ → State → ℕ
until_seen memory zero s = 0
until_seen memory (suc n) s = pick (same_seen (seen_of s) (seen_of (chip_clock memory s))) (suc (until_seen memory n (chip_clock memory s))) 1

-- what there is to say of a clock: its event, or nothing
unfoldable pub event_said : List Event → Said Event
event_said [] = on
event_said (e ∷ l) = says e

-- IN THE WINDOW: k clocks of a wait, of which the last alone may bring an event
unfoldable pub clocks_step : List ℕ → ℕ → Place → Go
clocks_step memory k p =
    go (event_said (clock_event (p.moment.time + k) p.moment.state (iterate (chip_clock memory) k p.moment.state))) (clocks_past memory k p)

-- what a step of the walk met, and the moment behind it
unfoldable pub met_step : Place → Met → Moment → Go
met_step p Met.Moved m = go on (place_of m 0 p.done true)
met_step p (Met.Access x b a) m =
    go (says (access_event p.moment.time (p.done + 1) x p.moment.state m.state)) (place_of m 0 (min (p.done + 1) 500) true)
met_step p (Met.Wait n) m = go on (place_of m n 0 true)
met_step p Met.End m = go over (place_of m 0 p.done true)
met_step p (Met.Refused k q) m = go (refused k q) (place_of m 0 p.done true)

unfoldable pub inside_step : List ℕ → List ℕ → ℕ → Place → Go
inside_step log memory until p =
    pick (leb until p.moment.time) (go over p)
    (pick (eqb p.left 0) (met_step p (walk_step log p.moment).met (walk_step log p.moment).moment)
    (clocks_step memory (until_seen memory (min p.left (until - p.moment.time)) p.moment.state) p))

-- what refuses a place: 1: "sample memory isn't 32,768 bytes"; 2: "a state field is outside its range"; 3: "a run of more than 1,000,000 clocks"; 9:
-- "over 2,000,000,000 clocks"; 0 where nothing does
unfoldable pub refusal_of : List ℕ → Place → ℕ
refusal_of memory p =
    pick (is_memory memory)
    (pick (in_range p.moment.state) (pick (leb p.left 1000000) (pick (leb p.moment.time 2000000000) 0 9) 3) 2)
    1

-- ONE STEP towards the window of the clocks `from` to `until`, or in it; a refusal's place is 0
unfoldable pub step_of : List ℕ → List ℕ → ℕ → ℕ → Place → Go
step_of log memory from until p =
    pick (eqb (refusal_of memory p) 0) (pick p.begun (inside_step log memory until p) (outside_step log memory from p))
    (go (refused (refusal_of memory p) 0) p)

-- the answer for what is said; the end at its time
abbrev pub next_of : Said Event → ℕ → Next
next_of over time = Next.Over time
next_of on time = Next.Moved
next_of (says e) time = Next.Shown e
next_of (refused k q) time = Next.Refused k q

-- the nanoseconds of a place
unfoldable pub place_time : Place → ℕ
place_time p = (shown_at p.moment.state p.moment.time p.done).time

abbrev pub passed_of : Next → Place → Passed
passed_of n p = record { next = n; place = p }

abbrev pub passed : Go → Passed
passed g = passed_of (next_of g.said (place_time g.state)) g.state

-- Document 01: "When an answer is an enum, a definition states this paper's number and values for each enum case": a refusal has its own number and place, all
-- else is 0 at 0, and the value is the event
abbrev pub next_number : Next → ℕ
next_number (Next.Over time) = 0
next_number Next.Moved = 0
next_number (Next.Shown e) = 0
next_number (Next.Refused k q) = k

abbrev pub next_place : Next → ℕ
next_place (Next.Over time) = 0
next_place Next.Moved = 0
next_place (Next.Shown e) = 0
next_place (Next.Refused k q) = q

abbrev pub next_events : Next → List Event
next_events (Next.Over time) = []
next_events Next.Moved = []
next_events (Next.Shown e) = e ∷ []
next_events (Next.Refused k q) = []

-- an answer has those of what is said
abbrev pub NextIs : Said Event → Next → Type 0
NextIs w r = (next_number r ≡ said_number w) × (next_place r ≡ said_place w) × (next_events r ≡ said_things w)

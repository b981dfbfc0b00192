-- The changes of a log as a teller that says them, one small step at a time, for any place and any bytes. From the beginning of a log that passes it says the
-- log's changes, one after the other, and then the end (proofs/Said).
use Rattle.std.specs.Prelude.{ℕ, zero, suc, ◌+◌, ◌-◌, ◌≡◌, List, [], ◌∷◌, eqb, leb}
use Rattle.arith.specs.Iterate.{iterate}
use Rattle.arith.specs.Pick.{pick}
use Rattle.reading.specs.Saying.{Said, over, on, says, refused, said_number, said_place, said_things, Turn}
use Rattle.chip.specs.Clock.{chip_clock}
use Rattle.chip.specs.Range.{in_range}
use Rattle.chip.specs.declared.State.{State}
use Rattle.chip_api.specs.Answer.{is_memory}
use Rattle.play_walk.specs.declared.Moment.{Moment}
use Rattle.play_walk.specs.declared.Met.{Met}
use Rattle.play_walk.specs.Walk.{moment_of, walk_start, walk_step}
use Rattle.play_interrupts.specs.declared.Change.{Change}
use Rattle.play_interrupts.specs.declared.Place.{Place}
use Rattle.play_interrupts.specs.declared.Next.{Next}
use Rattle.play_interrupts.specs.declared.Passed.{Passed}
use Rattle.play_interrupts.specs.Changes.{flags_of, same_flags, changed}

abbrev pub Go : Type 0
Go = Turn Place Change

abbrev pub go : Said Change → Place → Go
go w p = record { said = w; state = p }

-- a moment of a log, and the clocks of its wait that are still to be worked
abbrev pub place_of : Moment → ℕ → Place
place_of m left = record { moment = m; left = left }

-- at a log's beginning, on its machine
abbrev pub place_start : List ℕ → Place
place_start log = place_of (walk_start log) 0

-- the clocks, at most n, up to the first after which a flag or the line differs from now
unfoldable pub until_change : List ℕ → ℕ → State → ℕ
until_change memory zero s = 0
until_change memory (suc n) s =
    pick (same_flags (flags_of s) (flags_of (chip_clock memory s))) (suc (until_change memory n (chip_clock memory s))) 1

-- what there is to say of a step: its change, or nothing
unfoldable pub change_said : List Change → Said Change
change_said [] = on
change_said (c ∷ l) = says c

-- k clocks of a wait, of which the last alone may bring a change
unfoldable pub clocks_step : List ℕ → ℕ → Place → Go
clocks_step memory k p =
    let s = p.moment.state in
    let t = p.moment.time + k in
    let next = iterate (chip_clock memory) k s in
    go (change_said (changed t s next)) (place_of (moment_of p.moment.cursor next t) (p.left - k))

-- what a step of the walk met, from the state s, and the moment behind it
unfoldable pub met_step : State → Met → Moment → Go
met_step s Met.Moved m = go on (place_of m 0)
met_step s (Met.Access x b a) m = go (change_said (changed m.time s m.state)) (place_of m 0)
met_step s (Met.Wait n) m = go on (place_of m n)
met_step s Met.End m = go over (place_of m 0)
met_step s (Met.Refused k q) m = go (refused k q) (place_of m 0)

-- the rest of a wait up to the next change, or to its end; where no wait is under way a step of the log. 3: "a run of more than 1,000,000 clocks"
unfoldable pub place_step : List ℕ → List ℕ → Place → Go
place_step log memory p =
    pick (eqb p.left 0) (met_step p.moment.state (walk_step log p.moment).met (walk_step log p.moment).moment)
    (pick (leb p.left 1000000) (clocks_step memory (until_change memory p.left p.moment.state) p) (go (refused 3 0) p))

-- ONE STEP. 1: "sample memory isn't 32,768 bytes"; 2: "a state field is outside its range"; 9: "over 2,000,000,000 clocks"; all at 0
unfoldable pub step_of : List ℕ → List ℕ → Place → Go
step_of log memory p =
    pick (is_memory memory)
    (pick (in_range p.moment.state)
    (pick (leb p.moment.time 2000000000) (place_step log memory p) (go (refused 9 0) p))
    (go (refused 2 0) p))
    (go (refused 1 0) p)

-- the answer for what is said; the end at its clock
abbrev pub next_of : Said Change → ℕ → Next
next_of over t = Next.Over t
next_of on t = Next.Moved
next_of (says c) t = Next.Changed c
next_of (refused k q) t = Next.Refused k q

abbrev pub passed_of : Next → Place → Passed
passed_of n p = record { next = n; place = p }

abbrev pub passed : Go → Passed
passed g = passed_of (next_of g.said g.state.moment.time) g.state

-- Document 01: "When an answer is an enum, a definition states this paper's number and values for each enum case": a refusal has its own number and place, all
-- else is 0 at 0, and the value is the change
abbrev pub next_number : Next → ℕ
next_number (Next.Over t) = 0
next_number Next.Moved = 0
next_number (Next.Changed c) = 0
next_number (Next.Refused k q) = k

abbrev pub next_place : Next → ℕ
next_place (Next.Over t) = 0
next_place Next.Moved = 0
next_place (Next.Changed c) = 0
next_place (Next.Refused k q) = q

abbrev pub next_changes : Next → List Change
next_changes (Next.Over t) = []
next_changes Next.Moved = []
next_changes (Next.Changed c) = c ∷ []
next_changes (Next.Refused k q) = []

-- an answer has those of what is said
abbrev pub NextIs : Said Change → Next → Type 0
NextIs w r = (next_number r ≡ said_number w) × (next_place r ≡ said_place w) × (next_changes r ≡ said_things w)

-- A log as a teller that says its samples, a list of them at each step, for any place, any bytes and any room. A step of k clocks says what k of one clock say
-- (crate wav_rules).
use Rattle.std.specs.Prelude.{ℕ, ◌+◌, ◌-◌, min, ◌≡◌, List, [], eqb, leb, length}
use Rattle.arith.specs.Iterate.{iterate}
use Rattle.arith.specs.Pick.{pick}
use Rattle.reading.specs.Saying.{Said, over, on, says, refused, said_number, said_place, Turn}
use Rattle.chip.specs.Clock.{chip_clock}
use Rattle.chip.specs.Range.{in_range}
use Rattle.chip_api.specs.Answer.{is_memory}
use Rattle.run_levels.specs.Levels.{clocks_levels}
use Rattle.wav_sample.specs.Samples.{rate_right, clocks_before}
use Rattle.wav_sample.specs.Sampler.{sampler_of, sampled_from, sampler_after, in_order}
use Rattle.wav_sample.specs.declared.Sampler.{Sampler}
use Rattle.play_walk.specs.declared.Moment.{Moment}
use Rattle.play_walk.specs.declared.Met.{Met}
use Rattle.play_walk.specs.Walk.{moment_of, walk_start, walk_step}
use Rattle.play_samples.specs.declared.Place.{Place}
use Rattle.play_samples.specs.declared.Next.{Next}
use Rattle.play_samples.specs.declared.Passed.{Passed}

abbrev pub Go : Type 0
Go = Turn Place (List ℕ)

abbrev pub go : Said (List ℕ) → Place → Go
go w p = record { said = w; state = p }

-- a moment of a log, the clocks of its wait that are still to be worked, the sample under way and its levels so far added up
abbrev pub place_of : Moment → ℕ → ℕ → ℕ → Place
place_of m left sample sum = record { moment = m; left = left; sample = sample; sum = sum }

abbrev pub place_start : List ℕ → Place
place_start log = place_of (walk_start log) 0 0 0

abbrev pub sampler_at : Place → Sampler
sampler_at p = sampler_of p.moment.time p.sample p.sum

-- the clocks of a wait that one step works: those left, but no more than make `room` samples whole
unfoldable pub clocks_in : ℕ → ℕ → Place → ℕ
clocks_in rate room p = min p.left (clocks_before p.moment.state.pal rate (p.sample + room) - p.moment.time)

-- k clocks of a wait
unfoldable pub clocks_step : List ℕ → ℕ → ℕ → Place → Go
clocks_step memory rate k p =
    let s = p.moment.state in
    let levels = clocks_levels memory k s in
    let a = sampler_after s.pal rate (sampler_at p) levels in
    go (says (sampled_from s.pal rate (sampler_at p) levels))
    (place_of (moment_of p.moment.cursor (iterate (chip_clock memory) k s) (p.moment.time + k)) (p.left - k) a.sample a.sum)

-- what a step of the walk met, and the moment behind it
unfoldable pub met_step : Place → Met → Moment → Go
met_step p Met.Moved m = go on (place_of m 0 p.sample p.sum)
met_step p (Met.Access x b a) m = go on (place_of m 0 p.sample p.sum)
met_step p (Met.Wait n) m = go on (place_of m n p.sample p.sum)
met_step p Met.End m = go over (place_of m 0 p.sample p.sum)
met_step p (Met.Refused k q) m = go (refused k q) (place_of m 0 p.sample p.sum)

-- what refuses a place: 1: "sample memory isn't 32,768 bytes"; 2: "a state field is outside its range", the sample under way among them; 3: "a run of more than
-- 1,000,000 clocks"; 9: "over 2,000,000,000 clocks", with those of the wait; 33: a rate outside 8000..192000; 0 where nothing does
unfoldable pub refusal_of : List ℕ → ℕ → Place → ℕ
refusal_of memory rate p =
    pick (is_memory memory)
    (pick (in_range p.moment.state)
    (pick (leb p.left 1000000)
    (pick (leb (p.moment.time + p.left) 2000000000) (pick (rate_right rate) (pick (in_order p.moment.state.pal rate (sampler_at p)) 0 2) 33) 9) 3) 2)
    1

-- A STEP: a line of the log, or k clocks of a wait
unfoldable pub step_by : List ℕ → List ℕ → ℕ → ℕ → Place → Go
step_by log memory rate k p =
    pick (eqb (refusal_of memory rate p) 0)
    (pick (eqb p.left 0) (met_step p (walk_step log p.moment).met (walk_step log p.moment).moment) (clocks_step memory rate k p))
    (go (refused (refusal_of memory rate p) 0) p)

-- ONE STEP into room for so many samples
abbrev pub step_of : List ℕ → List ℕ → ℕ → ℕ → Place → Go
step_of log memory rate room p = step_by log memory rate (clocks_in rate room p) p

-- the samples said
unfoldable pub heard : Said (List ℕ) → List ℕ
heard over = []
heard on = []
heard (says l) = l
heard (refused k q) = []

-- the answer for what is said: of samples how many
abbrev pub next_of : Said (List ℕ) → Next
next_of over = Next.Over
next_of on = Next.Moved
next_of (says l) = Next.Heard (length l)
next_of (refused k q) = Next.Refused k q

abbrev pub passed_of : Next → Place → Passed
passed_of n p = record { next = n; place = p }

abbrev pub passed : Go → Passed
passed g = passed_of (next_of g.said) g.state

-- Document 01: "When an answer is an enum, a definition states this paper's number and values for each enum case": a refusal has its own number and place, all
-- else is 0 at 0, and the value is how many samples
abbrev pub next_number : Next → ℕ
next_number Next.Over = 0
next_number Next.Moved = 0
next_number (Next.Heard n) = 0
next_number (Next.Refused k q) = k

abbrev pub next_place : Next → ℕ
next_place Next.Over = 0
next_place Next.Moved = 0
next_place (Next.Heard n) = 0
next_place (Next.Refused k q) = q

abbrev pub next_count : Next → ℕ
next_count Next.Over = 0
next_count Next.Moved = 0
next_count (Next.Heard n) = n
next_count (Next.Refused k q) = 0

-- an answer has those of what is said
abbrev pub NextIs : Said (List ℕ) → Next → Type 0
NextIs w r = (next_number r ≡ said_number w) × (next_place r ≡ said_place w) × (next_count r ≡ length (heard w))

-- Document 01, "Mixer and records" and "Numbers an answer can carry": what a run answers and leaves in the lent words, by the plain reading.
use Rattle.std.specs.Prelude.{ℕ, ◌+◌, ◌*◌, ◌/◌, false, List, [], ◌∷◌, length, set, leb, ltb, eqb}
use Rattle.arith.specs.Over.{over}
use Rattle.arith.specs.Pick.{pick}
use Rattle.reading.specs.Reading.{Clockwork, Mark, Progress, plain}
use Rattle.chip.specs.Clock.{chip_clock}
use Rattle.chip.specs.Level.{state_level}
use Rattle.chip.specs.Range.{in_range}
use Rattle.chip.specs.declared.State.{State}
use Rattle.chip_api.specs.Answer.{is_memory}
use Rattle.run_answer.specs.declared.Ran.{Ran}

-- the chip with its sample memory, as the clockwork of a reading; with the counts of request 1 beside it: crate run_dwell
abbrev pub chip_clockwork : List ℕ → Clockwork State
chip_clockwork memory = record { clock = chip_clock memory; level = state_level; full = λ s. false }

-- 1 "sample memory isn't 32,768 bytes"; 2 "a state field is outside its range"; 3 "a run of more than 1,000,000 clocks"; "Lowest number first"
unfoldable pub number : List ℕ → State → ℕ → ℕ
number memory s count = pick (is_memory memory) (pick (in_range s) (pick (leb count 1_000_000) 0 3) 2) 1

-- "Room is half the lent words, rounded down."
abbrev pub room_of : List ℕ → ℕ
room_of words = length words / 2

-- a record at its place, "as two 32-bit words", where there is room for it
unfoldable pub stored : List ℕ → ℕ → ℕ → ℕ → List ℕ
stored words n clock level = pick (ltb n (room_of words)) (set (set words (2 * n) clock) (2 * n + 1) level) words

-- records as words: a clock's number, then the level
unfoldable pub flat : List Mark → List ℕ
flat [] = []
flat (m ∷ ms) = m.clock ∷ m.level ∷ flat ms

-- the plain reading that a run is held to
unfoldable pub read_by : List ℕ → State → ℕ → List ℕ → Progress State
read_by memory s count words = plain (chip_clockwork memory) (room_of words) count s

-- "A refusal returns its number .., the state .. as given, 0 .. for the rest"
abbrev pub refusal : ℕ → State → Ran
refusal n s = record { number = n; state = s; done = 0; records = 0 }

-- the answer by its number: 0 gives what was read
unfoldable pub answered : ℕ → State → Progress State → Ran
answered n s p =
    pick (eqb n 0) (record { number = 0; state = p.state; done = p.done; records = length p.marks }) (refusal n s)

-- WHAT A RUN ANSWERS
unfoldable pub uncounted_answer : List ℕ → State → ℕ → List ℕ → Ran
uncounted_answer memory s count words = answered (number memory s count) s (read_by memory s count words)

-- WHAT A RUN LEAVES IN THE LENT WORDS: the records over the first of them; refused, "lent memory untouched"
unfoldable pub uncounted_lent : List ℕ → State → ℕ → List ℕ → List ℕ
uncounted_lent memory s count words = pick (eqb (number memory s count) 0) (over (flat (read_by memory s count words).marks) words) words

-- Request 1, "Dwell table for the sample converter": what a run with its table of counts answers and leaves in the lent words, by the plain reading.
use Rattle.std.specs.Prelude.{ℕ, ◌+◌, ◌<◌, ◌≡◌, Bool, true, List, [], ◌∷◌, length, get_or, leb, eqb}
use Rattle.arith.specs.Pick.{pick, both}
use Rattle.reading.specs.Reading.{Clockwork, Progress, plain}
use Rattle.reading.specs.Counting.{Beside, sum, dwelt, counting}
use Rattle.chip.specs.Clock.{chip_clock}
use Rattle.chip.specs.Level.{state_level}
use Rattle.chip.specs.Range.{Bytes}
use Rattle.chip.specs.declared.State.{State}
use Rattle.arith.specs.Over.{over}
use Rattle.run_answer.specs.Run.{number, room_of, flat, refusal}
use Rattle.run_dwell.specs.declared.Counted.{Counted}

-- "4,000,000,000": the most that a count may be
abbrev pub dwell_limit : ℕ
dwell_limit = 4_000_000_000

-- "the level's place": of the 128 counts that of the DMC level
abbrev pub dwell_place : State → ℕ
dwell_place s = s.dmc.output.level

-- "Keep 128 counts beside the run, one added at the level's place after each clock done."
abbrev pub dwell_clockwork : List ℕ → Clockwork (Beside State)
dwell_clockwork memory = counting (chip_clock memory) dwell_place state_level dwell_limit

-- no count is over the limit
unfoldable pub counts_within : ℕ → List ℕ → Bool
counts_within limit [] = true
counts_within limit (n ∷ ns) = both (leb n limit) (counts_within limit ns)

-- "13, a given table with any count over 4,000,000,000, after 3"
unfoldable pub dwell_number : List ℕ → State → List ℕ → ℕ → ℕ
dwell_number memory s counts count =
    pick (eqb (number memory s count) 0) (pick (counts_within dwell_limit counts) 0 13) (number memory s count)

-- the plain reading that a run is held to
unfoldable pub dwell_by : List ℕ → State → List ℕ → ℕ → List ℕ → Progress (Beside State)
dwell_by memory s counts count words = plain (dwell_clockwork memory) (room_of words) count (record { state = s; counts = counts })

-- "A refusal returns its number .., the state and any table as given, 0 .. for the rest"
abbrev pub dwell_refusal : ℕ → State → List ℕ → Counted
dwell_refusal n s counts = record { ran = refusal n s; counts = counts }

-- the answer by its number: 0 gives what was read
unfoldable pub run_answered : ℕ → State → List ℕ → Progress (Beside State) → Counted
run_answered n s counts p =
    pick (eqb n 0)
    (record { ran = record { number = 0; state = p.state.state; done = p.done; records = length p.marks }; counts = p.state.counts })
    (dwell_refusal n s counts)

-- WHAT A RUN WITH ITS TABLE ANSWERS
unfoldable pub run_answer : List ℕ → State → List ℕ → ℕ → List ℕ → Counted
run_answer memory s counts count words = run_answered (dwell_number memory s counts count) s counts (dwell_by memory s counts count words)

-- WHAT IT LEAVES IN THE LENT WORDS
unfoldable pub run_lent : List ℕ → State → List ℕ → ℕ → List ℕ → List ℕ
run_lent memory s counts count words =
    pick (eqb (dwell_number memory s counts count) 0) (over (flat (dwell_by memory s counts count words).marks) words) words

-- "A run from any given table must raise each count by the number of such clocks by the plain reading, and so the sum by the clocks done."
abbrev pub CountsRaised : Type 0
CountsRaised =
    (memory : List ℕ) → Bytes memory → (s : State) (counts : List ℕ) → length counts ≡ 128 → (count : ℕ) (words : List ℕ)
    → let r = run_answer memory s counts count words in
    ((i : ℕ) → i < 128 → get_or r.counts i 0 ≡ get_or counts i 0 + dwelt (chip_clock memory) dwell_place i r.ran.done s)
    × (sum r.counts ≡ sum counts + r.ran.done)

-- Demand 3: a list of runs, refused ones included. "Each run gets the state the last one handed back and the room it left." Request 1: "each run of a
-- list gets the table the last one handed back".
use Rattle.std.specs.Prelude.{ℕ, ◌+◌, ◌*◌, ◌≤◌, ◌≡◌, true, List, [], ◌∷◌, ◌++◌, map, length, take, drop, leb}
use Rattle.arith.specs.Pick.{pick}
use Rattle.reading.specs.Reading.{Mark, Progress, raised, plain}
use Rattle.chip.specs.Range.{in_range, Bytes}
use Rattle.chip.specs.declared.State.{State}
use Rattle.chip_api.specs.Answer.{is_memory}
use Rattle.reading.specs.Counting.{Beside}
use Rattle.run_answer.specs.Run.{room_of}
use Rattle.run_answer.specs.declared.Ran.{Ran}
use Rattle.run_dwell.specs.Dwell.{dwell_limit, dwell_clockwork, counts_within, run_answer, run_lent}
use Rattle.run_dwell.specs.declared.Counted.{Counted}

-- what one run of the list is asked
pub record Request : Type 0 where
  pub memory : List ℕ
  pub count : ℕ

-- what a list has come to; clocks count from its start
pub record Outcome : Type 0 where
  pub state : State
  pub counts : List ℕ
  pub done : ℕ
  pub marks : List Mark
  pub words : List ℕ

-- the records that words hold, two words a record
unfoldable pub marks_of : List ℕ → List Mark
marks_of [] = []
marks_of (x ∷ []) = []
marks_of (x ∷ y ∷ l) = record { clock = x; level = y } ∷ marks_of l

-- the words that a run wrote, and those behind its records
abbrev pub words_written : Ran → List ℕ → List ℕ
words_written r words = take (2 * r.records) words

abbrev pub words_behind : Ran → List ℕ → List ℕ
words_behind r words = drop (2 * r.records) words

-- a run's answer with the words as it left them, then the rest of the list: "Each run is lent the words behind the records so far"; "the clocks
-- in its records as whole numbers of any size, raised by the clocks done before it"
unfoldable pub joined : Counted → List ℕ → (State → List ℕ → List ℕ → Outcome) → Outcome
joined c words rest =
    let r = c.ran in
    let o = rest r.state c.counts (words_behind r words) in
    record {
      state = o.state;
      counts = o.counts;
      done = r.done + o.done;
      marks = marks_of (words_written r words) ++ map (raised r.done) o.marks;
      words = words_written r words ++ o.words;
    }

-- the list, run by run, by what a run promises
unfoldable pub run_all : List Request → State → List ℕ → List ℕ → Outcome
run_all [] s counts words = record { state = s; counts = counts; done = 0; marks = []; words = words }
run_all (q ∷ qs) s counts words =
    joined (run_answer q.memory s counts q.count words) (run_lent q.memory s counts q.count words) (run_all qs)

-- "a run is refused exactly where 1 or 3 holds (2 never does), and then counts as asking for 0 clocks"; "a run refused by 13 asks for 0 clocks": that
-- is all runs of the list or none, by its first table (`ListTables`)
unfoldable pub asks : List ℕ → Request → ℕ
asks counts q = pick (is_memory q.memory) (pick (leb q.count 1_000_000) (pick (counts_within dwell_limit counts) q.count 0) 0) 0

-- "the clocks asked for in all"
unfoldable pub asked : List ℕ → List Request → ℕ
asked counts [] = 0
asked counts (q ∷ qs) = asks counts q + asked counts qs

-- "all runs not refused share the sample memory"
abbrev pub Share : List ℕ → List ℕ → List Request → Type 0
Share memory counts [] = Unit {0}
Share memory counts (q ∷ qs) =
    (length q.memory ≡ 32768 → q.count ≤ 1_000_000 → counts_within dwell_limit counts ≡ true → q.memory ≡ memory) × Share memory counts qs

-- "the state, the clocks done in all and the records in order are exactly those of the plain reading"; "lent words after the last record stay"; "the
-- counts end as in the plain reading"
pub record ReadAs (words : List ℕ) (p : Progress (Beside State)) (o : Outcome) : Type 0 where
  pub state : o.state ≡ p.state.state
  pub counts : o.counts ≡ p.state.counts
  pub done : o.done ≡ p.done
  pub marks : o.marks ≡ p.marks
  pub size : length o.words ≡ length words
  pub rest : drop (2 * length p.marks) o.words ≡ drop (2 * length p.marks) words

-- DEMAND 3: every list, from any state in range and any table, with any sample memory and any lent words, is "the plain reading, which goes clock by clock
-- through the clocks asked for in all" (a memory of another length than 32,768 bytes is shared by no run: all are refused then)
abbrev pub ListPlain : Type 0
ListPlain =
    (memory : List ℕ) → Bytes memory → (requests : List Request) (s : State) → in_range s ≡ true → (counts : List ℕ) → Share memory counts requests → (words : List ℕ)
    → ReadAs words (plain (dwell_clockwork memory) (room_of words) (asked counts requests) (record { state = s; counts = counts })) (run_all requests s counts words)

-- the table that a list hands back, and so the one that any run of a list is given, is one that 13 refuses exactly where the first is
abbrev pub ListTables : Type 0
ListTables =
    (requests : List Request) (s : State) (counts words : List ℕ) → counts_within dwell_limit (run_all requests s counts words).counts ≡ counts_within dwell_limit counts

-- "the same state, clocks done and records", and the same counts
pub record Alike (o o' : Outcome) : Type 0 where
  pub state : o.state ≡ o'.state
  pub counts : o.counts ≡ o'.counts
  pub done : o.done ≡ o'.done
  pub marks : o.marks ≡ o'.marks

-- "two lists alike in first state, memory, room and clocks asked for in all end in the same state, clocks done and records"; "the first table is among
-- what two lists are alike in"
abbrev pub ListsAlike : Type 0
ListsAlike =
    (memory : List ℕ) → Bytes memory → (requests requests' : List Request) (s : State) → in_range s ≡ true → (counts : List ℕ)
    → Share memory counts requests → Share memory counts requests'
    → (words words' : List ℕ) → room_of words ≡ room_of words' → asked counts requests ≡ asked counts requests'
    → Alike (run_all requests s counts words) (run_all requests' s counts words')

-- two runs, the second from where the first left off, give what one does
pub record Splits (first second whole : Counted) (words₁ words₂ words : List ℕ) : Type 0 where
  pub number : second.ran.number ≡ whole.ran.number
  pub state : second.ran.state ≡ whole.ran.state
  pub counts : second.counts ≡ whole.counts
  pub done : first.ran.done + second.ran.done ≡ whole.ran.done
  pub records : first.ran.records + second.ran.records ≡ whole.ran.records
  pub marks :
      marks_of (words_written first.ran words₁) ++ map (raised first.ran.done) (marks_of (words_written second.ran words₂))
      ≡ marks_of (words_written whole.ran words)
  pub rest : words_behind second.ran words₂ ≡ words_behind whole.ran words

-- "Where a+b is at most 1,000,000, a run of a clocks and then one of b give what a+b gives at once."
abbrev pub Split : Type 0
Split =
    (memory : List ℕ) → Bytes memory → length memory ≡ 32768 → (s : State) → in_range s ≡ true → (counts words : List ℕ) (a b : ℕ) → a + b ≤ 1_000_000
    → let first = run_answer memory s counts a words in
    let words₁ = run_lent memory s counts a words in
    let behind = words_behind first.ran words₁ in
    Splits first (run_answer memory first.ran.state first.counts b behind) (run_answer memory s counts (a + b) words)
    words₁ (run_lent memory first.ran.state first.counts b behind) (run_lent memory s counts (a + b) words)

-- A portion of a wait by a run: its number, and its words as lines. Assumes nothing.
--
-- Main definitions: `ran_of`, what the run of a portion comes to, refused or not.
-- Main statements: `number_run`, `number_late`, `number_own`, a wait is refused by its run's own number, else by 9 where the clocks in all are too many;
-- `room_fits`, the room lent to the run is of so many records that all fit as lines; `portion_size`, a portion's text fits; `portion_all`, the run's words
-- as lines are the portion's text, and the step's answer is the portion's.
use Prim.Native.Nat.{ℕ, suc, ◌+◌, ◌-◌, ◌*◌, ◌/◌, ◌%◌, ◌≤◌, ◌<◌}
use mathlib.Core.Path.{◌≡◌, refl, sym, ap, ap₂, ◌∙◌}
use mathlib.Core.Bool.{Bool, true, false}
use mathlib.Core.List.{List, [], ◌∷◌, ◌++◌, map, append_assoc}
use native.Mathlib.Nat.{add-zero, sub-zero}
use native.Mathlib.Omega.{arith}
use lib.Dec.{eqb, leb, ltb}
use lib.ListN.{length, get_or, take, drop, length-append, take-append-drop}
use lib.Seq.{sets, length-take-le}
use borrow.Author.Tests.{ne_eqb, eqb-true, le-leb, lt-leb, leb-true, leb-false, ltb-true, ltb-false}
use Rattle.arith.specs.Pick.{pick}
use Rattle.reading.specs.Reading.{Mark, Progress, start}
use Rattle.run_answer.specs.declared.Ran.{Ran}
use Rattle.arith.specs.Over.{over}
use Rattle.run_answer.specs.Run.{chip_clockwork, room_of, flat, number, read_by, refusal, answered, uncounted_answer, uncounted_lent}
use Rattle.run_answer.proofs.WordLaws.{length_flat}
use Rattle.chip.specs.declared.State.{State}
use Rattle.chip.proofs.RangeLaws.{level_most}
use Rattle.play_text.specs.declared.Entry.{Entry}
use Rattle.play_text.specs.declared.Entry.TheVariants.{Level}
use Rattle.play_text.specs.Entries.{entries_text}
use Rattle.play_text.specs.Lines.{lines_in, lines_end}
use Rattle.play_levels.specs.Levels.{level_entries}
use Rattle.play_text.proofs.LineLaws.{lines_in_lem, lines_end_lem, lines_out, lines_stay}
use Rattle.play_text.proofs.TextLaws.{level_size, entries_none}
use Rattle.play_rules.specs.declared.Player.{Player}
use Rattle.play_rules.specs.Portion.{entry_at, last_of}
use Rattle.play_rules.specs.Turns.{player_of}
use Rattle.play_rules.proofs.RoomLaws.{Below, plain_most, plain_room, plain_below}
use Rattle.play_step.specs.declared.Taken.{Taken}
use Rattle.play_step.specs.Steps.{room_for, last_in, portion_of, portion_text, portion_taken, wait_number, halted, wait_taken, wait_text}

-- THE NUMBER OF A WAIT
module _ (memory : List ℕ) (p : Player) where
  -- its run's own, where the clocks in all are not too many
  pub number_run : p.time + p.wait ≤ 2000000000 → wait_number memory p ≡ number memory p.state p.wait
  unfolding wait_number
  number_run h = rw (le-leb (p.time + p.wait) 2000000000 h) (by (eqb (number memory p.state p.wait) 0) refl)
    where
      by : (t : Bool) → eqb (number memory p.state p.wait) 0 ≡ t → pick t 0 (number memory p.state p.wait) ≡ number memory p.state p.wait
      by true e = sym (eqb-true (number memory p.state p.wait) 0 e)
      by false e = refl

  -- where they are, its run's own, else 9
  pub number_late : 2000000000 < p.time + p.wait
      → wait_number memory p ≡ pick (eqb (number memory p.state p.wait) 0) 9 (number memory p.state p.wait)
  unfolding wait_number
  number_late h = rw (lt-leb (p.time + p.wait) 2000000000 h)

  -- one that refuses the run refuses the wait
  pub number_own : (n : ℕ) → number memory p.state p.wait ≡ suc n → wait_number memory p ≡ suc n
  unfolding wait_number
  number_own n e = rw (e, ne_eqb (suc n) 0 (λ z. omega arith))

  -- refused in either case
  pub late_refused : 2000000000 < p.time + p.wait → eqb (wait_number memory p) 0 ≡ false
  late_refused h = rw (number_late h) (by (eqb (number memory p.state p.wait) 0) refl)
    where
      by : (t : Bool) → eqb (number memory p.state p.wait) 0 ≡ t → eqb (pick t 9 (number memory p.state p.wait)) 0 ≡ false
      by true e = refl
      by false e = e

-- THE ROOM

pub room_fits : (size at : ℕ) → at ≤ size → at + 23 * room_for size at ≤ size
unfolding room_for
room_fits size at h = by (ltb ((size - at) / 23) 256) refl
  where
    by : (t : Bool) → ltb ((size - at) / 23) 256 ≡ t → at + 23 * pick t ((size - at) / 23) 256 ≤ size
    by true e = omega arith
    by false e = let l = ltb-false ((size - at) / 23) 256 e in omega arith

room_most : (size at : ℕ) → room_for size at ≤ 256
unfolding room_for
room_most size at = by (ltb ((size - at) / 23) 256) refl
  where
    by : (t : Bool) → ltb ((size - at) / 23) 256 ≡ t → pick t ((size - at) / 23) 256 ≤ 256
    by true e = let l = ltb-true ((size - at) / 23) 256 e in omega arith
    by false e = omega arith

pub room_low : (size at room : ℕ) → room ≡ room_for size at → room ≤ 256
room_low size at room e = rw e (room_most size at)

pub room_some : (size at : ℕ) → at + 23 ≤ size → 0 < room_for size at
unfolding room_for
room_some size at h = by (ltb ((size - at) / 23) 256)
  where
    by : (t : Bool) → 0 < pick t ((size - at) / 23) 256
    by true = omega arith
    by false = omega arith

pub room_none : (size at : ℕ) → size < at → room_for size at ≡ 0
unfolding room_for
room_none size at h = let e : (size - at) / 23 ≡ 0 = omega arith in rw e

-- THE RECORDS IN WORDS

words_entries : (t : ℕ) (ms : List Mark) (rest : List ℕ) → Below 32767 ms → level_entries t (length ms) (flat ms ++ rest) ≡ map (entry_at t) ms
unfolding level_entries flat
words_entries t [] rest h = refl
words_entries t (m ∷ ms) rest h =
    let low : m.level % 65536 ≡ m.level = (let l = h.0 in omega arith) in
    ap₂ (λ (k : ℕ) (l : List Entry). Level (t + m.clock) k ∷ l) low (words_entries t ms rest h.1)

words_last : (m : Mark) (ms : List Mark) (rest : List ℕ) → get_or (flat (m ∷ ms) ++ rest) (2 * length (m ∷ ms) - 1) 0 ≡ last_of m.level ms
unfolding last_of flat
words_last m [] rest = refl
words_last m (n ∷ ms) rest =
    let e : 2 * suc (suc (length ms)) - 1 ≡ suc (suc (2 * suc (length ms) - 1)) = omega arith in
    rw e (words_last n ms rest)

words_last_in : (last : ℕ) (ms : List Mark) (rest : List ℕ) → last_in last (length ms) (flat ms ++ rest) ≡ last_of last ms
unfolding last_of
words_last_in last [] rest = refl
words_last_in last (m ∷ ms) rest = rw (ne_eqb (suc (length ms)) 0 (λ z. omega arith)) (words_last m ms rest)

last_low : (last : ℕ) (ms : List Mark) → last ≤ 65535 → Below 32767 ms → last_of last ms ≤ 65535
unfolding last_of
last_low last [] h b = h
last_low last (m ∷ ms) h b = last_low m.level ms (let l = b.0 in omega arith) b.1

-- the lines of records whose levels are in range
marks_size : (t : ℕ) (ms : List Mark) → Below 32767 ms → length (entries_text (map (entry_at t) ms)) ≤ 23 * length ms
unfolding entries_text
marks_size t [] h = omega arith
marks_size t (m ∷ ms) h =
    let one = level_size (t + m.clock) m.level (let l = h.0 in omega arith) in
    let rest = marks_size t ms h.1 in
    rw length-append (omega arith)

-- what the run of a portion comes to: where it is refused, nothing
unfoldable ran_of : List ℕ → ℕ → Player → Progress State
ran_of memory room p = pick (eqb (number memory p.state p.wait) 0) (portion_of memory room p) (start room p.state)

-- A PORTION, REFUSED OR NOT
module _ (memory : List ℕ) (room : ℕ) (p : Player) where
  abbrev R : Progress State
  R = ran_of memory room p

  portion_few : length R.marks ≤ room
  unfolding ran_of
  portion_few = by (eqb (number memory p.state p.wait) 0)
    where
      by : (t : Bool) → length (pick t (portion_of memory room p) (start room p.state)).marks ≤ room
      by true = let q = plain_room (chip_clockwork memory) room p.wait p.state in omega arith
      by false = omega arith

  portion_below : Below 32767 R.marks
  unfolding ran_of
  portion_below = by (eqb (number memory p.state p.wait) 0)
    where
      by : (t : Bool) → Below 32767 (pick t (portion_of memory room p) (start room p.state)).marks
      by true = plain_below (chip_clockwork memory) room p.wait p.state 32767 level_most
      by false = tt

  portion_most : R.done ≤ p.wait
  unfolding ran_of
  portion_most = by (eqb (number memory p.state p.wait) 0)
    where
      by : (t : Bool) → (pick t (portion_of memory room p) (start room p.state)).done ≤ p.wait
      by true = plain_most (chip_clockwork memory) room p.wait p.state
      by false = omega arith

-- a portion that isn't refused fits
pub portion_size : (memory : List ℕ) (p : Player) (room size at : ℕ) → at + 23 * room ≤ size
    → at + length (portion_text p (portion_of memory room p)) ≤ size
portion_size memory p room size at h =
    let a = marks_size p.time (portion_of memory room p).marks (plain_below (chip_clockwork memory) room p.wait p.state 32767 level_most) in
    let q = plain_room (chip_clockwork memory) room p.wait p.state in
    omega arith

-- WHAT A RUN OF A WAIT BRINGS, over the first words of 512
module _ (memory : List ℕ) (p : Player) (at : ℕ) (out words : List ℕ) (long : length words ≡ 512) (room : ℕ) (is : room ≡ room_for (length out) at)
    (ran : Ran) (e : ran ≡ uncounted_answer memory p.state p.wait (take (2 * room) words)) (after : List ℕ)
    (l : after ≡ uncounted_lent memory p.state p.wait (take (2 * room) words) ++ drop (2 * room) words) where
  abbrev S : Progress State
  S = ran_of memory room p

  abbrev P : Progress State
  P = portion_of memory room p

  abbrev N : ℕ
  N = number memory p.state p.wait

  abbrev test : Bool
  test = eqb N 0

  room_is : room_of (take (2 * room) words) ≡ room
  room_is = let n = length-take-le (2 * room) words (let h = room_low (length out) at room is in omega arith) in omega arith

  ran_is : ran ≡ record { number = N; state = S.state; done = S.done; records = length S.marks }
  unfolding uncounted_answer answered read_by ran_of
  ran_is = e ∙ rw room_is (by test refl)
    where
      by : (t : Bool) → test ≡ t
          → pick t (record { number = 0; state = P.state; done = P.done; records = length P.marks }) (refusal N p.state)
          ≡ record { number = N; state = (pick t P (start room p.state)).state; done = (pick t P (start room p.state)).done; records = length (pick t P (start room p.state)).marks }
      by true h = rw (eqb-true N 0 h)
      by false h = refl

  records_are : ran.records ≡ length S.marks
  records_are = ap (λ (r : Ran). r.records) ran_is

  -- the records, and words behind them
  split : (t : Bool) → (x : List ℕ)
      × (pick t (flat P.marks ++ drop (length (flat P.marks)) (take (2 * room) words)) (take (2 * room) words) ++ drop (2 * room) words
      ≡ flat (pick t P (start room p.state)).marks ++ x)
  unfolding flat
  split true = (
    drop (length (flat P.marks)) (take (2 * room) words) ++ drop (2 * room) words,
    append_assoc (flat P.marks) (drop (length (flat P.marks)) (take (2 * room) words)) (drop (2 * room) words),
  )
  split false = (words, take-append-drop (2 * room) words)

  after_is : after ≡ flat S.marks ++ (split test).0
  unfolding uncounted_lent read_by over ran_of
  after_is = l ∙ rw room_is (split test).1

  entries_are : level_entries p.time ran.records after ≡ map (entry_at p.time) S.marks
  entries_are = rw (records_are, after_is) (words_entries p.time S.marks (split test).0 (portion_below memory room p))

  last_is : (last : ℕ) → last_in last ran.records after ≡ last_of last S.marks
  last_is last = rw (records_are, after_is) (words_last_in last S.marks (split test).0)

  pub portion_long : 2 * ran.records ≤ length after
  portion_long =
      let a = ap length after_is ∙ length-append (flat S.marks) (split test).0 in
      let b = length_flat S.marks in
      let c = records_are in
      omega arith

  pub portion_low : 0 < ran.records → get_or after (2 * ran.records - 1) 0 ≤ 65535
  portion_low some =
      let low : last_in 0 ran.records after ≤ 65535 = rw (last_is 0) (last_low 0 S.marks (omega arith) (portion_below memory room p)) in
      rw (ne_eqb ran.records 0 (λ z. omega arith)) at low

  pub portion_done : ran.done ≤ p.wait
  portion_done = rw ran_is (portion_most memory room p)

  -- the lines, written or none
  lines_are : (lines_in out at ran.records (portion_text p S) ≡ sets out at (portion_text p S)) × (lines_end out at ran.records (portion_text p S) ≡ at + length (portion_text p S))
  lines_are = by (leb at (length out)) refl
    where
      few : length S.marks ≤ room
      few = portion_few memory room p

      empty : (ms : List Mark) → length ms ≡ 0 → entries_text (map (entry_at p.time) ms) ≡ []
      empty [] h = entries_none
      empty (m ∷ ms) h = absurd (omega arith)

      by : (t : Bool) → leb at (length out) ≡ t
          → (lines_in out at ran.records (portion_text p S) ≡ sets out at (portion_text p S)) × (lines_end out at ran.records (portion_text p S) ≡ at + length (portion_text p S))
      by true h =
          let a = leb-true at (length out) h in
          let f = few in
          let r = records_are in
          let b = room_fits (length out) at a in
          let c : at + 23 * ran.records ≤ length out = omega arith in
          (lines_in_lem out at ran.records (portion_text p S) c, lines_end_lem out at ran.records (portion_text p S) c)
      by false h =
          let a = leb-false at (length out) h in
          let f = few in
          let n = is ∙ room_none (length out) at a in
          let z : length S.marks ≡ 0 = omega arith in
          let none = empty S.marks z in
          let c : leb (at + 23 * ran.records) (length out) ≡ false = lt-leb (at + 23 * ran.records) (length out) (omega arith) in
          rw none (lines_out out at ran.records [] c, lines_stay out at ran.records [] c ∙ sym (add-zero at))

  -- what is taken by the run's number
  taken_is : p.time + p.wait ≤ 2000000000
      → ◌≡◌ {A = Taken} (record { kind = pick test 0 2; number = N; place = 0; player = player_of p.phase (p.wait - S.done) (p.time + S.done) (last_of p.last S.marks) S.state p.cursor; at = at + length (portion_text p S) })
      (wait_taken memory room p at)
  unfolding wait_taken ran_of last_of
  taken_is h = rw (number_run memory p h) (by test refl)
    where
      by : (t : Bool) → test ≡ t
          → ◌≡◌ {A = Taken} (record { kind = pick t 0 2; number = N; place = 0; player = player_of p.phase (p.wait - (pick t P (start room p.state)).done) (p.time + (pick t P (start room p.state)).done) (last_of p.last (pick t P (start room p.state)).marks) (pick t P (start room p.state)).state p.cursor; at = at + length (portion_text p (pick t P (start room p.state))) })
          (pick t (portion_taken p at P) (halted N p at))
      by true e = rw (eqb-true N 0 e)
      by false e = rw (entries_none, add-zero p.time, add-zero at, sub-zero p.wait) refl

  text_is : p.time + p.wait ≤ 2000000000 → portion_text p S ≡ wait_text memory room p
  unfolding wait_text ran_of
  text_is h = rw (number_run memory p h) (by test)
    where
      by : (t : Bool) → portion_text p (pick t P (start room p.state)) ≡ pick t (portion_text p P) []
      by true = refl
      by false = entries_none

  pub portion_all : p.time + p.wait ≤ 2000000000 → (r : Taken)
      → r ≡ record { kind = pick (eqb ran.number 0) 0 2; number = ran.number; place = 0; player = player_of p.phase (p.wait - ran.done) (p.time + ran.done) (last_in p.last ran.records after) ran.state p.cursor; at = lines_end out at ran.records (entries_text (level_entries p.time ran.records after)) }
      → (out' : List ℕ) → out' ≡ lines_in out at ran.records (entries_text (level_entries p.time ran.records after))
      → (r ≡ wait_taken memory room p at) × (out' ≡ sets out at (wait_text memory room p))
  portion_all h r q out' b =
      let q' = rw (entries_are, last_is p.last, lines_are.1) at q in
      let b' = rw (entries_are, lines_are.0) at b in
      (q' ∙ rw ran_is (taken_is h), rw (← text_is h) b')

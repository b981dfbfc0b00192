-- Demand 3: any list of runs is the plain reading of the clocks asked for in all. Assumes nothing.
--
-- Main definitions: `Refused` and `Done`, the two ways in which one run of a list ends. The statements themselves are in specs/Lists.
-- Main statements: `list_plain`, every list of runs, refused ones included, ends as the plain reading of the clocks asked for in all; `list_tables`, it
-- hands back a table that 13 refuses exactly where it refuses the first; `lists_alike`, two lists alike end alike; `split`, a run of a clocks and one of b
-- give what a run of a + b gives. The way there: `either`, a run is refused or reads plainly; `read_on`, two readings one behind the other are one;
-- `listed`, by induction over the list.
use Prim.Native.Nat.{ℕ, ◌+◌, ◌*◌, ◌≤◌}
use mathlib.Core.Path.{◌≡◌, refl, sym, ap, ap₂, ◌∙◌}
use mathlib.Core.Logic.{◌≢◌, ◌⊎◌, inl, inr, ⊎_elim}
use mathlib.Core.Bool.{Bool, true, false}
use mathlib.Core.List.{List, [], ◌∷◌, ◌++◌, map}
use native.Mathlib.Nat.{zero-add}
use native.Mathlib.Omega.{arith}
use lib.Dec.{leb, eqb}
use lib.ListN.{length, drop, length-append, length-drop, length-map}
use lib.Seq.{take_at, drop_at, drop-drop, drop-append-add}
use borrow.Author.Tests.{eqb-true, eqb-false, leb-true, leb-false}
use Rattle.reading.specs.Reading.{Mark, Progress, raised, start, reading, plain}
use Rattle.reading.proofs.ReadingLaws.{later, reading_keeps, reading_room, reading_on}
use Rattle.chip.specs.Range.{in_range, Bytes}
use Rattle.chip.specs.declared.State.{State}
use Rattle.chip.proofs.RangeLaws.{StateRanged, state_in_lem, state_back, clock_kept}
use Rattle.chip_api.specs.Answer.{is_memory}
use Rattle.reading.specs.Counting.{Beside}
use Rattle.arith.specs.Over.{over}
use Rattle.run_answer.specs.Run.{number, room_of, flat}
use Rattle.run_lists.specs.Lists.{Request, Outcome, marks_of, words_written, words_behind, joined, run_all, asks, asked, Share, ReadAs, ListPlain, ListTables, ListsAlike, Splits, Split}
use Rattle.run_answer.specs.declared.Ran.{Ran}
use Rattle.run_answer.proofs.AnswerLaws as without
use Rattle.run_dwell.specs.Dwell.{dwell_limit, dwell_clockwork, counts_within, dwell_number, dwell_by, dwell_refusal, run_answered, run_answer, run_lent}
use Rattle.run_dwell.specs.declared.Counted.{Counted}
use Rattle.run_dwell.proofs.DwellLaws.{number_first, number_none, number_thirteen, number_right, dwell_refused, dwell_worked, dwell_within}
use Rattle.run_answer.proofs.WordLaws.{length_flat}

-- RECORDS AS WORDS

-- words that were written from records are read back as those records
marks_flat : (ms : List Mark) → marks_of (flat ms) ≡ ms
unfolding marks_of flat
marks_flat [] = refl
marks_flat (m ∷ ms) = ap (λ (l : List Mark). m ∷ l) (marks_flat ms)

raised_zero : (ms : List Mark) → map (raised 0) ms ≡ ms
raised_zero [] = refl
raised_zero (m ∷ ms) = ap₂ (λ (k : ℕ) (l : List Mark). record { clock = k; level = m.level } ∷ l) (zero-add m.clock) (raised_zero ms)

-- the answer of a run that reads p, and the words it leaves
abbrev ran_of : Progress (Beside State) → Ran
ran_of p = record { number = 0; state = p.state.state; done = p.done; records = length p.marks }

abbrev counted_of : Progress (Beside State) → Counted
counted_of p = record { ran = ran_of p; counts = p.state.counts }

module _ (p : Progress (Beside State)) (words : List ℕ) where
  front : words_written (ran_of p) (over (flat p.marks) words) ≡ flat p.marks
  unfolding over
  front = take_at (flat p.marks) _ _ (length_flat p.marks)

  back : words_behind (ran_of p) (over (flat p.marks) words) ≡ drop (2 * length p.marks) words
  unfolding over
  back = drop_at (flat p.marks) _ _ (length_flat p.marks) ∙ ap (λ (k : ℕ). drop k words) (length_flat p.marks)

-- READINGS ONE BEHIND THE OTHER

-- a reading leaves its room: that of the words behind its records
room_left : (memory : List ℕ) (s : State) (counts : List ℕ) (count : ℕ) (words : List ℕ)
    → let p = dwell_by memory s counts count words in
    (room_of (drop (2 * length p.marks) words) ≡ p.room) × (2 * length p.marks ≤ length words)
unfolding dwell_by plain
room_left memory s counts count words =
    let t : Beside State = record { state = s; counts = counts } in
    let p = reading (dwell_clockwork memory) count (start (room_of words) t) in
    let r = reading_room (dwell_clockwork memory) count (start (room_of words) t) in
    let d = length-drop (2 * length p.marks) words in
    (omega (arith, r, d), omega (arith, r))

-- a + b clocks, by two runs
read_on : (memory : List ℕ) (s : State) (counts words : List ℕ) (a b : ℕ)
    → let p = dwell_by memory s counts a words in
    dwell_by memory s counts (a + b) words ≡ later p.done p.marks (dwell_by memory p.state.state p.state.counts b (drop (2 * length p.marks) words))
unfolding dwell_by plain
read_on memory s counts words a b =
    let t : Beside State = record { state = s; counts = counts } in
    let p = reading (dwell_clockwork memory) a (start (room_of words) t) in
    reading_on (dwell_clockwork memory) a b (start (room_of words) t)
    ∙ ap (λ (k : ℕ). later p.done p.marks (reading (dwell_clockwork memory) b (start k p.state))) (sym (room_left memory s counts a words).0)

-- the state that a reading leaves is in range
read_kept : (memory : List ℕ) → Bytes memory → (s : State) → StateRanged s → (counts : List ℕ) (count : ℕ) (words : List ℕ)
    → StateRanged (dwell_by memory s counts count words).state.state
unfolding dwell_by plain
read_kept memory bytes s r counts count words =
    reading_keeps (dwell_clockwork memory) (λ t. StateRanged t.state) (λ t h. clock_kept memory bytes t.state h) count (start (room_of words) (record { state = s; counts = counts })) r

-- ONE RUN OF THE LIST

-- a run that is not refused
ran : (memory : List ℕ) (s : State) (counts : List ℕ) (count : ℕ) (words : List ℕ) → dwell_number memory s counts count ≡ 0
    → let p = dwell_by memory s counts count words in
    (run_answer memory s counts count words ≡ counted_of p) × (run_lent memory s counts count words ≡ over (flat p.marks) words)
unfolding run_answered
ran memory s counts count words z =
    let w = dwell_worked memory s counts count words z _ _ refl refl in (sym w.0, sym w.1)

-- and one that is
not_ran : (memory : List ℕ) (s : State) (counts : List ℕ) (count : ℕ) (words : List ℕ) (n : ℕ) → n ≢ 0 → n ≡ dwell_number memory s counts count
    → (run_answer memory s counts count words ≡ dwell_refusal n s counts) × (run_lent memory s counts count words ≡ words)
not_ran memory s counts count words n h e =
    let w = dwell_refused memory s counts count words n h e in (sym w.0, sym w.1)

-- one run of the list: refused, or the plain reading from its state
Refused : List ℕ → Request → State → List ℕ → Type 0
Refused counts q s words =
    (n : ℕ) × (asks counts q ≡ 0) × (run_answer q.memory s counts q.count words ≡ dwell_refusal n s counts) × (run_lent q.memory s counts q.count words ≡ words)

Done : List ℕ → List ℕ → Request → State → List ℕ → Type 0
Done memory counts q s words =
    let p = dwell_by memory s counts q.count words in
    (asks counts q ≡ q.count)
    × (run_answer q.memory s counts q.count words ≡ counted_of p)
    × (run_lent q.memory s counts q.count words ≡ over (flat p.marks) words)
    × (counts_within dwell_limit p.state.counts ≡ counts_within dwell_limit counts)

either : (memory : List ℕ) (q : Request) (s : State) (counts words : List ℕ) → StateRanged s
    → (length q.memory ≡ 32768 → q.count ≤ 1_000_000 → counts_within dwell_limit counts ≡ true → q.memory ≡ memory)
    → Refused counts q s words ⊎ Done memory counts q s words
unfolding Refused Done asks
either memory q s counts words r share = go (is_memory q.memory) (leb q.count 1_000_000) (counts_within dwell_limit counts) refl refl refl
  where
    go : (t u v : Bool) → is_memory q.memory ≡ t → leb q.count 1_000_000 ≡ u → counts_within dwell_limit counts ≡ v
        → Refused counts q s words ⊎ Done memory counts q s words
    go false u v e f g =
        let z = not_ran q.memory s counts q.count words 1 (omega arith)
        (number_first q.memory s counts q.count 1 (omega arith) (sym (without.number_one q.memory s q.count (eqb-false _ _ e)))) in
        inl (1, rw e, z.0, z.1)
    go true false v e f g =
        let z = not_ran q.memory s counts q.count words 3 (omega arith)
        (number_first q.memory s counts q.count 3 (omega arith) (sym (without.number_three q.memory s q.count (eqb-true _ _ e) (state_back s r) (leb-false _ _ f)))) in
        inl (3, rw (e, f), z.0, z.1)
    go true true false e f g =
        let z = not_ran q.memory s counts q.count words 13 (omega arith)
        (sym (number_thirteen q.memory s counts q.count (without.number_none q.memory s q.count (eqb-true _ _ e) (state_back s r) (leb-true _ _ f)) g)) in
        inl (13, rw (e, f, g), z.0, z.1)
    go true true true e f g =
        let m : q.memory ≡ memory = share (eqb-true _ _ e) (leb-true _ _ f) g in
        let z = ran q.memory s counts q.count words
        (number_none q.memory s counts q.count (without.number_none q.memory s q.count (eqb-true _ _ e) (state_back s r) (leb-true _ _ f)) g) in
        inr (rw (e, f, g), rw (← m) z.0, rw (← m) z.1, dwell_within memory s counts q.count words g ∙ sym g)

-- A RUN AND THE REST OF THE LIST

-- a refused run changes nothing
joined_refused : (n : ℕ) (s : State) (counts words : List ℕ) (rest : State → List ℕ → List ℕ → Outcome)
    → joined (dwell_refusal n s counts) words rest ≡ rest s counts words
unfolding joined marks_of
joined_refused n s counts words rest = rw (zero-add, raised_zero)

-- a run that reads p, and a rest that reads q from there
joined_done : (words : List ℕ) (p q : Progress (Beside State)) (rest : State → List ℕ → List ℕ → Outcome) → 2 * length p.marks ≤ length words
    → ReadAs (drop (2 * length p.marks) words) q (rest p.state.state p.state.counts (drop (2 * length p.marks) words))
    → ReadAs words (later p.done p.marks q) (joined (counted_of p) (over (flat p.marks) words) rest)
unfolding joined
joined_done words p q rest fits h =
    rw (front p words, back p words)
    (record {
      state = h.state;
      counts = h.counts;
      done = ap (λ (k : ℕ). p.done + k) h.done;
      marks = ap₂ (λ (a b : List Mark). a ++ map (raised p.done) b) (marks_flat p.marks) h.marks;
      size = length-append (flat p.marks) _ ∙ omega (arith, len, h.size, length-drop (2 * length p.marks) words);
      rest =
          rw long
          (drop-append-add (flat p.marks) (rest p.state.state p.state.counts (drop (2 * length p.marks) words)).words (2 * length q.marks)
          ∙ h.rest
          ∙ drop-drop (2 * length q.marks) (2 * length p.marks) words
          ∙ ap (λ (k : ℕ). drop (k + 2 * length q.marks) words) (sym len));
    })
  where
    len : length (flat p.marks) ≡ 2 * length p.marks
    len = length_flat p.marks

    long : 2 * length (p.marks ++ map (raised p.done) q.marks) ≡ length (flat p.marks) + 2 * length q.marks
    long = omega (arith, len, length-append p.marks (map (raised p.done) q.marks), length-map q.marks (raised p.done))

-- an empty list
read_none : (memory : List ℕ) (s : State) (counts words : List ℕ)
    → ReadAs words (dwell_by memory s counts 0 words) (record { state = s; counts = counts; done = 0; marks = []; words = words })
unfolding dwell_by plain reading
read_none memory s counts words = record { state = refl; counts = refl; done = refl; marks = refl; size = refl; rest = refl }

-- what is asked for and shared goes by the table only as far as 13 does
asked_alike : (counts counts' : List ℕ) → counts_within dwell_limit counts' ≡ counts_within dwell_limit counts → (requests : List Request) → asked counts' requests ≡ asked counts requests
unfolding asked asks
asked_alike counts counts' e [] = refl
asked_alike counts counts' e (q ∷ qs) = rw (e, asked_alike counts counts' e qs) refl

share_alike : (memory counts counts' : List ℕ) → counts_within dwell_limit counts' ≡ counts_within dwell_limit counts → (requests : List Request)
    → Share memory counts requests → Share memory counts' requests
share_alike memory counts counts' e [] h = tt
share_alike memory counts counts' e (q ∷ qs) h = (λ a b c. h.0 a b (sym e ∙ c), share_alike memory counts counts' e qs h.1)

listed : (memory : List ℕ) → Bytes memory → (requests : List Request) (s : State) → StateRanged s → (counts : List ℕ) → Share memory counts requests → (words : List ℕ)
    → ReadAs words (dwell_by memory s counts (asked counts requests) words) (run_all requests s counts words)
unfolding run_all asked Refused Done
listed memory bytes [] s r counts share words = read_none memory s counts words
listed memory bytes (q ∷ qs) s r counts share words =
    ⊎_elim
    (λ w. rw (w.1, w.2, w.3, zero-add, joined_refused w.0 s counts words (run_all qs)) (listed memory bytes qs s r counts share.1 words))
    (λ w.
    let p = dwell_by memory s counts q.count words in
    let behind = drop (2 * length p.marks) words in
    rw (w.0, w.1, w.2, read_on memory s counts words q.count (asked counts qs), ← asked_alike counts p.state.counts w.3 qs)
    (joined_done words p (dwell_by memory p.state.state p.state.counts (asked p.state.counts qs) behind) (run_all qs) (room_left memory s counts q.count words).1
    (listed memory bytes qs p.state.state (read_kept memory bytes s r counts q.count words) p.state.counts
    (share_alike memory counts p.state.counts w.3 qs share.1) behind)))
    (either memory q s counts words r share.0)

-- DEMAND 3
pub list_plain : ListPlain
unfolding dwell_by
list_plain memory bytes requests s r counts share words = listed memory bytes requests s (state_in_lem s r) counts share words

-- a run hands back a table that 13 refuses exactly where it refuses the one given
run_table : (memory : List ℕ) (s : State) (counts : List ℕ) (count : ℕ) (words : List ℕ)
    → counts_within dwell_limit (run_answer memory s counts count words).counts ≡ counts_within dwell_limit counts
run_table memory s counts count words = go (dwell_number memory s counts count) refl (eqb (dwell_number memory s counts count) 0) refl
  where
    go : (n : ℕ) → dwell_number memory s counts count ≡ n → (t : Bool) → eqb (dwell_number memory s counts count) 0 ≡ t
        → counts_within dwell_limit (run_answer memory s counts count words).counts ≡ counts_within dwell_limit counts
    go n e true z =
        let right = number_right memory s counts count (eqb-true _ _ z) in
        rw (ran memory s counts count words (eqb-true _ _ z)).0 (dwell_within memory s counts count words right.1 ∙ sym right.1)
    go n e false z = rw (not_ran memory s counts count words n (λ q. eqb-false _ _ z (e ∙ q)) (sym e)).0 refl

pub list_tables : ListTables
unfolding run_all joined
list_tables [] s counts words = refl
list_tables (q ∷ qs) s counts words =
    let c = run_answer q.memory s counts q.count words in
    list_tables qs c.ran.state c.counts (words_behind c.ran (run_lent q.memory s counts q.count words))
    ∙ run_table q.memory s counts q.count words

-- and so two lists alike end alike
pub lists_alike : ListsAlike
lists_alike memory bytes requests requests' s r counts share share' words words' room all =
    let a = list_plain memory bytes requests s r counts share words in
    let b = list_plain memory bytes requests' s r counts share' words' in
    record {
      state = rw (a.state, b.state, room, all);
      counts = rw (a.counts, b.counts, room, all);
      done = rw (a.done, b.done, room, all);
      marks = rw (a.marks, b.marks, room, all);
    }

-- two readings, the second from where the first left off
split_read : (p q : Progress (Beside State)) (words : List ℕ)
    → Splits (counted_of p) (counted_of q) (counted_of (later p.done p.marks q))
    (over (flat p.marks) words) (over (flat q.marks) (drop (2 * length p.marks) words)) (over (flat (later p.done p.marks q).marks) words)
split_read p q words =
    let whole = later p.done p.marks q in
    let long : 2 * length p.marks + 2 * length q.marks ≡ 2 * length whole.marks =
    omega (arith, length-append p.marks (map (raised p.done) q.marks), length-map q.marks (raised p.done))
    in
    record {
      number = refl;
      state = refl;
      counts = refl;
      done = refl;
      records = omega (arith, long);
      marks =
          ap₂ (λ (a b : List Mark). a ++ map (raised p.done) b)
          (ap marks_of (front p words) ∙ marks_flat p.marks)
          (ap marks_of (front q (drop (2 * length p.marks) words)) ∙ marks_flat q.marks)
          ∙ sym (ap marks_of (front whole words) ∙ marks_flat whole.marks);
      rest =
          back q (drop (2 * length p.marks) words)
          ∙ drop-drop (2 * length q.marks) (2 * length p.marks) words
          ∙ ap (λ (k : ℕ). drop k words) long
          ∙ sym (back whole words);
    }

-- where 13 refuses the table, both and the one at once are refused
split_refused : (n : ℕ) (s : State) (counts words : List ℕ) → Splits (dwell_refusal n s counts) (dwell_refusal n s counts) (dwell_refusal n s counts) words words words
unfolding marks_of
split_refused n s counts words = record { number = refl; state = refl; counts = refl; done = refl; records = refl; marks = refl; rest = refl }

-- A RUN OF a CLOCKS, THEN ONE OF b, IS ONE OF a + b
pub split : Split
split memory bytes size s r counts words a b fits = go (counts_within dwell_limit counts) refl
  where
    fine : (count : ℕ) (x : State) → in_range x ≡ true → count ≤ 1_000_000 → number memory x count ≡ 0
    fine count x h m = without.number_none memory x count size h m

    none : (count : ℕ) → count ≤ 1_000_000 → counts_within dwell_limit counts ≡ false
        → (run_answer memory s counts count words ≡ dwell_refusal 13 s counts) × (run_lent memory s counts count words ≡ words)
    none count m e = not_ran memory s counts count words 13 (omega arith) (sym (number_thirteen memory s counts count (fine count s r m) e))

    go : (t : Bool) → counts_within dwell_limit counts ≡ t
        → let first = run_answer memory s counts a words in
        let words₁ = run_lent memory s counts a words in
        let behind = words_behind first.ran words₁ in
        Splits first (run_answer memory first.ran.state first.counts b behind) (run_answer memory s counts (a + b) words)
        words₁ (run_lent memory first.ran.state first.counts b behind) (run_lent memory s counts (a + b) words)
    go true e =
        let p = dwell_by memory s counts a words in
        let rest = drop (2 * length p.marks) words in
        let first = ran memory s counts a words (number_none memory s counts a (fine a s r (omega arith)) e) in
        let second = ran memory p.state.state p.state.counts b rest
        (number_none memory p.state.state p.state.counts b (fine b _ (state_back _ (read_kept memory bytes s (state_in_lem s r) counts a words)) (omega arith)) (dwell_within memory s counts a words e)) in
        let whole = ran memory s counts (a + b) words (number_none memory s counts (a + b) (fine (a + b) s r fits) e) in
        rw (whole.0, whole.1, first.0, first.1, back p words, second.0, second.1, read_on memory s counts words a b)
        (split_read p (dwell_by memory p.state.state p.state.counts b rest) words)
    go false e =
        let first = none a (omega arith) e in
        let second = none b (omega arith) e in
        let whole = none (a + b) fits e in
        rw (whole.0, whole.1, first.0, first.1, second.0, second.1) (split_refused 13 s counts words)

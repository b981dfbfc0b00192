-- A run's answer with its table: by its number, and by a run without counts. Assumes nothing.
use Prim.Native.Nat.{ℕ, ◌+◌, ◌≤◌, ◌<◌}
use mathlib.Core.Path.{◌≡◌, refl, sym, ap, ◌∙◌}
use mathlib.Core.Bool.{Bool, true, false}
use mathlib.Core.Logic.{◌≢◌}
use mathlib.Core.List.{List}
use native.Mathlib.Nat.{add-zero}
use native.Mathlib.Omega.{arith}
use lib.Dec.{eqb}
use lib.ListN.{length, get_or}
use borrow.Author.Tests.{ne_eqb, eqb-true, eqb-false}
use Rattle.arith.specs.Pick.{pick}
use Rattle.arith.proofs.IterateLaws.{iterate_keeps}
use Rattle.reading.specs.Reading.{Progress, start, plain}
use Rattle.reading.specs.Counting.{Beside, sum, dwelt}
use Rattle.reading.proofs.ReadingLaws.{reading_done, plain_went}
use Rattle.reading.proofs.CountingLaws.{Most, tallied, Free, Full, free_few, free_less, besides, viewed, plain_within, sum_tallied, dwelt_none, tallied_dwelt, counting_times, plain_free, plain_full}
use Rattle.chip.specs.Clock.{chip_clock}
use Rattle.chip.specs.Level.{state_level}
use Rattle.chip.specs.Range.{Bytes}
use Rattle.chip.specs.declared.State.{State}
use Rattle.chip.proofs.RangeLaws.{StateRanged, state_in_lem, clock_kept}
use Rattle.arith.specs.Over.{over}
use Rattle.run_answer.specs.Run.{chip_clockwork, room_of, number, flat, read_by, answered}
use Rattle.run_answer.specs.declared.Ran.{Ran}
use Rattle.run_answer.proofs.AnswerLaws.{number_fine}
use Rattle.run_dwell.specs.Dwell.{dwell_limit, dwell_place, dwell_clockwork, counts_within, dwell_number, dwell_by, dwell_refusal, run_answered, run_answer, run_lent, CountsRaised}
use Rattle.run_dwell.specs.Kept.{dwell_places}
use Rattle.run_dwell.specs.declared.Counted.{Counted}
use Rattle.run_dwell.proofs.WithinLaws.{within_most, within_all}

-- BY ITS NUMBER
module _ (memory : List ℕ) (s : State) (counts : List ℕ) (count : ℕ) where
  pub number_first : (n : ℕ) → n ≢ 0 → n ≡ number memory s count → n ≡ dwell_number memory s counts count
  unfolding dwell_number
  number_first n h e = rw (← e, ne_eqb n 0 h)

  pub number_none : number memory s count ≡ 0 → counts_within dwell_limit counts ≡ true → dwell_number memory s counts count ≡ 0
  unfolding dwell_number
  number_none e w = rw (e, w)

  pub number_thirteen : number memory s count ≡ 0 → counts_within dwell_limit counts ≡ false → dwell_number memory s counts count ≡ 13
  unfolding dwell_number
  number_thirteen e w = rw (e, w)

  -- what number 0 says of a run
  pub number_right : dwell_number memory s counts count ≡ 0 → (number memory s count ≡ 0) × (counts_within dwell_limit counts ≡ true)
  unfolding dwell_number
  number_right e = go (number memory s count) refl (eqb (number memory s count) 0) refl (counts_within dwell_limit counts) refl e
    where
      go : (n : ℕ) → number memory s count ≡ n → (t : Bool) → eqb (number memory s count) 0 ≡ t → (u : Bool) → counts_within dwell_limit counts ≡ u
          → pick t (pick u 0 13) n ≡ 0 → (number memory s count ≡ 0) × (counts_within dwell_limit counts ≡ true)
      go n a true b true d z = (eqb-true _ _ b, d)
      go n a true b false d z = absurd (let y : ◌≡◌ {A = ℕ} 13 0 = z in omega arith)
      go n a false b u d z = absurd (eqb-false _ _ b (a ∙ z))

  module _ (words : List ℕ) where
    -- a run that is refused
    pub dwell_refused : (n : ℕ) → n ≢ 0 → n ≡ dwell_number memory s counts count
        → (dwell_refusal n s counts ≡ run_answer memory s counts count words) × (words ≡ run_lent memory s counts count words)
    unfolding run_answer run_answered run_lent
    dwell_refused n h e = rw (← e, ne_eqb n 0 h) (refl, refl)

    -- a run that is not: its reading
    pub dwell_worked : dwell_number memory s counts count ≡ 0 → (r : Counted) (after : List ℕ)
        → r ≡ run_answered 0 s counts (dwell_by memory s counts count words) → after ≡ over (flat (dwell_by memory s counts count words).marks) words
        → (r ≡ run_answer memory s counts count words) × (after ≡ run_lent memory s counts count words)
    unfolding run_answer run_lent
    dwell_worked e r after a l = rw e (a, l)

    -- BY A RUN WITHOUT COUNTS

    -- what a run of k clocks without counts gives, with the counts of its clocks
    unfoldable pub Given : ℕ → Ran → List ℕ → List ℕ → Type 0
    Given k ran table after =
        (ran ≡ answered 0 s (read_by memory s k words)) × (after ≡ over (flat (read_by memory s k words).marks) words)
        × (table ≡ tallied (dwell_places memory s) ran.done counts)

    -- is what a run with counts gives
    unfoldable pub Owed : Ran → List ℕ → List ℕ → Type 0
    Owed ran table after =
        (record { ran = ran; counts = table } ≡ run_answered 0 s counts (dwell_by memory s counts count words))
        × (after ≡ over (flat (dwell_by memory s counts count words).marks) words)

    owed_by : (p : Progress State) → dwell_by memory s counts count words ≡ besides (chip_clock memory) dwell_place state_level dwell_limit s counts p
        → (ran : Ran) (table after : List ℕ) → ran ≡ answered 0 s p → after ≡ over (flat p.marks) words
        → table ≡ tallied (dwell_places memory s) ran.done counts → Owed ran table after
    unfolding Owed run_answered answered
    owed_by p e ran table after a l t =
        let d : ran.done ≡ p.done = ap (λ (r : Ran). r.done) a in
        (rw (e, t, d, a) refl, rw e l)

    -- where no count stops one of its clocks
    pub owed_free : (ran : Ran) (table after : List ℕ) → Given count ran table after → Free dwell_limit (dwell_places memory s) ran.done counts → Owed ran table after
    unfolding Given dwell_by read_by answered
    owed_free ran table after (a, l, t) f =
        let d : ran.done ≡ (plain (chip_clockwork memory) (room_of words) count s).done = ap (λ (r : Ran). r.done) a in
        owed_by (plain (chip_clockwork memory) (room_of words) count s)
        (plain_free (chip_clock memory) dwell_place state_level dwell_limit (room_of words) count s counts (rw (← d) f)) ran table after a l t

    -- where one stops the clock behind the k
    pub owed_full : (k : ℕ) → k ≤ count → (ran : Ran) (table after : List ℕ) → Given k ran table after
        → Free dwell_limit (dwell_places memory s) k counts → Full dwell_limit (dwell_places memory s) k counts → Owed ran table after
    unfolding Given dwell_by read_by
    owed_full k h ran table after (a, l, t) f g =
        owed_by (plain (chip_clockwork memory) (room_of words) k s)
        (plain_full (chip_clock memory) dwell_place state_level dwell_limit (room_of words) k count s counts h f g) ran table after a l t

-- LEVELS ARE PLACES
pub place_in : (memory : List ℕ) → Bytes memory → (s : State) → StateRanged s → (j : ℕ) → dwell_places memory s j ≤ 127
place_in memory bytes s r j = (iterate_keeps StateRanged (chip_clock memory) (clock_kept memory bytes) j s r).dmc.output.level

-- EACH COUNT IS RAISED BY ITS CLOCKS, THE SUM BY ALL
pub counts_raised : CountsRaised
unfolding run_answer run_answered dwell_by
counts_raised memory bytes s counts size count words = go (dwell_number memory s counts count) refl (eqb (dwell_number memory s counts count) 0) refl
  where
    t : Beside State
    t = record { state = s; counts = counts }

    R : Progress (Beside State)
    R = plain (dwell_clockwork memory) (room_of words) count t

    is : R.state.counts ≡ tallied (dwell_places memory s) R.done counts
    is =
        ap (λ (x : Beside State). x.counts)
        (plain_went (dwell_clockwork memory) (room_of words) count t ∙ counting_times (chip_clock memory) dwell_place state_level dwell_limit R.done s counts)

    go : (n : ℕ) → dwell_number memory s counts count ≡ n → (u : Bool) → eqb (dwell_number memory s counts count) 0 ≡ u
        → let r : Counted = pick u (record { ran = record { number = 0; state = R.state.state; done = R.done; records = length R.marks }; counts = R.state.counts }) (dwell_refusal n s counts) in
        ((i : ℕ) → i < 128 → get_or r.counts i 0 ≡ get_or counts i 0 + dwelt (chip_clock memory) dwell_place i r.ran.done s) × (sum r.counts ≡ sum counts + r.ran.done)
    go n e false z = (λ i h. rw (dwelt_none (chip_clock memory) dwell_place i s) (sym (add-zero (get_or counts i 0))), sym (add-zero (sum counts)))
    go n e true z =
        let fine = number_fine memory s count (number_right memory s counts count (eqb-true _ _ z)).0 in
        let low = place_in memory bytes s (state_in_lem s fine.1) in
        rw is (
          λ i h. tallied_dwelt (chip_clock memory) dwell_place i R.done s counts (omega arith),
          sum_tallied (dwell_places memory s) R.done counts (λ j. omega (arith, low j)),
        )

-- THE TABLE HANDED BACK IS NEVER ONE THAT 13 REFUSES
pub dwell_within : (memory : List ℕ) (s : State) (counts : List ℕ) (count : ℕ) (words : List ℕ) → counts_within dwell_limit counts ≡ true
    → counts_within dwell_limit (dwell_by memory s counts count words).state.counts ≡ true
unfolding dwell_by
dwell_within memory s counts count words e =
    let m : Most dwell_limit (plain (dwell_clockwork memory) (room_of words) count (record { state = s; counts = counts })).state.counts =
    plain_within (chip_clock memory) dwell_place state_level dwell_limit (room_of words) count (record { state = s; counts = counts }) (within_most dwell_limit counts e) in
    within_all dwell_limit _ (λ i h. m i)

-- WITHOUT COUNTS ALIKE: where no count can reach the limit within the clocks asked, state, clocks done, room and records are those of the chip without counts
pub dwell_alike : (memory : List ℕ) (s : State) (counts : List ℕ) (count : ℕ) (words : List ℕ) → ((i : ℕ) → get_or counts i 0 + count ≤ dwell_limit)
    → let p = dwell_by memory s counts count words in
    record { state = p.state.state; done = p.done; room = p.room; marks = p.marks } ≡ read_by memory s count words
unfolding dwell_by read_by plain
dwell_alike memory s counts count words h =
    let few = reading_done (chip_clockwork memory) count (start (room_of words) s) in
    ap (viewed (chip_clock memory) dwell_place state_level dwell_limit)
    (plain_free (chip_clock memory) dwell_place state_level dwell_limit (room_of words) count s counts
    (free_less dwell_limit (dwell_places memory s) count _ counts (omega arith) (free_few dwell_limit (dwell_places memory s) count counts h)))

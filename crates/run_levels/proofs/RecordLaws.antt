-- The levels of a run by the records in its lent words, met one after the other. Assumes nothing.
use Prim.Native.Nat.{ℕ, zero, suc, ◌+◌, ◌-◌, ◌*◌, ◌≤◌, ◌<◌}
use mathlib.Core.Path.{◌≡◌, refl, ◌∙◌}
use mathlib.Core.List.{List, [], ◌∷◌, ◌++◌}
use native.Mathlib.Omega.{arith}
use lib.ListN.{length, get_or, drop, replicate, drop_of_length-le}
use Rattle.arith.specs.Iterate.{iterate}
use Rattle.arith.specs.Over.{over}
use Rattle.reading.specs.Reading.{Mark}
use Rattle.reading.proofs.ReadingLaws.{plain_went}
use Rattle.chip.specs.Clock.{chip_clock}
use Rattle.chip.specs.Level.{state_level}
use Rattle.chip.specs.declared.State.{State}
use Rattle.run_answer.specs.Run.{chip_clockwork, number, room_of, flat, read_by, answered, uncounted_answer, uncounted_lent}
use Rattle.run_answer.specs.declared.Ran.{Ran}
use Rattle.run_levels.specs.Levels.{clocks_levels, held_levels}
use Rattle.run_levels.specs.Ordered.{Ordered}
use Rattle.run_levels.proofs.LevelLaws.{ordered_end, ordered_from, levels_held, marks_ordered}

-- A RUN'S RECORDS hold the levels after its clocks
pub record Sounds (memory : List ℕ) (s : State) (words : List ℕ) (r : Ran) (after : List ℕ) : Type 0 where
  pub marks : List Mark
  pub count : r.records ≡ length marks
  pub stored : after ≡ over (flat marks) words
  pub ordered : Ordered 0 marks r.done
  pub levels : held_levels 0 (state_level s) marks r.done ≡ clocks_levels memory r.done s
  pub state : r.state ≡ iterate (chip_clock memory) r.done s

pub run_sounds : (memory : List ℕ) (s : State) (count : ℕ) (words after : List ℕ) (r : Ran) → number memory s count ≡ 0
    → r ≡ uncounted_answer memory s count words → after ≡ uncounted_lent memory s count words → Sounds memory s words r after
unfolding uncounted_answer answered uncounted_lent read_by
run_sounds memory s count words after r n e f =
    let ran : r ≡ answered 0 s (read_by memory s count words) = e ∙ rw n refl in
    rw ran
    (record {
      marks = (read_by memory s count words).marks;
      count = refl;
      stored = f ∙ rw n refl;
      ordered = marks_ordered memory (room_of words) count s;
      levels = levels_held memory (room_of words) count s;
      state = plain_went (chip_clockwork memory) (room_of words) count s;
    })

-- RECORD BY RECORD

marks_next : (l : List Mark) (rest : List ℕ) (i : ℕ) → i < length l
    → drop i l ≡ record { clock = get_or (flat l ++ rest) (2 * i) 0; level = get_or (flat l ++ rest) (2 * i + 1) 0 } ∷ drop (i + 1) l
unfolding flat
marks_next [] rest i h = absurd (omega arith)
marks_next (m ∷ l) rest zero h = refl
marks_next (m ∷ l) rest (suc i) h =
    let a : 2 * suc i ≡ suc (suc (2 * i)) = omega arith in
    let b : 2 * suc i + 1 ≡ suc (suc (2 * i + 1)) = omega arith in
    let c : suc i + 1 ≡ suc (i + 1) = omega arith in
    rw (b, a, c) (marks_next l rest i (omega arith))

-- the record of clock x with level y, met where v stands after `at` clocks: x is behind them and not over the end, and v stands to the clock before x
pub record Stood (at v : ℕ) (here : List Mark) (end x y : ℕ) (there : List Mark) : Type 0 where
  pub behind : at < x
  pub most : x ≤ end
  pub low : y ≤ 32767
  pub ordered : Ordered (x - 1) there end
  pub levels : held_levels at v here end ≡ replicate (x - 1 - at) v ++ held_levels (x - 1) y there end

module _ (marks : List Mark) (words after : List ℕ) (stored : after ≡ over (flat marks) words) (at v end i : ℕ) where
  -- record i, by its two words
  pub stood : i < length marks → Ordered at (drop i marks) end → Stood at v (drop i marks) end (get_or after (2 * i) 0) (get_or after (2 * i + 1) 0) (drop (i + 1) marks)
  unfolding over Ordered held_levels
  stood h r =
      let rest = drop (length (flat marks)) words in
      let x = get_or (flat marks ++ rest) (2 * i) 0 in
      let next = marks_next marks rest i h in
      let k = rw next at r in
      rw (stored, next)
      (record {
        behind = k.0;
        most = ordered_end x (drop (i + 1) marks) end k.2;
        low = k.1;
        ordered = ordered_from (x - 1) x (drop (i + 1) marks) end (omega arith) k.2;
        levels = refl;
      })

  -- behind the last one v stands to the end
  pub stood_all : length marks ≤ i → held_levels at v (drop i marks) end ≡ replicate (end - at) v
  unfolding held_levels
  stood_all h = rw (drop_of_length-le marks h) refl

-- A wait by runs: the records of a run hold the levels of the clocks that it did. Assumes nothing.
use Prim.Native.Nat.{ℕ, zero, suc, ◌+◌, ◌-◌, ◌/◌, ◌≤◌, ◌<◌}
use mathlib.Core.Path.{◌≡◌, refl, sym, ap, ap₂, ◌∙◌}
use mathlib.Core.Bool.{Bool, true, false}
use mathlib.Core.List.{List, [], ◌∷◌, ◌++◌, map, map-append, append_assoc, append-nil}
use native.Mathlib.Nat.{zero-add}
use native.Mathlib.Omega.{arith}
use lib.ListN.{length, take, drop}
use lib.Seq.{take_at}
use Rattle.arith.specs.Iterate.{iterate}
use Rattle.arith.specs.Pick.{pick}
use Rattle.reading.specs.Reading.{Mark, Progress, start, same, stopped, unrecorded, recorded, worked, reading, plain}
use Rattle.reading.proofs.ReadingLaws.{plain_went}
use Rattle.chip.specs.Clock.{chip_clock}
use Rattle.chip.specs.Range.{in_range, Bytes}
use Rattle.chip.specs.declared.State.{State}
use Rattle.arith.specs.Over.{over}
use Rattle.run_answer.specs.Run.{chip_clockwork, flat, read_by, answered, uncounted_answer, uncounted_lent}
use Rattle.run_answer.specs.declared.Ran.{Ran}
use Rattle.run_answer.proofs.AnswerLaws.{number_none}
use Rattle.meter.specs.declared.Span.{Span}
use Rattle.meter.specs.Levels.{lowest, highest}
use Rattle.meter.specs.Records.{levels_in, record_levels}
use Rattle.meter.specs.Spans.{span_over}
use Rattle.play_walk.proofs.ClockLaws.{portion, nearer}
use Rattle.play_meter.specs.Walking.{changed, heard_of, clocks_on}
use Rattle.play_meter.proofs.HeardLaws.{span_append, changed_add}

-- the levels of records
abbrev levels : List Mark → List ℕ
levels l = map (λ m. m.level) l

flat_levels : (ms : List Mark) (l : List ℕ) → levels_in (flat ms ++ l) ≡ levels ms ++ levels_in l
unfolding flat levels_in
flat_levels [] l = refl
flat_levels (m ∷ ms) l = ap (λ (x : List ℕ). m.level ∷ x) (flat_levels ms l)

levels_length : (ms : List Mark) → length (levels ms) ≡ length ms
levels_length [] = refl
levels_length (m ∷ ms) = ap suc (levels_length ms)

-- the records in the lent words
records_levels : (ms : List Mark) (words : List ℕ) → record_levels 0 (length ms) (over (flat ms) words) ≡ levels ms
unfolding record_levels over
records_levels ms words =
    let tail = drop (length (flat ms)) words in
    rw zero-add
    (ap (take (length ms)) (flat_levels ms tail) ∙ take_at (levels ms) (levels_in tail) (length ms) (levels_length ms))

module _ (memory : List ℕ) where
  -- how far a reading went from p: so many clocks, and the levels that they brought
  record Went (p q : Progress State) : Type 0 where
    clocks : ℕ
    done : q.done ≡ p.done + clocks
    heard : levels q.marks ≡ levels p.marks ++ changed memory clocks p.state

  went_worked : (p q : Progress State) → Went (worked (chip_clockwork memory) p) q → Went p q
  unfolding worked changed
  went_worked p q w = by (same (chip_clockwork memory) p.state) refl w
    where
      by : (t : Bool) → same (chip_clockwork memory) p.state ≡ t → Went (pick t (unrecorded (chip_clockwork memory) p) (recorded (chip_clockwork memory) p)) q → Went p q
      by true e w = record { clocks = suc w.clocks; done = omega (arith, w.done); heard = w.heard ∙ rw e refl }
      by false e w =
          record {
            clocks = suc w.clocks;
            done = omega (arith, w.done);
            heard = w.heard ∙ rw (map-append, append_assoc, e) refl;
          }

  reading_went : (n : ℕ) (p : Progress State) → Went p (reading (chip_clockwork memory) n p)
  unfolding reading changed
  reading_went zero p = record { clocks = 0; done = omega arith; heard = sym (append-nil (levels p.marks)) }
  reading_went (suc n) p = by (stopped (chip_clockwork memory) p) (went_worked p (reading (chip_clockwork memory) n (worked (chip_clockwork memory) p)) (reading_went n (worked (chip_clockwork memory) p)))
    where
      by : (t : Bool) → Went p (reading (chip_clockwork memory) n (worked (chip_clockwork memory) p)) → Went p (pick t p (reading (chip_clockwork memory) n (worked (chip_clockwork memory) p)))
      by true w = record { clocks = 0; done = omega arith; heard = sym (append-nil (levels p.marks)) }
      by false w = w

  -- THE RECORDS OF A READING are the levels that its clocks brought
  plain_heard : (room n : ℕ) (s : State) → levels (plain (chip_clockwork memory) room n s).marks ≡ changed memory (plain (chip_clockwork memory) room n s).done s
  unfolding plain
  plain_heard room n s =
      let w = reading_went n (start room s) in
      let e : w.clocks ≡ (reading (chip_clockwork memory) n (start room s)).done = omega (arith, w.done) in
      w.heard ∙ ap (λ (k : ℕ). changed memory k s) e

-- a run of a part of the clocks left, and the levels of its records
pub record Onward (memory : List ℕ) (s : State) (span : Span) (left : ℕ) (r : Ran) (after : List ℕ) : Type 0 where
  pub some : 0 < r.done
  pub most : r.done ≤ left
  pub ranged : in_range r.state ≡ true
  pub same : clocks_on memory (left - r.done) r.state (span_over span (record_levels 0 r.records after)) ≡ clocks_on memory left s span

module _ (memory : List ℕ) (s : State) (span : Span) (left : ℕ) (words after : List ℕ) (r : Ran) (long : length memory ≡ 32768) (fine : in_range s ≡ true) where
  abbrev read : Progress State
  read = plain (chip_clockwork memory) (length words / 2) (portion left) s

  ran : r ≡ uncounted_answer memory s (portion left) words → r ≡ record { number = 0; state = read.state; done = read.done; records = length read.marks }
  unfolding uncounted_answer answered read_by
  ran e = e ∙ rw (number_none memory s (portion left) long fine (omega arith)) refl

  kept : after ≡ uncounted_lent memory s (portion left) words → after ≡ over (flat read.marks) words
  unfolding uncounted_lent read_by
  kept e = e ∙ rw (number_none memory s (portion left) long fine (omega arith)) refl

  run_levels : r ≡ uncounted_answer memory s (portion left) words → after ≡ uncounted_lent memory s (portion left) words → record_levels 0 r.records after ≡ changed memory r.done s
  run_levels e f = rw (ran e, kept f) (records_levels read.marks words ∙ plain_heard memory (length words / 2) (portion left) s)

  run_state : r ≡ uncounted_answer memory s (portion left) words → r.state ≡ iterate (chip_clock memory) r.done s
  run_state e = rw (ran e) (plain_went (chip_clockwork memory) (length words / 2) (portion left) s)

  pub onward : Bytes memory → 2 ≤ length words → 0 < left → r ≡ uncounted_answer memory s (portion left) words → after ≡ uncounted_lent memory s (portion left) words
      → Onward memory s span left r after
  unfolding clocks_on
  onward bytes room some e f =
      let n = nearer memory s left words r long bytes fine room some e in
      let d = r.done in
      let split : left ≡ d + (left - d) = omega (arith, n.most) in
      let heard : span_over (span_over span (record_levels 0 r.records after)) (changed memory (left - d) r.state) ≡ span_over span (changed memory left s) =
      ap₂ (λ (a b : List ℕ). span_over (span_over span a) b) (run_levels e f) (ap (changed memory (left - d)) (run_state e))
      ∙ (span_append span (changed memory d s) (changed memory (left - d) (iterate (chip_clock memory) d s))
      ∙ ap (span_over span) (sym (changed_add memory d (left - d) s) ∙ ap (λ (k : ℕ). changed memory k s) (sym split))) in
      record {
        some = n.some;
        most = n.most;
        ranged = n.ranged;
        same = ap₂ (heard_of false) n.same heard;
      }

-- no clock
pub clocks_none : (memory : List ℕ) (n : ℕ) (s : State) (span : Span) → n ≡ 0 → clocks_on memory n s span ≡ heard_of false s span
unfolding clocks_on changed iterate lowest highest
clocks_none memory n s span z = rw z

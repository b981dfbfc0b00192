-- What is still to be said at a place of a log, and what a step says of it. Assumes nothing.
use Prim.Native.Nat.{ℕ, ◌+◌, ◌-◌, ◌≤◌}
use native.Mathlib.Omega.{arith}
use mathlib.Core.Path.{◌≡◌, refl, sym}
use mathlib.Core.Bool.{Bool, true, false, false≢true, true≢false}
use mathlib.Core.List.{List, [], ◌++◌, append_assoc, append-nil}
use lib.ListN.{length}
use Rattle.chip.specs.Range.{Bytes, power_on}
use Rattle.recording.specs.Whole.{machine_of, tree_of}
use Rattle.recording.proofs.Passing.{clear}
use Rattle.log_rules.specs.Tree.{acts, clocks}
use Rattle.play_begin.specs.Whole.{play_number}
use Rattle.play_begin.proofs.Played.{played}
use Rattle.play_interrupts.specs.declared.Change.{Change}
use Rattle.play_interrupts.specs.declared.Place.{Place}
use Rattle.play_interrupts.specs.declared.Next.{Next}
use Rattle.play_interrupts.specs.declared.Passed.{Passed}
use Rattle.play_interrupts.specs.Changes.{changes_from}
use Rattle.play_interrupts.specs.Stepping.{step_of, next_of, passed, place_start}
use Rattle.play_interrupts.proofs.Said.{Told, changes_told}
use Rattle.play_interrupts.proofs.Telling.{ends, goes, gives}
use Rattle.perch_interrupts.specs.Text.{change_text, changes_text, stop_line, next_text, is_over}
use Rattle.perch_interrupts.proofs.Sizes.{next_size}
use Rattle.text_print.specs.Printed.{Put}
use Rattle.lines_stdout.specs.Pours.{Pours}
use Rattle.lines_stdout.proofs.PourLaws.{Pouring, pouring_start, pouring_put, pouring_last, pouring_cut, pouring_on}
use Rattle.program_io.specs.Writes.{Writes, FrontWrites}
use Rattle.program_io.proofs.Joined.{sent_none}
use Rattle.interrupts_stdout.specs.Lines.{passed_text}

module _ (log memory : List ℕ) (end : ℕ) where
  -- the rest of the text from a place on, and that so many steps are enough for it
  pub record Standing (p : Place) (rest : List ℕ) (left : ℕ) : Type 0 where
    pub changes : List Change
    pub steps : ℕ
    pub told : Told log memory end p changes steps
    pub enough : steps ≤ left
    pub same : rest ≡ changes_text changes ++ stop_line end

  some_steps : {p : Place} {l : List Change} {k : ℕ} → Told log memory end p l k → 1 ≤ k
  some_steps (ends k e i h) = omega arith
  some_steps (goes k e t h) = omega arith
  some_steps (gives k e t h) = omega arith

  pub none_left : (p : Place) (rest : List ℕ) (left : ℕ) → Standing p rest left → 1 ≤ left
  none_left p rest left s = omega (arith, some_steps s.told, s.enough)

  -- ONE STEP: its lines are the front of the rest; behind the last one there is none
  pub record Stepped (next : Next) (p : Place) (rest : List ℕ) (left : ℕ) : Type 0 where
    pub behind : List ℕ
    pub lines : rest ≡ next_text next ++ behind
    pub last : is_over next ≡ true → behind ≡ []
    pub more : is_over next ≡ false → Standing p behind (left - 1)

  by_step : {p : Place} {l : List Change} {k : ℕ} → Told log memory end p l k → (left : ℕ) → k ≤ left
      → Stepped (next_of (step_of log memory p).said (step_of log memory p).state.moment.time) (step_of log memory p).state (changes_text l ++ stop_line end) left
  unfolding changes_text next_text
  by_step (ends k e i h) left few =
      rw (e, i) (record { behind = []; lines = sym (append-nil (stop_line end)); last = λ z. refl; more = λ z. absurd (true≢false z) })
  by_step (goes {l = l} {k = j} k e t h) left few =
      rw e
      (record {
        behind = changes_text l ++ stop_line end;
        lines = refl;
        last = λ z. absurd (false≢true z);
        more = λ z. record { changes = l; steps = j; told = t; enough = omega arith; same = refl };
      })
  by_step (gives {a = a} {l = l} {k = j} k e t h) left few =
      rw e
      (record {
        behind = changes_text l ++ stop_line end;
        lines = append_assoc (change_text a) (changes_text l) (stop_line end);
        last = λ z. absurd (false≢true z);
        more = λ z. record { changes = l; steps = j; told = t; enough = omega arith; same = refl };
      })

  pub one_step : (p : Place) (rest : List ℕ) (left : ℕ) → Standing p rest left → (w : Passed) → w ≡ passed (step_of log memory p) → Stepped w.next w.place rest left
  one_step p rest left s w e = rw (e, s.same) (by_step s.told left s.enough)

module _ (log memory : List ℕ) where
  -- WHAT THE LOOP HOLDS
  pub record Held (p : Place) (left at : ℕ) (out : List ℕ) : Type 0 where
    pub rest : List ℕ
    pub stands : Standing log memory (clocks (tree_of log)) p rest left
    pub pouring : Pouring (passed_text log memory) rest out at

  pub held_start : (out : List ℕ) (p : Place) → play_number log memory ≡ 0 → Bytes memory → p ≡ place_start log → Held p 2002000002 0 out
  unfolding passed_text
  held_start out p h b e =
      let f = played log memory h in
      let c = (clear log f.1).in_clocks in
      rw e
      (record {
        rest = passed_text log memory;
        stands = record { changes = changes_from memory (acts (tree_of log)) 0 (power_on (machine_of log)); steps = 2000002 + clocks (tree_of log); told = changes_told log memory f.0 b f.1; enough = omega arith; same = refl };
        pouring = pouring_start [] (passed_text log memory) out sent_none;
      })

  -- A TURN OF IT: a step, with its lines in the buffer
  pub record Turned (next : Next) (p : Place) (left at : ℕ) (out : List ℕ) : Type 0 where
    pub behind : List ℕ
    pub pouring : Pouring (passed_text log memory) behind out at
    pub last : is_over next ≡ true → behind ≡ []
    pub more : is_over next ≡ false → Standing log memory (clocks (tree_of log)) p behind (left - 1)

  pub turned : (p : Place) (left at : ℕ) (out : List ℕ) → Held p left at out → (w : Passed) → w ≡ passed (step_of log memory p) → at + 96 ≤ length out
      → (after : List ℕ) (r : ℕ) → Put out at (next_text w.next) after r → Turned w.next w.place left r after
  turned p left at out g w e room after r put =
      let s = one_step log memory (clocks (tree_of log)) p g.rest left g.stands w e in
      record {
        behind = s.behind;
        pouring = pouring_put (passed_text log memory) (next_text w.next) s.behind out after at r (omega (arith, next_size w.next, room)) put (rw s.lines at g.pouring);
        last = s.last;
        more = s.more;
      }

  module _ (next : Next) (p : Place) (left at : ℕ) (out : List ℕ) (t : Turned next p left at out) where
    -- the last one
    pub ends_there : (all : Bool) → is_over next ≡ true → FrontWrites out at all → Writes (passed_text log memory) all
    ends_there all o w = pouring_last (passed_text log memory) out at all w (rw (t.last o) at t.pouring)

    module _ (q : ℕ) (all : Bool) (s : Pours out at 96 q all) where
      -- not taken whole
      pub cut_there : all ≡ false → Writes (passed_text log memory) false
      cut_there f = pouring_cut (passed_text log memory) t.behind out at 96 q (rw f at s) t.pouring

      -- one of more
      pub goes_on_lem : is_over next ≡ false → all ≡ true → Held p (left - 1) q out
      goes_on_lem o f = record { rest = t.behind; stands = t.more o; pouring = pouring_on (passed_text log memory) t.behind out at 96 q (rw f at s) t.pouring }

-- THE LINES OF THE STEPS FROM A LOG'S BEGINNING, joined, are those of its changes and its end. Assumes nothing.
use Prim.Native.Nat.{ℕ, zero, suc, ◌+◌, ◌≤◌}
use mathlib.Core.Path.{◌≡◌, ap, sym, ◌∙◌}
use mathlib.Core.List.{List, ◌++◌, append_assoc, append-nil}
use native.Mathlib.Omega.{arith}
use borrow.Author.Tests.{eq-eqb, ne_eqb}
use lib.ListN.{length}
use Rattle.text_lines.specs.Lines.{refused_line}
use Rattle.log_rules.specs.Tree.{clocks}
use Rattle.recording.specs.Whole.{tree_of, check_of}
use Rattle.recording.proofs.Passing.{clear}
use Rattle.chip.specs.Range.{Bytes}
use Rattle.play_begin.specs.Whole.{play_number, play_place}
use Rattle.play_interrupts.specs.declared.Change.{Change}
use Rattle.play_interrupts.specs.declared.Place.{Place}
use Rattle.play_interrupts.specs.Stepping.{place_start}
use Rattle.play_interrupts.proofs.Said.{Told, changes_told}
use Rattle.play_interrupts.proofs.Telling.{ends, goes, gives}
use Rattle.perch_interrupts.specs.Text.{change_text, changes_text, stop_line, head_text, interrupts_text, next_text, steps_text}

module _ (log memory : List ℕ) (end : ℕ) where
  said_text : {p : Place} {l : List Change} {k : ℕ} → Told log memory end p l k → (f : ℕ) → k ≤ f → steps_text log memory f p ≡ changes_text l ++ stop_line end
  unfolding steps_text changes_text next_text
  said_text (ends k e i p) zero h = absurd (omega arith)
  said_text (goes k e t p) zero h = absurd (omega arith)
  said_text (gives k e t p) zero h = absurd (omega arith)
  said_text (ends k e i p) (suc f) h = rw (e, i) (append-nil (stop_line end))
  said_text (goes k e t p) (suc f) h = rw e (said_text t f (omega arith))
  said_text (gives {a = a} {l = l} k e t p) (suc f) h =
      rw e (ap (λ (x : List ℕ). change_text a ++ x) (said_text t f (omega arith)) ∙ sym (append_assoc (change_text a) (changes_text l) (stop_line end)))

-- what the program writes for one that is refused
pub joined_refused : (log memory : List ℕ) → (play_number log memory ≡ 0 → ⊥)
    → head_text ++ refused_line (play_number log memory) (play_place log memory) ≡ interrupts_text log memory
unfolding interrupts_text
joined_refused log memory h = rw (ne_eqb (play_number log memory) 0 h)

-- what the program writes for a log that passes: the first line, and then those of its steps
pub joined : (log memory : List ℕ) → length memory ≡ 32768 → Bytes memory → (check_of log).number ≡ 0
    → head_text ++ steps_text log memory 2002000002 (place_start log) ≡ interrupts_text log memory
unfolding interrupts_text play_number
joined log memory long bytes fine =
    let c = (clear log fine).in_clocks in
    rw (eq-eqb (length memory) 32768 long, eq-eqb (check_of log).number 0 fine)
    (ap (λ (x : List ℕ). head_text ++ x) (said_text log memory (clocks (tree_of log)) (changes_told log memory long bytes fine) 2002000002 (omega arith)))

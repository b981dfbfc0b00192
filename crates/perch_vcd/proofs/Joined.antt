-- THE LINES OF THE STEPS FROM A LOG'S BEGINNING, behind the head, are those of its window's events and its end. Assumes nothing.
use Prim.Native.Nat.{ℕ, zero, suc, ◌+◌, ◌≤◌}
use mathlib.Core.Path.{◌≡◌, ap}
use mathlib.Core.List.{List, ◌++◌, append-nil}
use native.Mathlib.Omega.{arith}
use borrow.Author.Tests.{eq-eqb, ne_eqb}
use lib.ListN.{length}
use Rattle.text_lines.specs.Lines.{refused_line}
use Rattle.recording.specs.Whole.{check_of}
use Rattle.recording.proofs.Passing.{clear}
use Rattle.chip.specs.Range.{Bytes}
use Rattle.play_begin.specs.Whole.{play_number, play_place}
use Rattle.play_interrupts.proofs.Telling.{ends, goes, gives}
use Rattle.play_trace.specs.declared.Event.{Event}
use Rattle.play_trace.specs.declared.Place.{Place}
use Rattle.play_trace.specs.Stepping.{place_start}
use Rattle.play_trace.proofs.Said.{Told, window, window_told}
use Rattle.perch_vcd.specs.Text.{head_text, time_on, event_text, event_time, events_text, window_text, vcd_text, next_text, told_after, steps_text}

module _ (log memory : List ℕ) (from until end : ℕ) where
  said_text : {p : Place} {l : List Event} {k : ℕ} → Told log memory from until end p l k → (f told : ℕ) → k ≤ f
      → steps_text log memory from until f told p ≡ events_text told l end
  unfolding steps_text events_text next_text told_after
  said_text (ends k e i p) zero told h = absurd (omega arith)
  said_text (goes k e t p) zero told h = absurd (omega arith)
  said_text (gives k e t p) zero told h = absurd (omega arith)
  said_text (ends k e i p) (suc f) told h = rw (e, i) (append-nil (time_on told end))
  said_text (goes k e t p) (suc f) told h = rw e (said_text t f told (omega arith))
  said_text (gives {a = a} k e t p) (suc f) told h =
      rw e (ap (λ (x : List ℕ). event_text told a ++ x) (said_text t f (event_time a) (omega arith)))

module _ (log memory : List ℕ) (from count : ℕ) where
  -- what the program writes for one that is refused
  pub joined_refused : (play_number log memory ≡ 0 → ⊥) → refused_line (play_number log memory) (play_place log memory) ≡ vcd_text log memory from count
  unfolding vcd_text
  joined_refused h = rw (ne_eqb (play_number log memory) 0 h)

  -- what the program writes for a log that passes: the head, and then the lines of its steps
  pub joined : 1 ≤ count → length memory ≡ 32768 → Bytes memory → (check_of log).number ≡ 0
      → head_text ++ steps_text log memory from (from + count) 2002000004 0 (place_start log) ≡ vcd_text log memory from count
  unfolding vcd_text window_text play_number
  joined some long bytes fine =
      let c = (clear log fine).in_clocks in
      let end = (window log memory from (from + count) (omega arith) long bytes fine).end.time in
      rw (eq-eqb (length memory) 32768 long, eq-eqb (check_of log).number 0 fine)
      (ap (λ (x : List ℕ). head_text ++ x) (said_text log memory from (from + count) end (window_told log memory from (from + count) (omega arith) long bytes fine) 2002000004 0 (omega arith)))

-- How long the text is. Assumes nothing.
use Prim.Native.Nat.{ℕ, ◌≤◌}
use mathlib.Core.Path.{◌≡◌}
use mathlib.Core.Bool.{Bool}
use mathlib.Core.List.{List}
use native.Mathlib.Omega.{arith}
use borrow.Author.Tests.{eq-eqb, ne_eqb}
use lib.Dec.{eqb}
use lib.ListN.{length, take, length-append}
use Rattle.arith.specs.Pick.{pick}
use Rattle.arith.proofs.PickLaws.{pick_both}
use Rattle.text_print.specs.Printed.{placed, printed}
use Rattle.text.specs.Ascii.{bytes}
use Rattle.text.specs.Hex.{hex_text}
use Rattle.text_lines.specs.Lines.{refused_line}
use Rattle.text_lines.proofs.Pieces.{puts, front}
use Rattle.text_lines.proofs.Sizes.{UpTo, keyed_size, pair_size}
use Rattle.chip.specs.declared.State.{State}
use Rattle.chip.specs.Level.{state_level}
use Rattle.chip.specs.Line.{line_asserted}
use Rattle.chip_access.specs.Status.{status_byte}
use Rattle.chip_text.proofs.Sizes.{state_size_lem}
use Rattle.play_at.specs.declared.At.{At}
use Rattle.play_at.specs.Reached.{state_at}
use Rattle.perch_at.specs.Text.{machine_line, status_line, seen_lines, reached_text, outcome_text, at_text}

machine_size : (pal : Bool) → UpTo 13 (machine_line pal)
unfolding machine_line
machine_size pal = pick_both (UpTo 13) pal (omega arith) (omega arith)

status_size : (b : ℕ) → UpTo 10 (status_line b)
unfolding status_line hex_text
status_size b = omega arith

seen_size : (pal : Bool) (level status : ℕ) (line : Bool) → UpTo 56 (seen_lines pal level status line)
unfolding seen_lines
seen_size pal level status line =
    simp length-append
    (omega (arith, machine_size pal, keyed_size (bytes "level=") level, status_size status, keyed_size (bytes "line=") (pick line 1 0)))

reached_size : (clock : ℕ) (s : State) → UpTo 3000 (reached_text clock s)
unfolding reached_text
reached_size clock s =
    simp length-append
    (omega (
      arith,
      keyed_size (bytes "clock=") clock,
      seen_size s.pal (state_level s) (status_byte s) (line_asserted s),
      state_size_lem s,
    ))

outcome_size : (a : At) → UpTo 3000 (outcome_text a)
unfolding outcome_text
outcome_size a =
    pick_both (UpTo 3000) (eqb a.number 0) (reached_size a.clock a.state)
    (omega (arith, pair_size (bytes "refused=") a.number a.place))

-- 3,072 bytes hold the text, whatever the bytes and the clock
pub at_size : (log memory : List ℕ) (clock : ℕ) → length (at_text log memory clock) ≤ 3072
unfolding at_text
at_size log memory clock = rw length-append (omega (arith, outcome_size (state_at log memory clock)))

-- the two outcomes
module _ (a : At) where
  pub out_reached : a.number ≡ 0 → outcome_text a ≡ reached_text a.clock a.state
  unfolding outcome_text
  out_reached h = rw (eq-eqb a.number 0 h)

  pub out_refused : (a.number ≡ 0 → ⊥) → outcome_text a ≡ refused_line a.number a.place
  unfolding outcome_text
  out_refused h = rw (ne_eqb a.number 0 h)

-- what a caller with 3,072 bytes gets
pub whole_text : (log memory : List ℕ) (clock : ℕ) (out : List ℕ) → 3072 ≤ length out → (r : ℕ) (out' : List ℕ) → r ≡ placed out 0 (at_text log memory clock) → out' ≡ printed out 0 (at_text log memory clock)
    → (r ≤ length out') × (take r out' ≡ at_text log memory clock)
whole_text log memory clock out h r out' p b = let f = front (at_text log memory clock) (omega (arith, at_size log memory clock)) (puts _ (p, b)) in (f.0, f.2)

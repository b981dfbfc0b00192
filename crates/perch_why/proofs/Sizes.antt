-- How long the text is. Assumes nothing.
use Prim.Native.Nat.{ℕ, ◌+◌, ◌≤◌}
use mathlib.Core.Path.{◌≡◌}
use mathlib.Core.Bool.{Bool, true, false}
use mathlib.Core.List.{List, ◌++◌}
use native.Mathlib.Omega.{arith}
use borrow.Author.Tests.{eq-eqb, ne_eqb}
use lib.Dec.{eqb}
use lib.ListN.{length, take, length-append}
use Rattle.arith.proofs.PickLaws.{pick_both}
use Rattle.text_print.specs.Printed.{placed, printed}
use Rattle.text.specs.Ascii.{bytes}
use Rattle.text_lines.specs.Lines.{keyed_line, refused_line}
use Rattle.text_lines.proofs.Pieces.{puts, front}
use Rattle.text_lines.proofs.Sizes.{UpTo, decimal_ten, keyed_size, pair_size}
use Rattle.chip.specs.declared.State.{State}
use Rattle.chip_why.specs.Why.{why_answer}
use Rattle.chip_why.specs.declared.Reason.{Reason}
use Rattle.chip_why.specs.declared.Reason.TheVariants.{Refused, NotEnabled, LengthZero, PeriodLow, TargetHigh, StepLow, VolumeZero, Sounds}
use Rattle.play_at.specs.declared.At.{At}
use Rattle.play_at.specs.Reached.{state_at}
use Rattle.perch_why.specs.Text.{step_word, numbered, reason_word, channel_line, channel_lines, outcome_text, why_text}

word_size : (noise : Bool) (r : Reason) → UpTo 18 (reason_word noise r)
unfolding reason_word numbered step_word
word_size noise (Refused n) = rw length-append (omega (arith, decimal_ten n))
word_size noise NotEnabled = omega arith
word_size noise LengthZero = omega arith
word_size noise PeriodLow = omega arith
word_size noise TargetHigh = omega arith
word_size noise StepLow = pick_both (UpTo 18) noise (omega arith) (omega arith)
word_size noise VolumeZero = omega arith
word_size noise (Sounds n) = rw length-append (omega (arith, decimal_ten n))

lines_size : (s : State) → UpTo 79 (channel_lines s)
unfolding channel_lines channel_line
lines_size s =
    simp length-append
    (omega (arith, word_size false (why_answer 0 s), word_size false (why_answer 1 s), word_size true (why_answer 3 s)))

outcome_size : (a : At) → UpTo 96 (outcome_text a)
unfolding outcome_text
outcome_size a =
    pick_both (UpTo 96) (eqb a.number 0)
    (rw length-append (omega (arith, keyed_size (bytes "clock=") a.clock, lines_size a.state)))
    (omega (arith, pair_size (bytes "refused=") a.number a.place))

-- 128 bytes hold the text, whatever the bytes and the clock
pub why_size : (log memory : List ℕ) (clock : ℕ) → length (why_text log memory clock) ≤ 128
unfolding why_text
why_size log memory clock = rw length-append (omega (arith, outcome_size (state_at log memory clock)))

-- the two outcomes
module _ (a : At) where
  pub out_reached : a.number ≡ 0 → outcome_text a ≡ keyed_line (bytes "clock=") a.clock ++ channel_lines a.state
  unfolding outcome_text
  out_reached h = rw (eq-eqb a.number 0 h)

  pub out_refused : (a.number ≡ 0 → ⊥) → outcome_text a ≡ refused_line a.number a.place
  unfolding outcome_text
  out_refused h = rw (ne_eqb a.number 0 h)

-- what a caller with 128 bytes gets
pub whole_text : (log memory : List ℕ) (clock : ℕ) (out : List ℕ) → 128 ≤ length out → (r : ℕ) (out' : List ℕ) → r ≡ placed out 0 (why_text log memory clock) → out' ≡ printed out 0 (why_text log memory clock)
    → (r ≤ length out') × (take r out' ≡ why_text log memory clock)
whole_text log memory clock out h r out' p b = let f = front (why_text log memory clock) (omega (arith, why_size log memory clock)) (puts _ (p, b)) in (f.0, f.2)

-- How long the texts are: small buffers always hold them. Assumes nothing.
use Prim.Native.Nat.{ℕ, ◌+◌, ◌≤◌}
use mathlib.Core.Path.{◌≡◌, refl}
use mathlib.Core.Bool.{Bool, true, false}
use mathlib.Core.List.{List, []}
use native.Mathlib.Omega.{arith}
use borrow.Author.Tests.{eq-eqb, ne_eqb}
use lib.Dec.{eqb, leb}
use lib.ListN.{length, take, length-append}
use lib.Seq.{sets}
use Rattle.arith.specs.Pick.{pick}
use Rattle.arith.proofs.PickLaws.{pick_both}
use Rattle.text_print.specs.Printed.{printed, placed}
use Rattle.text.specs.Ascii.{bytes}
use Rattle.text_lines.specs.Lines.{refused_line}
use Rattle.text_lines.proofs.Pieces.{puts, front}
use Rattle.text_lines.proofs.Sizes.{UpTo, decimal_ten, pair_size}
use Rattle.meter.specs.declared.Metering.{Metering}
use Rattle.meter.specs.declared.Metering.TheVariants.{Refused, NoLevels, Silent, Steady, Moving}
use Rattle.play_meter.specs.declared.Answer.{Answer}
use Rattle.play_meter.specs.declared.waits.Next.{Next}
use Rattle.play_meter.specs.Meters.{log_meter}
use Rattle.perch_meter.specs.Text.{numbered, moving_word, meter_word, all_line, outcome_text, meter_text, wait_line, next_text}

word_size : (m : Metering ℕ) → UpTo 28 (meter_word m)
unfolding meter_word numbered moving_word
word_size (Refused k) = rw length-append (omega (arith, decimal_ten k))
word_size NoLevels = omega arith
word_size Silent = omega arith
word_size (Steady v) = rw length-append (omega (arith, decimal_ten v))
word_size (Moving low high) = simp length-append (omega (arith, decimal_ten low, decimal_ten high))

all_size : (m : Metering ℕ) → UpTo 33 (all_line m)
unfolding all_line
all_size m = simp length-append (omega (arith, word_size m))

outcome_size : (a : Answer) → UpTo 33 (outcome_text a)
unfolding outcome_text
outcome_size a = pick_both (UpTo 33) (eqb a.number 0) (all_size a.meter) (omega (arith, pair_size (bytes "refused=") a.number a.place))

-- 64 bytes hold the text, whatever the bytes
pub meter_size : (log memory : List ℕ) → length (meter_text log memory) ≤ 64
unfolding meter_text
meter_size log memory = rw length-append (omega (arith, outcome_size (log_meter log memory)))

-- and a wait's line
pub wait_size : (time clocks : ℕ) (m : Metering ℕ) → length (wait_line time clocks m) ≤ 64
unfolding wait_line
wait_size time clocks m = simp length-append (omega (arith, decimal_ten time, decimal_ten clocks, word_size m))

-- so does what is written of a step
pub next_size : (n : Next) → length (next_text n) ≤ 64
unfolding next_text
next_size Next.Over = omega arith
next_size Next.Moved = omega arith
next_size (Next.Wait time clocks m) = wait_size time clocks m
next_size (Next.Refused k p) = omega arith

-- no text
pub placed_none : (out : List ℕ) (at : ℕ) → at ≡ placed out at []
unfolding placed
placed_none out at = by (leb (at + 0) (length out))
  where
    by : (b : Bool) → at ≡ pick b (at + 0) at
    by true = omega arith
    by false = refl

pub printed_none : (out : List ℕ) (at : ℕ) → out ≡ printed out at []
unfolding printed
printed_none out at = by (leb (at + 0) (length out))
  where
    by : (b : Bool) → out ≡ pick b (sets out at []) out
    by true = refl
    by false = refl

-- the two outcomes
module _ (a : Answer) where
  pub out_all : a.number ≡ 0 → outcome_text a ≡ all_line a.meter
  unfolding outcome_text
  out_all h = rw (eq-eqb a.number 0 h)

  pub out_refused : (a.number ≡ 0 → ⊥) → outcome_text a ≡ refused_line a.number a.place
  unfolding outcome_text
  out_refused h = rw (ne_eqb a.number 0 h)

-- what a caller with 64 bytes gets
pub whole_text : (log memory out : List ℕ) → 64 ≤ length out → (r : ℕ) (out' : List ℕ) → r ≡ placed out 0 (meter_text log memory) → out' ≡ printed out 0 (meter_text log memory)
    → (r ≤ length out') × (take r out' ≡ meter_text log memory)
whole_text log memory out h r out' p b = let f = front (meter_text log memory) (omega (arith, meter_size log memory)) (puts _ (p, b)) in (f.0, f.2)

-- THE LINES OF THE STEPS FROM A LOG'S BEGINNING, joined, are those of its waits. Assumes nothing.
use Prim.Native.Nat.{ℕ, zero, suc, ◌≤◌}
use mathlib.Core.Path.{◌≡◌, refl, ap}
use mathlib.Core.List.{List, ◌++◌}
use native.Mathlib.Omega.{arith}
use borrow.Author.Tests.{eq-eqb}
use lib.ListN.{length}
use Rattle.recording.specs.Whole.{check_of}
use Rattle.reading.specs.Saying.{Gives, ends, goes, gives}
use Rattle.chip.specs.Range.{Bytes}
use Rattle.play_walk.specs.declared.Moment.{Moment}
use Rattle.play_walk.specs.Walk.{walk_start}
use Rattle.play_meter.specs.declared.Answer.{Answer}
use Rattle.play_meter.specs.Meters.{WaitMeter, log_meter}
use Rattle.play_meter.specs.Passing.{pass_of}
use Rattle.play_meter.proofs.WaitLaws.{waits_said}
use Rattle.play_meter.proofs.WalkLaws.{meter_is}
use Rattle.perch_meter.specs.Text.{meter_text, wait_line, waits_text, meter_waits_text, next_text, steps_text}

module _ (log memory : List ℕ) where
  said_text : {m : Moment} {l : List WaitMeter} {k : ℕ} → Gives (pass_of log memory) m l k → (f : ℕ) → k ≤ f → steps_text log memory f m ≡ waits_text l
  unfolding steps_text waits_text next_text
  said_text (ends k e p) zero h = absurd (omega arith)
  said_text (goes k e t p) zero h = absurd (omega arith)
  said_text (gives k e t p) zero h = absurd (omega arith)
  said_text (ends k e p) (suc f) h = rw e refl
  said_text (goes k e t p) (suc f) h = rw e (said_text t f (omega arith))
  said_text (gives {a = a} k e t p) (suc f) h =
      rw e (ap (λ (x : List ℕ). wait_line a.time a.clocks a.meter ++ x) (said_text t f (omega arith)))

  -- what the program writes for a log that passes: the text, and then the lines of its steps
  pub joined : length memory ≡ 32768 → Bytes memory → (check_of log).number ≡ 0
      → meter_text log memory ++ steps_text log memory 2000002 (walk_start log) ≡ meter_waits_text log memory
  unfolding meter_waits_text
  joined long bytes fine =
      let none : (log_meter log memory).number ≡ 0 = ap (λ (a : Answer). a.number) (meter_is log memory long fine) in
      rw (eq-eqb (log_meter log memory).number 0 none)
      (ap (λ (x : List ℕ). meter_text log memory ++ x) (said_text (waits_said log memory long bytes fine) 2000002 (omega arith)))

-- What is still to be said at a moment of a log, and what a step says of it. Assumes nothing.
use Prim.Native.Nat.{ℕ, ◌+◌, ◌-◌, ◌≤◌}
use native.Mathlib.Omega.{arith}
use mathlib.Core.Path.{◌≡◌, refl}
use mathlib.Core.Bool.{Bool, true, false, false≢true, true≢false}
use mathlib.Core.List.{List, [], ◌++◌}
use lib.ListN.{length}
use Rattle.chip.specs.Range.{Bytes, power_on}
use Rattle.recording.specs.Whole.{machine_of, tree_of}
use Rattle.log_rules.specs.Tree.{acts}
use Rattle.reading.specs.Saying.{Gives, ends, goes, gives}
use Rattle.play_begin.specs.Whole.{play_number}
use Rattle.play_walk.specs.declared.Moment.{Moment}
use Rattle.play_walk.specs.Walk.{walk_start}
use Rattle.play_meter.specs.declared.waits.Next.{Next}
use Rattle.play_meter.specs.declared.waits.Passed.{Passed}
use Rattle.play_meter.specs.Meters.{WaitMeter, waits_from}
use Rattle.play_meter.specs.Passing.{pass_of, pass_next, passed}
use Rattle.play_meter.proofs.WaitLaws.{waits_said}
use Rattle.perch_meter.specs.Text.{waits_text, next_text, is_over}
use Rattle.perch_meter.proofs.Sizes.{next_size}
use Rattle.text_print.specs.Printed.{Put}
use Rattle.lines_stdout.specs.Pours.{Pours}
use Rattle.lines_stdout.proofs.PourLaws.{Pouring, pouring_start, pouring_put, pouring_last, pouring_cut, pouring_on}
use Rattle.program_io.specs.Writes.{Writes, FrontWrites}
use Rattle.program_io.proofs.Joined.{sent_none}
use Rattle.meter_stdout.specs.Lines.{each_text}
use Rattle.play_begin.proofs.Played.{played}

module _ (log memory : List ℕ) where
  -- the rest of the text from a moment on, and that so many steps are enough for it
  pub record Standing (m : Moment) (rest : List ℕ) (left : ℕ) : Type 0 where
    pub waits : List WaitMeter
    pub steps : ℕ
    pub told : Gives (pass_of log memory) m waits steps
    pub enough : steps ≤ left
    pub same : rest ≡ waits_text waits

  some_steps : {m : Moment} {l : List WaitMeter} {k : ℕ} → Gives (pass_of log memory) m l k → 1 ≤ k
  some_steps (ends k e h) = omega arith
  some_steps (goes k e t h) = omega arith
  some_steps (gives k e t h) = omega arith

  pub none_left : (m : Moment) (rest : List ℕ) (left : ℕ) → Standing m rest left → 1 ≤ left
  none_left m rest left s = omega (arith, some_steps s.told, s.enough)

  -- ONE STEP: its line is the front of the rest; behind the last one there is none
  pub record Stepped (next : Next) (m : Moment) (rest : List ℕ) (left : ℕ) : Type 0 where
    pub behind : List ℕ
    pub line : rest ≡ next_text next ++ behind
    pub last : is_over next ≡ true → behind ≡ []
    pub more : is_over next ≡ false → Standing m behind (left - 1)

  by_step : {m : Moment} {l : List WaitMeter} {k : ℕ} → Gives (pass_of log memory) m l k → (left : ℕ) → k ≤ left
      → Stepped (pass_next (pass_of log memory m).said) (pass_of log memory m).state (waits_text l) left
  unfolding waits_text next_text
  by_step (ends k e h) left few = rw e (record { behind = []; line = refl; last = λ z. refl; more = λ z. absurd (true≢false z) })
  by_step (goes {l = l} {k = j} k e t h) left few =
      rw e
      (record {
        behind = waits_text l;
        line = refl;
        last = λ z. absurd (false≢true z);
        more = λ z. record { waits = l; steps = j; told = t; enough = omega arith; same = refl };
      })
  by_step (gives {l = l} {k = j} k e t h) left few =
      rw e
      (record {
        behind = waits_text l;
        line = refl;
        last = λ z. absurd (false≢true z);
        more = λ z. record { waits = l; steps = j; told = t; enough = omega arith; same = refl };
      })

  pub one_step : (m : Moment) (rest : List ℕ) (left : ℕ) → Standing m rest left → (p : Passed) → p ≡ passed (pass_of log memory m) → Stepped p.next p.moment rest left
  one_step m rest left s p e = rw (e, s.same) (by_step s.told left s.enough)

  -- WHAT THE LOOP HOLDS
  pub record Held (m : Moment) (left at : ℕ) (out : List ℕ) : Type 0 where
    pub rest : List ℕ
    pub stands : Standing m rest left
    pub pouring : Pouring (each_text log memory) rest out at

  pub held_start : (out : List ℕ) (m : Moment) → play_number log memory ≡ 0 → Bytes memory → m ≡ walk_start log → Held m 2000002 0 out
  unfolding each_text
  held_start out m h b e =
      let f = played log memory h in
      rw e
      (record {
        rest = each_text log memory;
        stands = record { waits = waits_from memory (acts (tree_of log)) 0 (power_on (machine_of log)); steps = 2000002; told = waits_said log memory f.0 b f.1; enough = omega arith; same = refl };
        pouring = pouring_start [] (each_text log memory) out sent_none;
      })

  -- A TURN OF IT: a step, with its line in the buffer
  pub record Turned (next : Next) (m : Moment) (left at : ℕ) (out : List ℕ) : Type 0 where
    pub behind : List ℕ
    pub pouring : Pouring (each_text log memory) behind out at
    pub last : is_over next ≡ true → behind ≡ []
    pub more : is_over next ≡ false → Standing m behind (left - 1)

  pub turned : (m : Moment) (left at : ℕ) (out : List ℕ) → Held m left at out → (p : Passed) → p ≡ passed (pass_of log memory m) → at + 64 ≤ length out
      → (after : List ℕ) (r : ℕ) → Put out at (next_text p.next) after r → Turned p.next p.moment left r after
  turned m left at out g p e room after r put =
      let s = one_step m g.rest left g.stands p e in
      record {
        behind = s.behind;
        pouring = pouring_put (each_text log memory) (next_text p.next) s.behind out after at r (omega (arith, next_size p.next, room)) put (rw s.line at g.pouring);
        last = s.last;
        more = s.more;
      }

  module _ (next : Next) (m : Moment) (left at : ℕ) (out : List ℕ) (t : Turned next m left at out) where
    -- the last one
    pub ends_there : (all : Bool) → is_over next ≡ true → FrontWrites out at all → Writes (each_text log memory) all
    ends_there all o w = pouring_last (each_text log memory) out at all w (rw (t.last o) at t.pouring)

    module _ (q : ℕ) (all : Bool) (s : Pours out at 64 q all) where
      -- not taken whole
      pub cut_there : all ≡ false → Writes (each_text log memory) false
      cut_there f = pouring_cut (each_text log memory) t.behind out at 64 q (rw f at s) t.pouring

      -- one of more
      pub goes_on_lem : is_over next ≡ false → all ≡ true → Held m (left - 1) q out
      goes_on_lem o f = record { rest = t.behind; stands = t.more o; pouring = pouring_on (each_text log memory) t.behind out at 64 q (rw f at s) t.pouring }

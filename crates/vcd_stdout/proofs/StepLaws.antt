-- What is still to be said at a place of a log, and what a step says of it. Assumes nothing.
use Prim.Native.Nat.{ℕ, ◌+◌, ◌-◌, ◌≤◌, ◌<◌}
use native.Mathlib.Omega.{arith}
use mathlib.Core.Path.{◌≡◌, refl, sym}
use mathlib.Core.Bool.{Bool, true, false, false≢true, true≢false}
use mathlib.Core.List.{List, [], ◌++◌, append-nil}
use lib.ListN.{length}
use Rattle.chip.specs.Range.{Bytes}
use Rattle.recording.specs.Whole.{tree_of}
use Rattle.recording.proofs.Passing.{clear}
use Rattle.log_rules.specs.Tree.{clocks}
use Rattle.play_begin.specs.Whole.{play_number}
use Rattle.play_begin.proofs.Played.{played}
use Rattle.play_trace.specs.declared.Event.{Event}
use Rattle.play_trace.specs.declared.Place.{Place}
use Rattle.play_trace.specs.declared.Next.{Next}
use Rattle.play_trace.specs.declared.Passed.{Passed}
use Rattle.play_trace.specs.Stepping.{step_of, next_of, passed, place_start, place_time}
use Rattle.play_trace.proofs.Said.{Told, window_told}
use Rattle.play_interrupts.proofs.Telling.{ends, goes, gives}
use Rattle.perch_vcd.specs.Text.{time_on, event_time, events_text, next_text, told_after, is_over}
use Rattle.perch_vcd.proofs.Sizes.{next_size}
use Rattle.text_print.specs.Printed.{Put}
use Rattle.lines_stdout.specs.Pours.{Pours}
use Rattle.lines_stdout.proofs.PourLaws.{Pouring, pouring_start, pouring_put, pouring_last, pouring_cut, pouring_on}
use Rattle.program_io.specs.Writes.{Writes, FrontWrites}
use Rattle.program_io.proofs.Joined.{sent_none}
use Rattle.vcd_stdout.specs.Lines.{window_of, passed_text}

module _ (log memory : List ℕ) (from until end : ℕ) where
  -- the rest of the text from a place on, where `told` is the last time line's time, and that so many steps are enough for it
  pub record Standing (p : Place) (told : ℕ) (rest : List ℕ) (left : ℕ) : Type 0 where
    pub events : List Event
    pub steps : ℕ
    pub tells : Told log memory from until end p events steps
    pub enough : steps ≤ left
    pub same : rest ≡ events_text told events end

  some_steps : {p : Place} {l : List Event} {k : ℕ} → Told log memory from until end p l k → 1 ≤ k
  some_steps (ends k e i h) = omega arith
  some_steps (goes k e t h) = omega arith
  some_steps (gives k e t h) = omega arith

  pub none_left : (p : Place) (told : ℕ) (rest : List ℕ) (left : ℕ) → Standing p told rest left → 1 ≤ left
  none_left p told rest left s = omega (arith, some_steps s.tells, s.enough)

  -- ONE STEP: its lines are the front of the rest; behind the last one there is none
  pub record Stepped (told : ℕ) (next : Next) (p : Place) (rest : List ℕ) (left : ℕ) : Type 0 where
    pub behind : List ℕ
    pub lines : rest ≡ next_text told next ++ behind
    pub last : is_over next ≡ true → behind ≡ []
    pub more : is_over next ≡ false → Standing p (told_after told next) behind (left - 1)

  by_step : {p : Place} {l : List Event} {k : ℕ} → Told log memory from until end p l k → (told left : ℕ) → k ≤ left
      → Stepped told (next_of (step_of log memory from until p).said (place_time (step_of log memory from until p).state)) (step_of log memory from until p).state (events_text told l end) left
  unfolding events_text next_text told_after
  by_step (ends k e i h) told left few =
      rw (e, i) (record { behind = []; lines = sym (append-nil (time_on told end)); last = λ z. refl; more = λ z. absurd (true≢false z) })
  by_step (goes {l = l} {k = j} k e t h) told left few =
      rw e
      (record {
        behind = events_text told l end;
        lines = refl;
        last = λ z. absurd (false≢true z);
        more = λ z. record { events = l; steps = j; tells = t; enough = omega arith; same = refl };
      })
  by_step (gives {a = a} {l = l} {k = j} k e t h) told left few =
      rw e
      (record {
        behind = events_text (event_time a) l end;
        lines = refl;
        last = λ z. absurd (false≢true z);
        more = λ z. record { events = l; steps = j; tells = t; enough = omega arith; same = refl };
      })

  pub one_step : (p : Place) (told : ℕ) (rest : List ℕ) (left : ℕ) → Standing p told rest left → (w : Passed) → w ≡ passed (step_of log memory from until p)
      → Stepped told w.next w.place rest left
  one_step p told rest left s w e = rw (e, s.same) (by_step s.tells told left s.enough)

module _ (log memory : List ℕ) (from until : ℕ) where
  abbrev text : List ℕ
  text = passed_text log memory from until

  -- from a place on, up to the window's end
  abbrev pub Stands : Place → ℕ → List ℕ → ℕ → Type 0
  Stands = Standing log memory from until (window_of log memory from until).end.time

  -- WHAT THE LOOP HOLDS
  pub record Held (p : Place) (told left at : ℕ) (out : List ℕ) : Type 0 where
    pub rest : List ℕ
    pub stands : Stands p told rest left
    pub pouring : Pouring text rest out at

  pub held_start : (out : List ℕ) (p : Place) → play_number log memory ≡ 0 → from < until → Bytes memory → p ≡ place_start log → Held p 0 2002000004 0 out
  unfolding passed_text
  held_start out p h order b e =
      let f = played log memory h in
      let c = (clear log f.1).in_clocks in
      rw e
      (record {
        rest = text;
        stands = record { events = (window_of log memory from until).events; steps = 2000003 + clocks (tree_of log); tells = window_told log memory from until order f.0 b f.1; enough = omega arith; same = refl };
        pouring = pouring_start [] text out sent_none;
      })

  -- A TURN OF IT: a step, with its lines in the buffer
  pub record Turned (told : ℕ) (next : Next) (p : Place) (left at : ℕ) (out : List ℕ) : Type 0 where
    pub behind : List ℕ
    pub pouring : Pouring text behind out at
    pub last : is_over next ≡ true → behind ≡ []
    pub more : is_over next ≡ false → Stands p (told_after told next) behind (left - 1)

  pub turned : (p : Place) (told left at : ℕ) (out : List ℕ) → Held p told left at out → (w : Passed) → w ≡ passed (step_of log memory from until p) → at + 256 ≤ length out
      → (after : List ℕ) (r : ℕ) → Put out at (next_text told w.next) after r → Turned told w.next w.place left r after
  turned p told left at out g w e room after r put =
      let s = one_step log memory from until _ p told g.rest left g.stands w e in
      record {
        behind = s.behind;
        pouring = pouring_put text (next_text told w.next) s.behind out after at r (omega (arith, next_size told w.next, room)) put (rw s.lines at g.pouring);
        last = s.last;
        more = s.more;
      }

  module _ (told : ℕ) (next : Next) (p : Place) (left at : ℕ) (out : List ℕ) (t : Turned told next p left at out) where
    -- the last one
    pub ends_there : (all : Bool) → is_over next ≡ true → FrontWrites out at all → Writes text all
    ends_there all o w = pouring_last text out at all w (rw (t.last o) at t.pouring)

    module _ (q : ℕ) (all : Bool) (s : Pours out at 256 q all) where
      -- not taken whole
      pub cut_there : all ≡ false → Writes text false
      cut_there f = pouring_cut text t.behind out at 256 q (rw f at s) t.pouring

      -- one of more
      pub goes_on_lem : (after : ℕ) → after ≡ told_after told next → is_over next ≡ false → all ≡ true → Held p after (left - 1) q out
      goes_on_lem after e o f =
          record { rest = t.behind; stands = rw e (t.more o); pouring = pouring_on text t.behind out at 256 q (rw f at s) t.pouring }

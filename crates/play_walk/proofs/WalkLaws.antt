-- The walk of a log that passes: its steps meet the log's acts, one after the other, and then the end. Assumes nothing.
use Prim.Native.Nat.{ℕ, ◌-◌, ◌≤◌, ◌<◌}
use mathlib.Core.Path.{◌≡◌, refl}
use mathlib.Core.List.{List, [], ◌∷◌}
use native.Mathlib.Omega.{arith}
use Rattle.bus.specs.declared.Access as busAccess
use Rattle.log_line.specs.declared.Act.{Act}
use Rattle.log_line.specs.declared.Act.TheVariants.{Wait, Access}
use Rattle.recording_cursor.specs.declared.Cursor.{Cursor}
use Rattle.log_cursor.specs.declared.Given.{Given}
use Rattle.recording_cursor.specs.Stepping.{step_of, told}
use Rattle.reading.specs.Saying.{Gives, ends, goes, gives}
use Rattle.reading.proofs.SayingLaws.{within}
use Rattle.chip.specs.Level.{state_level}
use Rattle.chip.specs.declared.State.{State}
use Rattle.chip_access.specs.Access.{access_state}
use Rattle.play_walk.specs.declared.Moment.{Moment}
use Rattle.play_walk.specs.declared.Met.{Met}
use Rattle.play_walk.specs.declared.Walked.{Walked}
use Rattle.play_walk.specs.Walk.{moment_of, act_met, act_state, given_met, walk_step}

-- WHAT A STEP MEETS where the acts still to come are `rest`, said within `left` steps; c is the cursor behind it
pub data Onward (log : List ℕ) (m : Moment) (rest : List Act) (left : ℕ) (w : Walked) : Type 0 where
  access : (x : busAccess.Access) (l : List Act) (c : Cursor) → rest ≡ Access x ∷ l → Gives (step_of log) c l (left - 1)
      → w.met ≡ Met.Access x (state_level m.state) (state_level (access_state x m.state)) → w.moment ≡ moment_of c (access_state x m.state) m.time
      → Onward log m rest left w
  wait : (n : ℕ) (l : List Act) (c : Cursor) → rest ≡ Wait n ∷ l → Gives (step_of log) c l (left - 1)
      → w.met ≡ Met.Wait n → w.moment ≡ moment_of c m.state m.time → Onward log m rest left w
  moved : (c : Cursor) → Gives (step_of log) c rest (left - 1) → w.met ≡ Met.Moved → w.moment ≡ moment_of c m.state m.time → Onward log m rest left w
  end : (c : Cursor) → rest ≡ [] → w.met ≡ Met.End → w.moment ≡ moment_of c m.state m.time → Onward log m rest left w

module _ (log : List ℕ) where
  less : (k f : ℕ) → k < f → k ≤ f - 1
  less k f h = omega arith

  by_said : {c : Cursor} {rest : List Act} {left : ℕ} → Gives (step_of log) c rest left → (s : State) (t : ℕ)
      → Onward log (moment_of c s t) rest left (walk_step log (moment_of c s t))
  unfolding walk_step given_met act_met act_state
  by_said {c = c} (ends f e p) s t = end (step_of log c).state refl (rw e refl) (rw e refl)
  by_said {c = c} {left = left} (goes {k = k} f e g p) s t =
      moved (step_of log c).state (within (step_of log) (left - 1) (less k left p) g) (rw e refl) (rw e refl)
  by_said {c = c} {left = left} (gives {a = Wait n} {l = l} {k = k} f e g p) s t =
      wait n l (step_of log c).state refl (within (step_of log) (left - 1) (less k left p) g) (rw e refl) (rw e refl)
  by_said {c = c} {left = left} (gives {a = Access x} {l = l} {k = k} f e g p) s t =
      access x l (step_of log c).state refl (within (step_of log) (left - 1) (less k left p) g) (rw e refl) (rw e refl)

  -- ONE STEP
  pub step_on : (m : Moment) {rest : List Act} {left : ℕ} → Gives (step_of log) m.cursor rest left → (w : Walked) → w ≡ walk_step log m → Onward log m rest left w
  step_on m g w e = rw e (by_said g m.state m.time)

  -- the steps are enough
  pub some_left : {c : Cursor} {rest : List Act} {left : ℕ} → Gives (step_of log) c rest left → 0 < left
  some_left (ends f e p) = p
  some_left (goes f e g p) = omega arith
  some_left (gives f e g p) = omega arith

-- no clock is worked, whatever the log
given_time : (x : Given) (m : Moment) (c : Cursor) → (given_met x m c).moment.time ≡ m.time
unfolding given_met
given_time (Given.Act a) m c = refl
given_time Given.Moved m c = refl
given_time Given.End m c = refl
given_time (Given.Refused k p) m c = refl

pub step_time : (log : List ℕ) (m : Moment) (w : Walked) → w ≡ walk_step log m → w.moment.time ≡ m.time
unfolding walk_step
step_time log m w e = rw e (given_time (told (step_of log m.cursor).said) m (step_of log m.cursor).state)

-- BY WHAT WAS MET, as a `match` finds it

-- the act a came first; s is the state behind it
pub record Came (log : List ℕ) (m : Moment) (rest : List Act) (left : ℕ) (next : Moment) (a : Act) (s : State) : Type 0 where
  pub acts : List Act
  pub first : rest ≡ a ∷ acts
  pub gives : Gives (step_of log) next.cursor acts (left - 1)
  pub state : next.state ≡ s
  pub time : next.time ≡ m.time

pub record Levels (m : Moment) (x : busAccess.Access) (before after : ℕ) : Type 0 where
  pub old : before ≡ state_level m.state
  pub new : after ≡ state_level (access_state x m.state)

pub record Stayed (log : List ℕ) (m : Moment) (rest : List Act) (left : ℕ) (next : Moment) : Type 0 where
  pub gives : Gives (step_of log) next.cursor rest (left - 1)
  pub state : next.state ≡ m.state
  pub time : next.time ≡ m.time

pub record Closed (m : Moment) (rest : List Act) (next : Moment) : Type 0 where
  pub none : rest ≡ []
  pub state : next.state ≡ m.state
  pub time : next.time ≡ m.time

module _ {log : List ℕ} {m : Moment} {rest : List Act} {left : ℕ} {w : Walked} where
  pub at_access : Onward log m rest left w → (x : busAccess.Access) (b a : ℕ) → w.met ≡ Met.Access x b a
      → Came log m rest left w.moment (Access x) (access_state x m.state) × Levels m x b a
  at_access (access y l c r g e n) x b a h =
      let i : y ≡ x = cc in
      let j : b ≡ state_level m.state = cc in
      let k : a ≡ state_level (access_state y m.state) = cc in
      (rw n (record { acts = l; first = rw i at r; gives = g; state = rw i refl; time = refl }), record { old = j; new = rw i at k })
  at_access (wait n l c r g e f) x b a h = let z : ◌≡◌ {A = ℕ} 0 1 = cc in absurd (omega arith)
  at_access (moved c g e f) x b a h = let z : ◌≡◌ {A = ℕ} 0 1 = cc in absurd (omega arith)
  at_access (end c r e f) x b a h = let z : ◌≡◌ {A = ℕ} 0 1 = cc in absurd (omega arith)

  pub at_wait : Onward log m rest left w → (n : ℕ) → w.met ≡ Met.Wait n → Came log m rest left w.moment (Wait n) m.state
  at_wait (access y l c r g e f) n h = let z : ◌≡◌ {A = ℕ} 0 1 = cc in absurd (omega arith)
  at_wait (wait k l c r g e f) n h =
      let i : k ≡ n = cc in
      rw f (record { acts = l; first = rw i at r; gives = g; state = refl; time = refl })
  at_wait (moved c g e f) n h = let z : ◌≡◌ {A = ℕ} 0 1 = cc in absurd (omega arith)
  at_wait (end c r e f) n h = let z : ◌≡◌ {A = ℕ} 0 1 = cc in absurd (omega arith)

  pub at_moved : Onward log m rest left w → w.met ≡ Met.Moved → Stayed log m rest left w.moment
  at_moved (access y l c r g e f) h = let z : ◌≡◌ {A = ℕ} 0 1 = cc in absurd (omega arith)
  at_moved (wait k l c r g e f) h = let z : ◌≡◌ {A = ℕ} 0 1 = cc in absurd (omega arith)
  at_moved (moved c g e f) h = rw f (record { gives = g; state = refl; time = refl })
  at_moved (end c r e f) h = let z : ◌≡◌ {A = ℕ} 0 1 = cc in absurd (omega arith)

  pub at_end : Onward log m rest left w → w.met ≡ Met.End → Closed m rest w.moment
  at_end (access y l c r g e f) h = let z : ◌≡◌ {A = ℕ} 0 1 = cc in absurd (omega arith)
  at_end (wait k l c r g e f) h = let z : ◌≡◌ {A = ℕ} 0 1 = cc in absurd (omega arith)
  at_end (moved c g e f) h = let z : ◌≡◌ {A = ℕ} 0 1 = cc in absurd (omega arith)
  at_end (end c r e f) h = rw f (record { none = r; state = refl; time = refl })

  -- a line at fault is never met
  pub at_refused : {A : Type 0} → Onward log m rest left w → (k p : ℕ) → w.met ≡ Met.Refused k p → A
  at_refused (access y l c r g e f) k p h = let z : ◌≡◌ {A = ℕ} 0 1 = cc in absurd (omega arith)
  at_refused (wait n l c r g e f) k p h = let z : ◌≡◌ {A = ℕ} 0 1 = cc in absurd (omega arith)
  at_refused (moved c g e f) k p h = let z : ◌≡◌ {A = ℕ} 0 1 = cc in absurd (omega arith)
  at_refused (end c r e f) k p h = let z : ◌≡◌ {A = ℕ} 0 1 = cc in absurd (omega arith)

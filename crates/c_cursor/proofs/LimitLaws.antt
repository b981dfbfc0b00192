-- What a step finds is within document 01's limits, and the cursor keeps the ranges of its types. Assumes nothing.
use Rattle.std.specs.Prelude.{Result, Ok, Err}
use mathlib.Core.Path.{◌≡◌, refl}
use mathlib.Core.List.{List, [], ◌∷◌}
use Prim.Native.Nat.{ℕ, zero, suc, ◌-◌, ◌^◌, ◌≤◌, ◌<◌}
use native.Mathlib.Omega.{arith}
use borrow.Author.Tests.{ltb-true, ltb-false, leb-true}
use lib.ListN.{length, get_or, set, length-set}
use lib.Dec.{eqb, leb, ltb}
use Rattle.refusal.specs.declared.Refusal.{Refusal}
use Rattle.arith.proofs.PickLaws.{pick_both, pick_each}
use Rattle.reading.specs.Saying.{Said, over, on, refused}
use Rattle.log_line.specs.declared.Act.{Act}
use Rattle.log_line.specs.declared.Act.TheVariants.{Wait}
use Rattle.log_line.specs.declared.Line.{Line}
use Rattle.log_line.specs.declared.Line.TheVariants.{Header, Machine, One, Loop, Done, Stop, NoForm, NoRegister}
use Rattle.log_line.specs.Printed.{Allowed, Printable}
use Rattle.log_fault.specs.declared.Stand.{Stand}
use Rattle.log_fault.specs.Fault.{spot_of}
use Rattle.log_fault.proofs.FaultLaws.{right_line}
use Rattle.log_fault.proofs.Standing.{bounded}
use Rattle.log_rules.specs.Lines.{bytes_at, next_line}
use Rattle.log_rules.specs.Reading.{taken, standing, read_in}
use Rattle.log_rules.specs.Tree.{act_clocks}
use Rattle.log_rules.proofs.PlaceLaws.{bytes_long, next_le}
use Rattle.log_cursor.specs.declared.Cursor.{Cursor}
use Rattle.log_cursor.specs.Stepping.{Go, go, told, loops_open, moved_to, entered, again, turned, followed, read_step, step_of}
use Rattle.c_cursor.specs.Cursors.{CursorFits}
use Rattle.c_cursor.specs.Next.{next_in, next_of}
use Rattle.c_cursor.specs.Limits.{FoundIn}
use Rattle.c_cursor.proofs.NextLaws.{next_keeps, next_says}

-- A LINE THAT WAS READ

-- a line that was read at a place: within the limits, and so are its place and the next line's; a refusal's place is in the log
abbrev ReadWithin : ℕ → Result (Line × ℕ) Refusal → Type 0
ReadWithin at (Ok (l, p)) = Printable l × (at ≤ 60000) × (p ≤ 60000)
ReadWithin at (Err e) = e.place ≤ 60000

module _ (st : Stand) (log : List ℕ) (at : ℕ) where
  taken_within : length log ≤ 60000 → at < length log → (f : Result Line Refusal) → spot_of st (bytes_at log at) ≡ f → ReadWithin at (taken at (next_line log at) f)
  taken_within s h (Ok l) e =
      let n = next_le log at (omega arith) in
      ((right_line st (bytes_at log at) l e).within, omega arith, omega arith)
  taken_within s h (Err why) e =
      let n = next_le log at (omega arith) in
      let b = (bounded st (bytes_at log at) why.number why.place e).place in
      let l = bytes_long log at in
      omega arith

  read_within : ReadWithin at (read_in st log at)
  unfolding read_in
  read_within =
      pick_each (ReadWithin at) (ltb 60000 (length log)) (λ e. omega arith) λ e.
      let s = ltb-false 60000 (length log) e in
      pick_each (ReadWithin at) (ltb at (length log))
      (λ h. taken_within s (ltb-true at (length log) h) (spot_of st (bytes_at log at)) refl) (λ h. s)

-- WHAT A STEP FINDS
abbrev SaidIn : Go → Type 0
SaidIn t = FoundIn (told t.said)

allowed : (a : Act) → Allowed a → act_clocks a ≤ 1000000
unfolding act_clocks
allowed (Wait n) h = h.1
allowed (Act.Access x) h = omega arith

module _ (c : Cursor) where
  turned_says : (d p n : ℕ) → SaidIn (turned c d p n)
  unfolding turned
  turned_says d p n = pick_both SaidIn (eqb n 0) {a = go on (moved_to c (d - 1) p)} {b = go on (again c d n)} tt tt

  followed_says : (d p : ℕ) (l : Line) → Printable l → c.at ≤ 60000 → SaidIn (followed c d p l)
  unfolding followed
  followed_says d p Header h k = tt
  followed_says d p Machine h k = tt
  followed_says d p (One a) h k = allowed a h
  followed_says d p (Loop n) h k = pick_both SaidIn (ltb d 8) {a = go on (entered c d p n)} {b = go (refused 7 c.at) c} tt k
  followed_says d p Done h k =
      pick_both SaidIn (eqb d 0) {a = go (refused 8 c.at) c} {b = turned c d p (get_or c.left (d - 1) 0)} k (turned_says d p (get_or c.left (d - 1) 0))
  followed_says d p (Stop n) h k = pick_both SaidIn (eqb d 0) {a = go over c} {b = go (refused 8 c.at) c} tt k
  followed_says d p NoForm h k = k
  followed_says d p NoRegister h k = k

  read_says : (r : Result (Line × ℕ) Refusal) → ReadWithin c.at r → SaidIn (read_step c r)
  unfolding read_step
  read_says (Ok (l, p)) h = followed_says (loops_open c) p l h.0 h.1
  read_says (Err e) h = h

step_says : (log : List ℕ) (c : Cursor) → FoundIn (told (step_of log c).said)
unfolding step_of
step_says log c =
    let st = standing log c.at (loops_open c) in
    read_says c (read_in st log c.at) (read_within st log c.at)

pub found_in : (log : List ℕ) (c : Cursor) → FoundIn (next_of log c).found
unfolding next_of
found_in log c = next_says (step_of log) (λ w. FoundIn (told w)) tt (step_says log) 2000002 c

-- THE CURSOR'S RANGES

set_most : (l : List ℕ) (i v m j : ℕ) → ((k : ℕ) → get_or l k 0 < m) → v < m → get_or (set l i v) j 0 < m
set_most [] i v m j h k = h j
set_most (x ∷ l) zero v m zero h k = k
set_most (x ∷ l) zero v m (suc j) h k = h (suc j)
set_most (x ∷ l) (suc i) v m zero h k = h 0
set_most (x ∷ l) (suc i) v m (suc j) h k = set_most l i v m j (λ n. h (suc n)) k

abbrev GoFits : Go → Type 0
GoFits t = CursorFits t.state

module _ (c : Cursor) (f : CursorFits c) where
  open_few : loops_open c ≤ 8
  unfolding loops_open
  open_few = pick_each (λ (d : ℕ). d ≤ 8) (leb c.depth 8) (λ e. leb-true c.depth 8 e) (λ e. omega arith)

  passed_fits : (d p : ℕ) → d ≤ 8 → p ≤ 60000 → CursorFits (moved_to c d p)
  passed_fits d p h k = record { at = omega arith; depth = omega arith; starts = f.starts; left = f.left }

  entered_fits : (d p n : ℕ) → d ≤ 8 → p ≤ 60000 → n ≤ 255 → CursorFits (entered c d p n)
  entered_fits d p n h k m =
      record {
        at = omega arith;
        depth = omega arith;
        starts = (rw length-set f.starts.0, λ j. set_most c.starts d p (2 ^ 64) j f.starts.1 (omega arith));
        left = (rw length-set f.left.0, λ j. set_most c.left d (n - 1) 256 j f.left.1 (omega arith));
      }

  again_fits : (d n : ℕ) → d ≤ 8 → n < 256 → CursorFits (again c d n)
  again_fits d n h k =
      record {
        at = f.starts.1 (d - 1);
        depth = omega arith;
        starts = f.starts;
        left = (rw length-set f.left.0, λ j. set_most c.left (d - 1) (n - 1) 256 j f.left.1 (omega arith));
      }

  turned_fits : (d p n : ℕ) → d ≤ 8 → p ≤ 60000 → n < 256 → GoFits (turned c d p n)
  unfolding turned
  turned_fits d p n h k m =
      pick_both GoFits (eqb n 0) {a = go on (moved_to c (d - 1) p)} {b = go on (again c d n)} (passed_fits (d - 1) p (omega arith) k) (again_fits d n h m)

  followed_fits : (d p : ℕ) (l : Line) → d ≤ 8 → p ≤ 60000 → Printable l → GoFits (followed c d p l)
  unfolding followed
  followed_fits d p Header h k w = passed_fits d p h k
  followed_fits d p Machine h k w = passed_fits d p h k
  followed_fits d p (One a) h k w = passed_fits d p h k
  followed_fits d p (Loop n) h k w =
      pick_both GoFits (ltb d 8) {a = go on (entered c d p n)} {b = go (refused 7 c.at) c} (entered_fits d p n h k w.1) f
  followed_fits d p Done h k w =
      pick_both GoFits (eqb d 0) {a = go (refused 8 c.at) c} {b = turned c d p (get_or c.left (d - 1) 0)} f
      (turned_fits d p (get_or c.left (d - 1) 0) h k (f.left.1 (d - 1)))
  followed_fits d p (Stop n) h k w = pick_both GoFits (eqb d 0) {a = go over c} {b = go (refused 8 c.at) c} f f
  followed_fits d p NoForm h k w = f
  followed_fits d p NoRegister h k w = f

  read_step_fits : (r : Result (Line × ℕ) Refusal) → ReadWithin c.at r → GoFits (read_step c r)
  unfolding read_step
  read_step_fits (Ok (l, p)) h = followed_fits (loops_open c) p l open_few h.2 h.0
  read_step_fits (Err e) h = f

step_fits : (log : List ℕ) (c : Cursor) → CursorFits c → CursorFits (step_of log c).state
unfolding step_of
step_fits log c f =
    let st = standing log c.at (loops_open c) in
    read_step_fits c f (read_in st log c.at) (read_within st log c.at)

pub next_fits : (log : List ℕ) (n : ℕ) (c : Cursor) → CursorFits c → CursorFits (next_in (step_of log) n c).state
next_fits log n c f = next_keeps (step_of log) CursorFits (step_fits log) n c f

-- AT THE END A CURSOR STAYS
abbrev Stays : Cursor → Go → Type 0
Stays c t = t.said ≡ over → t.state ≡ c

module _ (c : Cursor) where
  on_no : {w : Said Act} → w ≡ on → w ≡ over → ⊥
  on_no a b = let z : ◌≡◌ {A = ℕ} 0 1 = cc in omega arith

  turned_stays : (d p n : ℕ) → Stays c (turned c d p n)
  unfolding turned
  turned_stays d p n =
      pick_both (Stays c) (eqb n 0) {a = go on (moved_to c (d - 1) p)} {b = go on (again c d n)}
      (λ e. absurd (on_no refl e)) (λ e. absurd (on_no refl e))

  followed_stays : (d p : ℕ) (l : Line) → Stays c (followed c d p l)
  unfolding followed
  followed_stays d p Header = λ e. absurd (on_no refl e)
  followed_stays d p Machine = λ e. absurd (on_no refl e)
  followed_stays d p (One a) = λ e. absurd (let z : ◌≡◌ {A = ℕ} 0 1 = cc in omega arith)
  followed_stays d p (Loop n) = pick_both (Stays c) (ltb d 8) {a = go on (entered c d p n)} {b = go (refused 7 c.at) c} (λ e. absurd (on_no refl e)) (λ e. refl)
  followed_stays d p Done =
      pick_both (Stays c) (eqb d 0) {a = go (refused 8 c.at) c} {b = turned c d p (get_or c.left (d - 1) 0)} (λ e. refl) (turned_stays d p (get_or c.left (d - 1) 0))
  followed_stays d p (Stop n) = pick_both (Stays c) (eqb d 0) {a = go over c} {b = go (refused 8 c.at) c} (λ e. refl) (λ e. refl)
  followed_stays d p NoForm = λ e. refl
  followed_stays d p NoRegister = λ e. refl

  read_stays : (r : Result (Line × ℕ) Refusal) → Stays c (read_step c r)
  unfolding read_step
  read_stays (Ok (l, p)) = followed_stays (loops_open c) p l
  read_stays (Err why) = λ e. refl

pub step_stays : (log : List ℕ) (c : Cursor) → (step_of log c).said ≡ over → (step_of log c).state ≡ c
unfolding step_of
step_stays log c = read_stays c (read_in (standing log c.at (loops_open c)) log c.at)

-- From the beginning of a log that was read as a tree, the cursor gives the acts of the tree, one after the other, and then the end. Assumes nothing.
use Rattle.std.specs.Prelude.{Ok}
use mathlib.Core.Path.{◌≡◌, refl, ap, sym, ◌∙◌, ap₂}
use mathlib.Core.List.{List, [], ◌∷◌, ◌++◌, append_assoc, append-nil}
use Prim.Native.Nat.{ℕ, zero, suc, ◌+◌, ◌-◌, ◌*◌, ◌≤◌, ◌<◌}
use native.Mathlib.Numerals.{add-one, sub-one}
use native.Mathlib.Nat.{suc-mul, zero-mul, mul-add, mul-le-mul, mul_left_comm}
use native.Mathlib.Omega.{arith}
use borrow.Author.Tests.{lt-ltb, eq-eqb, ne_eqb, le-leb}
use lib.ListN.{length, take, get_or, set, length-set}
use lib.Seq.{take-suc-set, take-take, get_or-take, take_at, get_or_at, length-take-le}
use Rattle.reading.specs.Saying.{over, on, says, Gives}
use Rattle.reading.proofs.SayingLaws.{within, by_says, by_on, by_over}
use Rattle.log_line.specs.declared.Act.{Act}
use Rattle.log_line.specs.declared.Line.{Line}
use Rattle.log_line.specs.declared.Line.TheVariants.{Header, Machine, One, Loop, Done, Stop}
use Rattle.log_fault.proofs.Standing.{Goes, act as acts-on, opens as opened-on, closes as closes-on, ends as ends_on}
use Rattle.log_rules.proofs.PlaceLaws.{had_at, had_text, to_depth}
use Rattle.log_rules.specs.Reading.{standing, read_in, read_at}
use Rattle.log_rules.specs.Tree.{Tree, end, act, loop, acts, times, turns}
use Rattle.log_rules.proofs.Derived.{Ending, closes, stops, Reads, an_act, a_loop, a_done, a_stop}
use Rattle.log_cursor.specs.declared.Cursor.{Cursor}
use Rattle.log_cursor.specs.Stepping.{go, beginning, loops_open, moved_to, entered, again, turned, followed, read_step, step_of}

-- A CURSOR AT A PLACE

-- lines passed on the way through a tree
unfoldable pub lines : Tree → ℕ
lines end = 0
lines (act a t) = 1 + lines t
lines (loop n b t) = 1 + n * (1 + lines b) + lines t

-- a cursor at a place, with d loops open, their bodies' starts and the turns left
pub record At (c : Cursor) (at d : ℕ) (s l : List ℕ) : Type 0 where
  pub place : c.at ≡ at
  pub depth : c.depth ≡ d
  pub low : d ≤ 8
  pub starts : take d c.starts ≡ s
  pub left : take d c.left ≡ l
  pub room : length c.starts ≡ 8
  pub space : length c.left ≡ 8

starts_long : {c : Cursor} {at d : ℕ} {s l : List ℕ} → At c at d s l → length s ≡ d
starts_long {c} {at} {d} h = ap length (sym h.starts) ∙ length-take-le d c.starts (omega arith)

left_long : {c : Cursor} {at d : ℕ} {s l : List ℕ} → At c at d s l → length l ≡ d
left_long {c} {at} {d} h = ap length (sym h.left) ∙ length-take-le d c.left (omega arith)

module _ (log : List ℕ) (c : Cursor) (at d : ℕ) (s l : List ℕ) (h : At c at d s l) where
  open_is : loops_open c ≡ d
  unfolding loops_open
  open_is = rw (h.depth, le-leb d 8 h.low)

  step_in : (x : Line) (p : ℕ) → read_in (standing log at d) log at ≡ Ok (x, p) → step_of log c ≡ followed c d p x
  unfolding step_of read_step
  step_in x p e =
      ap₂ (λ (i k : ℕ). read_step c (read_in (standing log i k) log i)) h.place open_is
      ∙ (ap (read_step c) e ∙ ap (λ (k : ℕ). followed c k p x) open_is)

  step_by_lem : (x : Line) (p : ℕ) → Goes d x → read_at log at ≡ Ok (x, p) → step_of log c ≡ followed c d p x
  step_by_lem x p g e = step_in x p (to_depth log at d x p g e)

  pass_at : (p : ℕ) → At (moved_to c d p) p d s l
  pass_at p = record { place = refl; depth = refl; low = h.low; starts = h.starts; left = h.left; room = h.room; space = h.space }

  act_said : (a : Act) (p : ℕ) → read_at log at ≡ Ok (One a, p) → step_of log c ≡ go (says a) (moved_to c d p)
  unfolding followed
  act_said a p e = step_by_lem (One a) p acts-on e

  loop_said : (n p : ℕ) → read_at log at ≡ Ok (Loop n, p) → d < 8 → step_of log c ≡ go on (entered c d p n)
  unfolding followed
  loop_said n p e k = step_by_lem (Loop n) p (opened-on k) e ∙ rw (lt-ltb d 8 k) refl

  enter_at : (p m : ℕ) → d < 8 → At (entered c d p (suc m)) p (d + 1) (s ++ (p ∷ [])) (l ++ (m ∷ []))
  enter_at p m k =
      record {
        place = refl;
        depth = refl;
        low = omega arith;
        starts = rw add-one (take-suc-set c.starts d p (omega arith) ∙ ap (λ (x : List ℕ). x ++ (p ∷ [])) h.starts);
        left = rw add-one (ap (λ (x : ℕ). take (suc d) (set c.left d x)) (sub-one (suc m)) ∙ (take-suc-set c.left d m (omega arith) ∙ ap (λ (x : List ℕ). x ++ (m ∷ [])) h.left));
        room = rw length-set h.room;
        space = rw length-set h.space;
      }

stop_said : (log : List ℕ) (c : Cursor) (at n p : ℕ) (s l : List ℕ) → At c at 0 s l → read_at log at ≡ Ok (Stop n, p) → step_of log c ≡ go over c
unfolding followed
stop_said log c at n p s l h e = step_by_lem log c at 0 s l h (Stop n) p (ends_on refl) e

-- AT THE `done` OF A LOOP

-- at the `done` of a loop whose body began at e, with m turns left
module _ (log : List ℕ) (c : Cursor) (at d e m p : ℕ) (s l : List ℕ) (hs : length s ≡ d) (hl : length l ≡ d)
    (h : At c at (d + 1) (s ++ (e ∷ [])) (l ++ (m ∷ []))) (done : read_at log at ≡ Ok (Done, p)) where
  down : d + 1 - 1 ≡ d
  down = omega arith

  left_is : get_or c.left d 0 ≡ m
  left_is = sym (get_or-take (d + 1) c.left d 0 (omega arith)) ∙ (ap (λ (x : List ℕ). get_or x d 0) h.left ∙ get_or_at l m [] 0 d hl)

  start_is : get_or c.starts d 0 ≡ e
  start_is = sym (get_or-take (d + 1) c.starts d 0 (omega arith)) ∙ (ap (λ (x : List ℕ). get_or x d 0) h.starts ∙ get_or_at s e [] 0 d hs)

  below_starts : take d c.starts ≡ s
  below_starts = sym (take-take d (d + 1) c.starts (omega arith)) ∙ (ap (take d) h.starts ∙ take_at s (e ∷ []) d hs)

  below_left : take d c.left ≡ l
  below_left = sym (take-take d (d + 1) c.left (omega arith)) ∙ (ap (take d) h.left ∙ take_at l (m ∷ []) d hl)

  done_said : step_of log c ≡ turned c (d + 1) p m
  unfolding followed
  done_said =
      step_by_lem log c at (d + 1) (s ++ (e ∷ [])) (l ++ (m ∷ [])) h Done p (closes-on (omega arith)) done
      ∙ rw (ne_eqb (d + 1) 0 (λ z. omega arith), down, left_is) refl

  last_said : m ≡ 0 → step_of log c ≡ go on (moved_to c d p)
  unfolding turned
  last_said q = done_said ∙ rw (eq-eqb m 0 q, down) refl

  last_at_lem : At (moved_to c d p) p d s l
  last_at_lem = record { place = refl; depth = refl; low = omega arith; starts = below_starts; left = below_left; room = h.room; space = h.space }

  again_said : (m ≡ 0 → ⊥) → step_of log c ≡ go on (again c (d + 1) m)
  unfolding turned
  again_said q = done_said ∙ rw (ne_eqb m 0 q) refl

  again_at : (m' : ℕ) → m ≡ suc m' → At (again c (d + 1) m) e (d + 1) (s ++ (e ∷ [])) (l ++ (m' ∷ []))
  again_at m' q =
      record {
        place = rw down start_is;
        depth = refl;
        low = h.low;
        starts = h.starts;
        left = rw (down, q, add-one, sub-one) (take-suc-set c.left d m' (omega arith) ∙ ap (λ (x : List ℕ). x ++ (m' ∷ [])) below_left);
        room = h.room;
        space = rw length-set h.space;
      }

-- A BLOCK GIVES ITS ACTS

-- what is left behind a block that a `done` closes, p being the place behind that
abbrev Closing : List ℕ → ℕ → ℕ → List ℕ → List ℕ → List Act → ℕ → Type 0
Closing log p d s l rest k = (c : Cursor) (q : ℕ) → At c q d s l → read_at log q ≡ Ok (Done, p) → Gives (step_of log) c rest k

abbrev Behind : List ℕ → Ending → ℕ → List ℕ → List ℕ → List Act → ℕ → Type 0
Behind log (closes q p) d s l rest k = Closing log p d s l rest k
Behind log (stops q p n) d s l rest k = (rest ≡ []) × (0 < k)

module _ (log : List ℕ) (d e p : ℕ) (b : Tree) (s l : List ℕ) (rest : List Act) (k : ℕ) (hs : length s ≡ d) (hl : length l ≡ d)
    (run : (s' l' : List ℕ) (rest' : List Act) (k' : ℕ) → Closing log p (d + 1) s' l' rest' k' → (c : Cursor) → At c e (d + 1) s' l' → Gives (step_of log) c (acts b ++ rest') (lines b + k'))
    (tail : (c : Cursor) → At c p d s l → Gives (step_of log) c rest k) where
  turns_left : (m : ℕ) (c : Cursor) → At c e (d + 1) (s ++ (e ∷ [])) (l ++ (m ∷ [])) → Gives (step_of log) c (times (suc m) (acts b) ++ rest) (suc m * (1 + lines b) + k)
  unfolding times
  turns_left zero c h =
      rw (append-nil, suc-mul, zero-mul)
      (within (step_of log) _ (omega arith)
      (run (s ++ (e ∷ [])) (l ++ (0 ∷ [])) rest (1 + k)
      (λ c' q h' done.
      by_on (step_of log) (1 + k) (last_said log c' q d e 0 p s l hs hl h' done refl)
      (tail (moved_to c' d p) (last_at_lem log c' q d e 0 p s l hs hl h' done))
      (omega arith))
      c h))
  turns_left (suc m) c h =
      rw (append_assoc, suc-mul)
      (within (step_of log) _ (omega arith)
      (run (s ++ (e ∷ [])) (l ++ (suc m ∷ [])) (times (suc m) (acts b) ++ rest) (1 + (suc m * (1 + lines b) + k))
      (λ c' q h' done.
      by_on (step_of log) (1 + (suc m * (1 + lines b) + k)) (again_said log c' q d e (suc m) p s l hs hl h' done (λ z. omega arith))
      (turns_left m (again c' (d + 1) (suc m)) (again_at log c' q d e (suc m) p s l hs hl h' done m refl))
      (omega arith))
      c h))

-- a loop line, its turns, and what is behind it
loop_run : (log : List ℕ) (at d n e p : ℕ) (b : Tree) (s l : List ℕ) (rest : List Act) (k : ℕ) → read_at log at ≡ Ok (Loop n, e) → 0 < n → d < 8
    → ((s' l' : List ℕ) (rest' : List Act) (k' : ℕ) → Closing log p (d + 1) s' l' rest' k' → (c : Cursor) → At c e (d + 1) s' l' → Gives (step_of log) c (acts b ++ rest') (lines b + k'))
    → ((c : Cursor) → At c p d s l → Gives (step_of log) c rest k)
    → (c : Cursor) → At c at d s l → Gives (step_of log) c (times n (acts b) ++ rest) (1 + (n * (1 + lines b) + k))
loop_run log at d zero e p b s l rest k r z low run tail c h = absurd (omega arith)
loop_run log at d (suc m) e p b s l rest k r z low run tail c h =
    by_on (step_of log) _ (loop_said log c at d s l h (suc m) e r low)
    (turns_left log d e p b s l rest k (starts_long h) (left_long h) run tail m (entered c d e (suc m)) (enter_at log c at d s l h e m low))
    (omega arith)

-- a block gives its acts, and then what is behind it
block_gives : {log : List ℕ} {at d : ℕ} {t : Tree} {e : Ending} → Reads log at d t e
    → (s l : List ℕ) (rest : List Act) (k : ℕ) → Behind log e d s l rest k → (c : Cursor) → At c at d s l → Gives (step_of log) c (acts t ++ rest) (lines t + k)
unfolding acts lines
block_gives {log = log} {at = at} {d = d} (an_act {p = p} {a = a} e r) s l rest k K c h =
    by_says (step_of log) _ (act_said log c at d s l h a p e)
    (block_gives r s l rest k K (moved_to c d p) (pass_at log c at d s l h p))
    (omega arith)
block_gives {log = log} {at = at} {d = d} (a_loop {n = n} {p = p} {r = r} {b = b} {t = t} e z low body tail) s l rest k K c h =
    rw append_assoc
    (within (step_of log) _ (omega arith)
    (loop_run log at d n p r b s l (acts t ++ rest) (lines t + k) e z low
    (λ s' l' rest' k' K' c' h'. block_gives body s' l' rest' k' K' c' h')
    (λ c' h'. block_gives tail s l rest k K c' h')
    c h))
block_gives {at = at} (a_done e z) s l rest k K c h = within _ _ (omega arith) (K c at h e)
block_gives {log = log} {at = at} (a_stop {p = p} {n = n} e) s l rest k K c h =
    rw K.0 (by_over (step_of log) _ (stop_said log c at n p s l h e) (omega arith))

-- HOW MANY LINES ARE PASSED

-- lines passed, by the turns: a loop's own line is paid for by its two turns or more
few : (n a b : ℕ) → 2 ≤ n → 2 * a ≤ 3 * b → 2 * (1 + n * (1 + a)) ≤ 3 * (n * (1 + b))
few n a b z h =
    let i = mul-le-mul {n₁ = n} {m₁ = 2 * (1 + a)} {n₂ = n} {m₂ = 2 + 3 * b} (omega arith) (omega arith) in
    let j = mul_left_comm n 2 (1 + a) in
    let k = mul-add n 2 (3 * b) in
    let l = mul_left_comm n 3 b in
    let m = mul-add n 1 b in
    omega arith

lines_turns : {log : List ℕ} {at d : ℕ} {t : Tree} {e : Ending} → Reads log at d t e → 2 * lines t ≤ 3 * turns t
unfolding lines turns
lines_turns (an_act e r) = let i = lines_turns r in omega arith
lines_turns {log} {at} (a_loop {n = n} {p = p} {b = b} e z low r r') =
    let j = lines_turns r' in
    let i = few n (lines b) (turns b) (had_text (had_at log at (Loop n) p e)).1.0 (lines_turns r) in
    omega arith
lines_turns (a_done e z) = omega arith
lines_turns (a_stop e) = omega arith

-- FROM THE BEGINNING
begin_at : At beginning 0 0 [] []
begin_at = record { place = refl; depth = refl; low = omega arith; starts = refl; left = refl; room = refl; space = refl }

header_said : (log : List ℕ) (p : ℕ) → read_at log 0 ≡ Ok (Header, p) → step_of log beginning ≡ go on (moved_to beginning 0 p)
unfolding followed read_at standing
header_said log p e = step_in log beginning 0 0 [] [] begin_at Header p e

-- behind `log=1`
abbrev headed : Cursor
headed = moved_to beginning 0 6

headed_at : At headed 6 0 [] []
headed_at = record { place = refl; depth = refl; low = omega arith; starts = refl; left = refl; room = refl; space = refl }

machine_said : (log : List ℕ) (p : ℕ) → read_in (standing log 6 0) log 6 ≡ Ok (Machine, p) → step_of log headed ≡ go on (moved_to headed 0 p)
unfolding followed
machine_said log p e = step_in log headed 6 0 [] [] headed_at Machine p e

-- behind the head of a log, the list and then the end
turns_give : (log : List ℕ) (t : Tree) (c : Cursor) (p q r n : ℕ) → At c p 0 [] [] → Reads log p 0 t (stops q r n) → Gives (step_of log) c (acts t) (lines t + 1)
turns_give log t c p q r n a h = rw append-nil at (block_gives h [] [] [] 1 (refl, omega arith) c a)

-- the beginning gives the whole list and then the end: at most three steps for two turns, and one each for `log=1`, `machine=pal` and `stop`

module _ (log : List ℕ) (t : Tree) (p q r n : ℕ) (e : read_at log 0 ≡ Ok (Header, 6)) (h : Reads log p 0 t (stops q r n)) (few-turns : turns t ≤ 1000000) where
  pub begin_ntsc : p ≡ 6 → Gives (step_of log) beginning (acts t) 2000002
  begin_ntsc z =
      let i = lines_turns h in
      by_on (step_of log) 2000002 (header_said log 6 e) (turns_give log t headed p q r n (rw z headed_at) h) (omega arith)

  pub begin_pal : read_in (standing log 6 0) log 6 ≡ Ok (Machine, p) → Gives (step_of log) beginning (acts t) 2000002
  begin_pal m =
      let i = lines_turns h in
      by_on (step_of log) 2000002 (header_said log 6 e)
      (by_on (step_of log) (lines t + 2) (machine_said log p m) (turns_give log t (moved_to headed 0 p) p q r n (pass_at log headed 6 0 [] [] headed_at p) h) (omega arith))
      (omega arith)

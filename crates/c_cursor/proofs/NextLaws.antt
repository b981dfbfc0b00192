-- The loop that looks for the next item, step by step. Assumes nothing.
use mathlib.Core.Path.{◌≡◌, refl, ap, sym, ◌∙◌}
use mathlib.Core.List.{List, [], ◌∷◌}
use Prim.Native.Nat.{ℕ, zero, suc, ◌-◌, ◌≤◌, ◌<◌}
use native.Mathlib.Numerals.{sub-one}
use native.Mathlib.Omega.{arith}
use Rattle.reading.specs.Saying.{Said, over, on, says, refused, Turn, Gives, ends, goes, gives}
use Rattle.reading.proofs.SayingLaws.{within}
use Rattle.log_line.specs.declared.Act.{Act}
use Rattle.log_cursor.specs.declared.Cursor.{Cursor}
use Rattle.log_cursor.specs.declared.Given.{Given}
use Rattle.log_cursor.specs.declared.Stepped.{Stepped}
use Rattle.log_cursor.specs.Stepping.{told, stepped_of, step_of}
use Rattle.c_cursor.specs.Next.{ended_by, next_in}

module _ {S A : Type 0} (step : S → Turn S A) where
  turn_on : (s : S) (f : ℕ) → 0 < f → (step s).said ≡ on → next_in step f s ≡ next_in step (f - 1) (step s).state
  unfolding next_in ended_by
  turn_on s zero h e = absurd (omega arith)
  turn_on s (suc f) h e = rw (e, sub-one)

  turn_said : (s : S) (f : ℕ) → 0 < f → ((step s).said ≡ on → ⊥) → next_in step f s ≡ step s
  unfolding next_in ended_by
  turn_said s zero h n = absurd (omega arith)
  turn_said s (suc f) h n = go (step s).said n
    where
      go : (w : Said A) → (w ≡ on → ⊥) → ended_by w (step s) (next_in step f (step s).state) ≡ step s
      go over n = refl
      go on n = absurd (n refl)
      go (says a) n = refl
      go (refused k p) n = refl

  pub turn_none : (s : S) (f : ℕ) → f ≤ 0 → next_in step f s ≡ record { said = on; state = s }
  unfolding next_in
  turn_none s zero h = refl
  turn_none s (suc f) h = absurd (omega arith)

  -- what a step says and its state keep, the next keeps
  pub next_keeps : (P : S → Type 0) → ((s : S) → P s → P (step s).state) → (f : ℕ) (s : S) → P s → P (next_in step f s).state
  unfolding next_in ended_by
  next_keeps P k zero s h = h
  next_keeps P k (suc f) s h = go (step s).said (next_keeps P k f (step s).state (k s h))
    where
      go : (w : Said A) → P (next_in step f (step s).state).state → P (ended_by w (step s) (next_in step f (step s).state)).state
      go over r = k s h
      go on r = r
      go (says a) r = k s h
      go (refused n p) r = k s h

  pub next_says : (Q : Said A → Type 0) → Q on → ((s : S) → Q (step s).said) → (f : ℕ) (s : S) → Q (next_in step f s).said
  unfolding next_in ended_by
  next_says Q z k zero s = z
  next_says Q z k (suc f) s = go (step s).said (next_says Q z k f (step s).state)
    where
      go : (w : Said A) → Q (next_in step f (step s).state).said → Q (ended_by w (step s) (next_in step f (step s).state)).said
      go over r = k s
      go on r = r
      go (says a) r = k s
      go (refused n p) r = k s

  -- THE FIRST OF A LIST, and the rest is left
  pub record First (s : S) (a : A) (l : List A) (m f : ℕ) : Type 0 where
    pub said : (next_in step f s).said ≡ says a
    pub left : Gives step (next_in step f s).state l m

  pub first_in_lem : {s : S} {a : A} {l : List A} {k : ℕ} (m f : ℕ) → k ≤ f → k ≤ m → Gives step s (a ∷ l) k → First s a l m f
  unfolding next_in ended_by
  first_in_lem m zero h q (goes j e g p) = absurd (omega arith)
  first_in_lem m zero h q (gives j e g p) = absurd (omega arith)
  first_in_lem {s = s} {a = a} {l = l} {k = j} m (suc f) h q (goes {k = k'} _ e g p) =
      let r = first_in_lem {s = (step s).state} m f (omega arith) (omega arith) g in
      record { said = rw e r.said; left = rw e r.left }
  first_in_lem m (suc f) h q (gives j e g p) = record { said = rw e; left = rw e (within step m (omega arith) g) }

  -- WITH NONE LEFT, the end, and again
  pub record Last (s : S) (m f : ℕ) : Type 0 where
    pub said : (next_in step f s).said ≡ over
    pub left : Gives step (next_in step f s).state [] m

  pub last_in_lem : ((s : S) → (step s).said ≡ over → (step s).state ≡ s) → {s : S} {k : ℕ} (m f : ℕ) → k ≤ f → k ≤ m → Gives step s [] k → Last s m f
  unfolding next_in ended_by
  last_in_lem stays m zero h q (ends j e p) = absurd (omega arith)
  last_in_lem stays m zero h q (goes j e g p) = absurd (omega arith)
  last_in_lem stays {s = s} m (suc f) h q (ends j e p) = record { said = rw e; left = rw (e, stays s e) (ends m e (omega arith)) }
  last_in_lem stays {s = s} {k = j} m (suc f) h q (goes {k = k'} _ e g p) =
      let r = last_in_lem stays {s = (step s).state} m f (omega arith) (omega arith) g in
      record { said = rw e r.said; left = rw e r.left }

-- what is told of a step

told_on : (w : Said Act) → told w ≡ Given.Moved → w ≡ on
told_on over e = let z : ◌≡◌ {A = ℕ} 0 1 = cc in absurd (omega arith)
told_on on e = refl
told_on (says a) e = let z : ◌≡◌ {A = ℕ} 0 1 = cc in absurd (omega arith)
told_on (refused k p) e = let z : ◌≡◌ {A = ℕ} 0 1 = cc in absurd (omega arith)

told_no : (w : Said Act) → (told w ≡ Given.Moved → ⊥) → w ≡ on → ⊥
told_no w f e = f (ap told e)

module _ (log : List ℕ) (c : Cursor) (f : ℕ) (s : Stepped) (h : 0 < f) (e : s ≡ stepped_of (step_of log c)) where
  pub find_on : s.found ≡ Given.Moved → next_in (step_of log) f c ≡ next_in (step_of log) (f - 1) s.cursor
  find_on w =
      turn_on (step_of log) c f h (told_on (step_of log c).said (sym (ap (λ (r : Stepped). r.found) e) ∙ w))
      ∙ ap (next_in (step_of log) (f - 1)) (sym (ap (λ (r : Stepped). r.cursor) e))

  pub find_said : (s.found ≡ Given.Moved → ⊥) → s ≡ stepped_of (next_in (step_of log) f c)
  find_said o = e ∙ ap stepped_of (sym (turn_said (step_of log) c f h (told_no (step_of log c).said (rw e at o))))

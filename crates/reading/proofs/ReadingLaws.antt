-- Laws of the plain reading, for any clockwork. Assumes nothing.
use Prim.Native.Nat.{ℕ, zero, suc, ◌+◌, ◌-◌, ◌≤◌, ◌<◌, zero-le, suc-le-suc}
use mathlib.Core.Path.{◌≡◌, refl, sym, ap, ◌∙◌}
use mathlib.Core.Bool.{Bool, true, false}
use mathlib.Core.List.{List, [], ◌∷◌, ◌++◌, append_assoc, append-nil, map, map-append}
use mathlib.Core.Logic.{◌≢◌, ◌⊎◌, inl, inr, ⊎_elim}
use native.Mathlib.Nat.{add-zero, zero-add, suc-add, add_assoc}
use native.Mathlib.Numerals.{one-add}
use native.Mathlib.Omega.{arith}
use lib.Dec.{eqb}
use lib.ListN.{length, length-append}
use borrow.Author.Tests.{eq-eqb, ne_eqb, eqb-false}
use Rattle.arith.specs.Iterate.{iterate}
use Rattle.arith.specs.Pick.{pick}
use Rattle.arith.proofs.IterateLaws.{iterate_zero}
use Rattle.reading.specs.Reading.{Clockwork, Mark, Progress, raised, start, same, stopped, unrecorded, recorded, worked, reading, plain}

-- the same progress, counted from d clocks earlier and behind the records before it
abbrev pub later : {S : Type 0} → ℕ → List Mark → Progress S → Progress S
later d before p = record { state = p.state; done = d + p.done; room = p.room; marks = before ++ map (raised d) p.marks }

-- how far a reading went from p: k clocks, done one after the other
pub record Went {S : Type 0} (m : Clockwork S) (p q : Progress S) : Type 0 where
  pub clocks : ℕ
  pub done : q.done ≡ p.done + clocks
  pub state : q.state ≡ iterate m.clock clocks p.state

module _ {S : Type 0} (m : Clockwork S) where
  -- A STOP IS A FIXED POINT
  pub reading_stopped : (n : ℕ) (p : Progress S) → stopped m p ≡ true → reading m n p ≡ p
  unfolding reading
  reading_stopped zero p e = refl
  reading_stopped (suc n) p e = rw e

  -- a + b CLOCKS ARE a, THEN b, stopped or not
  pub reading_add : (a b : ℕ) (p : Progress S) → reading m (a + b) p ≡ reading m b (reading m a p)
  unfolding reading
  reading_add zero b p = rw zero-add
  reading_add (suc a) b p = rw suc-add (go (stopped m p) refl (reading_add a b (worked m p)))
    where
      go : (t : Bool) → stopped m p ≡ t
          → reading m (a + b) (worked m p) ≡ reading m b (reading m a (worked m p))
          → pick t p (reading m (a + b) (worked m p)) ≡ reading m b (pick t p (reading m a (worked m p)))
      go true e h = sym (reading_stopped b p e)
      go false e h = h

  worked_later : (d : ℕ) (before : List Mark) (p : Progress S) → worked m (later d before p) ≡ later d before (worked m p)
  unfolding worked
  worked_later d before p = go (same m p.state)
    where
      go : (t : Bool) → pick t (unrecorded m (later d before p)) (recorded m (later d before p)) ≡ later d before (pick t (unrecorded m p) (recorded m p))
      go true = simp add_assoc
      go false = simp (add_assoc, append_assoc, map-append)

  -- WHERE THE COUNTING STARTS DOESN'T MATTER
  pub reading_later : (n d : ℕ) (before : List Mark) (p : Progress S) → reading m n (later d before p) ≡ later d before (reading m n p)
  unfolding reading
  reading_later zero d before p = refl
  reading_later (suc n) d before p = go (stopped m p) (ap (reading m n) (worked_later d before p) ∙ reading_later n d before (worked m p))
    where
      go : (t : Bool)
          → reading m n (worked m (later d before p)) ≡ later d before (reading m n (worked m p))
          → pick t (later d before p) (reading m n (worked m (later d before p))) ≡ later d before (pick t p (reading m n (worked m p)))
      go true h = refl
      go false h = h

  -- a reading that goes on is the reading from its state and room, counted later
  pub reading_on : (n k : ℕ) (p : Progress S)
      → reading m (n + k) p ≡ later (reading m n p).done (reading m n p).marks (plain m (reading m n p).room k (reading m n p).state)
  unfolding plain
  reading_on n k p =
      reading_add n k p
      ∙ ap (reading m k) (from (reading m n p))
      ∙ reading_later k (reading m n p).done (reading m n p).marks (start (reading m n p).room (reading m n p).state)
    where
      from : (q : Progress S) → q ≡ later q.done q.marks (start q.room q.state)
      from q = rw (add-zero, append-nil)

  -- ROOM AND RECORDS TOGETHER STAY CONSTANT
  pub reading_room : (n : ℕ) (p : Progress S) → (reading m n p).room + length (reading m n p).marks ≡ p.room + length p.marks
  unfolding reading worked
  reading_room zero p = refl
  reading_room (suc n) p = go (m.full p.state) (same m p.state) (eqb p.room 0) refl (λ q. reading_room n q)
    where
      go : (f t u : Bool) → eqb p.room 0 ≡ u
          → ((q : Progress S) → (reading m n q).room + length (reading m n q).marks ≡ q.room + length q.marks)
          → let r = pick (pick f true (pick t false u)) p (reading m n (pick t (unrecorded m p) (recorded m p))) in
          r.room + length r.marks ≡ p.room + length p.marks
      go true t u e ih = refl
      go false true u e ih = ih _
      go false false true e ih = refl
      go false false false e ih =
          ih _
          ∙ ap (λ (k : ℕ). p.room - 1 + k) (length-append p.marks _)
          ∙ (let h : p.room ≢ 0 = eqb-false p.room 0 e in omega arith)

  -- no more clocks are done than are asked for
  pub reading_done : (n : ℕ) (p : Progress S) → (reading m n p).done ≤ p.done + n
  unfolding reading worked
  reading_done zero p = omega arith
  reading_done (suc n) p = go (stopped m p) (same m p.state) (λ q. reading_done n q)
    where
      go : (t u : Bool) → ((q : Progress S) → (reading m n q).done ≤ q.done + n)
          → (pick t p (reading m n (pick u (unrecorded m p) (recorded m p)))).done ≤ p.done + suc n
      go true u ih = omega arith
      go false true ih = omega (arith, ih (unrecorded m p))
      go false false ih = omega (arith, ih (recorded m p))

  -- no more records are written than clocks are done
  pub reading_few : (n : ℕ) (p : Progress S) → length (reading m n p).marks + p.done ≤ length p.marks + (reading m n p).done
  unfolding reading worked
  reading_few zero p = omega arith
  reading_few (suc n) p = go (stopped m p) (same m p.state) (λ q. reading_few n q)
    where
      go : (t u : Bool) → ((q : Progress S) → length (reading m n q).marks + q.done ≤ length q.marks + (reading m n q).done)
          → let r = pick t p (reading m n (pick u (unrecorded m p) (recorded m p))) in
          length r.marks + p.done ≤ length p.marks + r.done
      go true u ih = omega arith
      go false true ih = omega (arith, ih (unrecorded m p))
      go false false ih = omega (arith, ih (recorded m p), length-append p.marks (record { clock = p.done + 1; level = m.level (m.clock p.state) } ∷ []))

  -- WHAT A CLOCK THAT IS WORKED KEEPS, A READING KEEPS
  pub reading_kept : (P : S → Type 0) → ((s : S) → m.full s ≡ false → P s → P (m.clock s)) → (n : ℕ) (p : Progress S) → P p.state → P (reading m n p).state
  unfolding reading worked
  reading_kept P k zero p h = h
  reading_kept P k (suc n) p h = go (m.full p.state) refl (pick (same m p.state) false (eqb p.room 0)) (same m p.state) (λ q e. reading_kept P k n q e)
    where
      go : (f : Bool) → m.full p.state ≡ f → (t u : Bool) → ((q : Progress S) → P q.state → P (reading m n q).state)
          → P (pick (pick f true t) p (reading m n (pick u (unrecorded m p) (recorded m p)))).state
      go true e t u ih = h
      go false e true u ih = h
      go false e false true ih = ih _ (k p.state e h)
      go false e false false ih = ih _ (k p.state e h)

  pub reading_keeps : (P : S → Type 0) → ((s : S) → P s → P (m.clock s)) → (n : ℕ) (p : Progress S) → P p.state → P (reading m n p).state
  reading_keeps P k n p h = reading_kept P (λ s e q. k s q) n p h

  -- a reading ends at its count or where it stops
  pub reading_ends : (n : ℕ) (p : Progress S) → ((reading m n p).done ≡ p.done + n) ⊎ (stopped m (reading m n p) ≡ true)
  unfolding reading worked
  reading_ends zero p = inl (omega arith)
  reading_ends (suc n) p = go (stopped m p) refl (same m p.state) (λ q. reading_ends n q)
    where
      more : (a : ℕ) (q : Progress S) → q.done ≡ p.done + 1 → (a ≡ q.done + n) → a ≡ p.done + suc n
      more a q d e = omega arith

      go : (t : Bool) → stopped m p ≡ t → (u : Bool) → ((q : Progress S) → ((reading m n q).done ≡ q.done + n) ⊎ (stopped m (reading m n q) ≡ true))
          → let r = pick t p (reading m n (pick u (unrecorded m p) (recorded m p))) in (r.done ≡ p.done + suc n) ⊎ (stopped m r ≡ true)
      go true e u ih = inr e
      go false e true ih = ⊎_elim (λ d. inl (more _ (unrecorded m p) refl d)) (λ d. inr d) (ih (unrecorded m p))
      go false e false ih = ⊎_elim (λ d. inl (more _ (recorded m p) refl d)) (λ d. inr d) (ih (recorded m p))

  went_worked : (p q : Progress S) → Went m (worked m p) q → Went m p q
  unfolding worked iterate
  went_worked p q w = by (same m p.state) w
    where
      by : (t : Bool) → Went m (pick t (unrecorded m p) (recorded m p)) q → Went m p q
      by true w = record { clocks = suc w.clocks; done = omega (arith, w.done); state = w.state }
      by false w = record { clocks = suc w.clocks; done = omega (arith, w.done); state = w.state }

  -- THE STATE OF A READING is so many clocks on as it did
  pub reading_went : (n : ℕ) (p : Progress S) → Went m p (reading m n p)
  unfolding reading iterate
  reading_went zero p = record { clocks = 0; done = omega arith; state = refl }
  reading_went (suc n) p = by (stopped m p) (went_worked p (reading m n (worked m p)) (reading_went n (worked m p)))
    where
      by : (t : Bool) → Went m p (reading m n (worked m p)) → Went m p (pick t p (reading m n (worked m p)))
      by true w = record { clocks = 0; done = omega arith; state = sym (iterate_zero m.clock p.state) }
      by false w = w

  pub plain_went : (room n : ℕ) (s : S) → (plain m room n s).state ≡ iterate m.clock (plain m room n s).done s
  unfolding plain
  plain_went room n s =
      let w = reading_went n (start room s) in
      let e : w.clocks ≡ (reading m n (start room s)).done = omega (arith, w.done) in
      w.state ∙ ap (λ (k : ℕ). iterate m.clock k s) e

  -- CLOCKS THAT LEAVE THE LEVEL, AND THE ONE BEHIND THEM

  -- g clocks that leave the level as it was
  abbrev pub Unchanged : ℕ → S → Type 0
  Unchanged g s = (k : ℕ) → k ≤ g → m.level (iterate m.clock k s) ≡ m.level s

  -- the progress g clocks on, with no record
  abbrev pub leapt : ℕ → Progress S → Progress S
  leapt g p = record { state = iterate m.clock g p.state; done = p.done + g; room = p.room; marks = p.marks }

  -- OF A MACHINE THAT IS NEVER FULL
  module _ (never : (s : S) → m.full s ≡ false) where
    -- clocks that leave the level are passed with no record
    pub reading_quiet : (g : ℕ) (p : Progress S) → Unchanged g p.state → reading m g p ≡ leapt g p
    unfolding reading iterate worked
    reading_quiet zero p q = simp add-zero
    reading_quiet (suc g) p q =
        let e : m.level (m.clock p.state) ≡ m.level p.state = q 1 (suc-le-suc zero-le) in
        rw (never p.state, eq-eqb _ _ e) (reading_quiet g (unrecorded m p) (λ k h. q (suc k) (suc-le-suc h) ∙ sym e) ∙ simp (add_assoc, one-add))

    -- the one clock after a leap: no record
    pub reading_same : (g : ℕ) (p : Progress S) → Unchanged g p.state → same m (leapt g p).state ≡ true
        → reading m (g + 1) p ≡ unrecorded m (leapt g p)
    unfolding reading worked
    reading_same g p q e = reading_add g 1 p ∙ ap (reading m 1) (reading_quiet g p q) ∙ rw (never (leapt g p).state, e)

    -- the one clock after a leap: a record, with room
    pub reading_mark : (g : ℕ) (p : Progress S) → Unchanged g p.state → same m (leapt g p).state ≡ false → 0 < p.room
        → reading m (g + 1) p ≡ recorded m (leapt g p)
    unfolding reading worked
    reading_mark g p q e h = reading_add g 1 p ∙ ap (reading m 1) (reading_quiet g p q) ∙ rw (never (leapt g p).state, e, ne_eqb p.room 0 (omega arith))

    -- the one clock after a leap: no room
    pub reading_stop : (g n : ℕ) (p : Progress S) → Unchanged g p.state → same m (leapt g p).state ≡ false → p.room ≡ 0
        → reading m (g + n) p ≡ leapt g p
    reading_stop g n p q e h =
        reading_add g n p ∙ ap (reading m n) (reading_quiet g p q) ∙ reading_stopped n (leapt g p) (rw (never (leapt g p).state, e, eq-eqb _ _ h))

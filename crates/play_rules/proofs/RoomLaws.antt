-- A reading with more room goes on where one with less ended. For any machine. Assumes nothing.
use Prim.Native.Nat.{ℕ, zero, suc, ◌+◌, ◌-◌, ◌≤◌, ◌<◌}
use mathlib.Core.Path.{◌≡◌, refl, sym, ap, ◌∙◌}
use mathlib.Core.Bool.{Bool, true, false}
use mathlib.Core.List.{List, [], ◌∷◌, ◌++◌, append-nil}
use native.Mathlib.Nat.{add-zero, zero-add}
use native.Mathlib.Omega.{arith}
use lib.Dec.{eqb}
use lib.ListN.{length}
use borrow.Author.Tests.{ne_eqb, eqb-true, eqb-false}
use Rattle.arith.specs.Pick.{pick}
use Rattle.reading.specs.Reading.{Clockwork, Mark, Progress, start, same, stopped, unrecorded, recorded, worked, reading, plain}
use Rattle.reading.proofs.ReadingLaws.{later, reading_stopped, reading_later, reading_room, reading_done, reading_few}

-- every level is at most k
abbrev pub Below : ℕ → List Mark → Type 0
Below k [] = Unit {0}
Below k (m ∷ ms) = (m.level ≤ k) × Below k ms

below_append : (k : ℕ) (a b : List Mark) → Below k a → Below k b → Below k (a ++ b)
below_append k [] b h g = g
below_append k (m ∷ a) b h g = (h.0, below_append k a b h.1 g)

-- MORE ROOM

module _ {S : Type 0} (m : Clockwork S) where
  -- the same progress with more room
  abbrev roomier : ℕ → Progress S → Progress S
  roomier b p = record { state = p.state; done = p.done; room = p.room + b; marks = p.marks }

  goes_on_lem : (n : ℕ) (p : Progress S) → stopped m p ≡ false → reading m (suc n) p ≡ reading m n (worked m p)
  unfolding reading
  goes_on_lem n p e = rw e

  worked_done : (p : Progress S) → (worked m p).done ≡ p.done + 1
  unfolding worked
  worked_done p = by (same m p.state)
    where
      by : (t : Bool) → (pick t (unrecorded m p) (recorded m p)).done ≡ p.done + 1
      by true = refl
      by false = refl

  stopped_more : (b : ℕ) (p : Progress S) → stopped m p ≡ false → stopped m (roomier b p) ≡ false
  stopped_more b p e = by (m.full p.state) (same m p.state) (eqb p.room 0) refl e
    where
      by : (f t u : Bool) → eqb p.room 0 ≡ u → pick f true (pick t false u) ≡ false → pick f true (pick t false (eqb (p.room + b) 0)) ≡ false
      by true t u z e = e
      by false true u z e = refl
      by false false true z e = let y : ◌≡◌ {A = Bool} true false = e in absurd (let x : ◌≡◌ {A = ℕ} 0 1 = cc in omega arith)
      by false false false z e = let n = eqb-false p.room 0 z in ne_eqb (p.room + b) 0 (λ y. n (omega arith))

  worked_more : (b : ℕ) (p : Progress S) → stopped m p ≡ false → worked m (roomier b p) ≡ roomier b (worked m p)
  unfolding worked
  worked_more b p e = by (m.full p.state) (same m p.state) (eqb p.room 0) refl e
    where
      by : (f t u : Bool) → eqb p.room 0 ≡ u → pick f true (pick t false u) ≡ false
          → pick t (unrecorded m (roomier b p)) (recorded m (roomier b p)) ≡ roomier b (pick t (unrecorded m p) (recorded m p))
      by true t u z e = let y : ◌≡◌ {A = Bool} true false = e in absurd (let x : ◌≡◌ {A = ℕ} 0 1 = cc in omega arith)
      by false true u z e = refl
      by false false true z e = let y : ◌≡◌ {A = Bool} true false = e in absurd (let x : ◌≡◌ {A = ℕ} 0 1 = cc in omega arith)
      by false false false z e =
          let n = eqb-false p.room 0 z in
          let pos : 0 < p.room = positive p.room n in
          let q : p.room + b - 1 ≡ p.room - 1 + b = omega arith in
          ap (λ (r : ℕ). record { state = m.clock p.state; done = p.done + 1; room = r; marks = (recorded m p).marks }) q
        where
          positive : (x : ℕ) → (x ≡ 0 → ⊥) → 0 < x
          positive zero n = absurd (n refl)
          positive (suc x) n = omega arith

  -- WITH MORE ROOM: the reading, and then the clocks that it left
  pub more_room : (n b : ℕ) (p : Progress S) (k : ℕ) → (reading m n p).done + k ≡ p.done + n
      → reading m n (roomier b p) ≡ reading m k (roomier b (reading m n p))
  unfolding reading
  more_room zero b p k h = let e : k ≡ 0 = omega arith in rw e
  more_room (suc n) b p k h = by (stopped m p) refl (λ q k i. more_room n b q k i)
    where
      by : (z : Bool) → stopped m p ≡ z
          → ((q : Progress S) (k : ℕ) → (reading m n q).done + k ≡ q.done + n → reading m n (roomier b q) ≡ reading m k (roomier b (reading m n q)))
          → reading m (suc n) (roomier b p) ≡ reading m k (roomier b (reading m (suc n) p))
      by true z ih =
          let s = reading_stopped m (suc n) p z in
          let d : p.done + k ≡ p.done + suc n = rw s at h in
          let e : k ≡ suc n = omega arith in
          ap (λ (i : ℕ). reading m i (roomier b p)) (sym e) ∙ ap (λ (q : Progress S). reading m k (roomier b q)) (sym s)
      by false z ih =
          let s = goes_on_lem n p z in
          let d : (reading m n (worked m p)).done + k ≡ p.done + suc n = rw s at h in
          goes_on_lem n (roomier b p) (stopped_more b p z)
          ∙ ap (reading m n) (worked_more b p z)
          ∙ ih (worked m p) k (omega (arith, worked_done p))
          ∙ ap (λ (q : Progress S). reading m k (roomier b q)) (sym s)

  -- WHAT A READING LEAVES

  -- with room left at the end of a machine that is never full, no clock was left out
  reading_all : ((s : S) → m.full s ≡ false) → (n : ℕ) (p : Progress S) → 0 < (reading m n p).room → (reading m n p).done ≡ p.done + n
  unfolding reading
  reading_all never zero p h = omega arith
  reading_all never (suc n) p h = by (stopped m p) refl (λ q i. reading_all never n q i)
    where
      room_none : (t : Bool) → pick t false (eqb p.room 0) ≡ true → p.room ≡ 0
      room_none true e = absurd (let x : ◌≡◌ {A = ℕ} 0 1 = cc in omega arith)
      room_none false e = eqb-true p.room 0 e

      by : (z : Bool) → stopped m p ≡ z → ((q : Progress S) → 0 < (reading m n q).room → (reading m n q).done ≡ q.done + n)
          → (reading m (suc n) p).done ≡ p.done + suc n
      by true z ih =
          let s = reading_stopped m (suc n) p z in
          let r : 0 < p.room = rw s at h in
          let e = room_none (same m p.state) (rw (never p.state) at z) in
          absurd (omega arith)
      by false z ih =
          let s = goes_on_lem n p z in
          let r : 0 < (reading m n (worked m p)).room = rw s at h in
          rw s (ih (worked m p) r ∙ omega (arith, worked_done p))

  -- levels are at most what a level can be
  reading_below : (k : ℕ) → ((s : S) → m.level s ≤ k) → (n : ℕ) (p : Progress S) → Below k p.marks → Below k (reading m n p).marks
  unfolding reading worked
  reading_below k most zero p h = h
  reading_below k most (suc n) p h = by (stopped m p) (same m p.state) (λ q i. reading_below k most n q i)
    where
      by : (t u : Bool) → ((q : Progress S) → Below k q.marks → Below k (reading m n q).marks)
          → Below k (pick t p (reading m n (pick u (unrecorded m p) (recorded m p)))).marks
      by true u ih = h
      by false true ih = ih (unrecorded m p) h
      by false false ih = ih (recorded m p) (below_append k p.marks _ h (most (m.clock p.state), tt))

  module _ (a n : ℕ) (s : S) where
    -- THE PLAIN READING

    -- the plain reading with room a + b: that with room a, and from where it ended, with the room that is left
    pub plain_more : (b : ℕ)
        → plain m (a + b) n s ≡ later (plain m a n s).done (plain m a n s).marks (plain m ((plain m a n s).room + b) (n - (plain m a n s).done) (plain m a n s).state)
    unfolding plain
    plain_more b =
        let p = start a s in
        let most = reading_done m n p in
        more_room n b p (n - (reading m n p).done) (omega arith)
        ∙ ap (reading m (n - (reading m n p).done)) (from (reading m n p))
        ∙ reading_later m (n - (reading m n p).done) (reading m n p).done (reading m n p).marks (start ((reading m n p).room + b) (reading m n p).state)
      where
        from : (q : Progress S) → roomier b q ≡ later q.done q.marks (start (q.room + b) q.state)
        from q = rw (add-zero, append-nil)

    pub plain_all : ((x : S) → m.full x ≡ false) → 0 < (plain m a n s).room → (plain m a n s).done ≡ n
    unfolding plain
    plain_all never h = rw zero-add at (reading_all never n (start a s) h)

    pub plain_most : (plain m a n s).done ≤ n
    unfolding plain
    plain_most = rw zero-add at (reading_done m n (start a s))

    pub plain_few : length (plain m a n s).marks ≤ (plain m a n s).done
    unfolding plain
    plain_few = let f = reading_few m n (start a s) in omega arith

    pub plain_room : (plain m a n s).room + length (plain m a n s).marks ≡ a
    unfolding plain
    plain_room = reading_room m n (start a s) ∙ add-zero a

    pub plain_below : (k : ℕ) → ((x : S) → m.level x ≤ k) → Below k (plain m a n s).marks
    unfolding plain
    plain_below k most = reading_below k most n (start a s) tt

  -- no clock, nothing
  pub plain_none : (a : ℕ) (s : S) → plain m a 0 s ≡ start a s
  unfolding plain reading
  plain_none a s = refl

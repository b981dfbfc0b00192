-- Laws of a clockwork with counts beside it. Assumes nothing.
--
-- Main definitions: `tallied`, the counts after k clocks by the places one after the other; `Free`, no clock up to k is one that a count stops; `Full`, the
-- next clock is one; `Most`, no count is over the limit; `viewed`, a reading without its counts; `besides`, a reading with those that its clocks bring.
-- Main statements: `sum_tallied`, the sum grows by the clocks; `tallied_dwelt`, each count by its own clocks; `tallied_stay`, g clocks at one place are one
-- sum; `plain_free`, as long as no count stops a clock a reading with counts is the one without, and the counts are those of the clocks done; `plain_full`,
-- where the next clock is one that a count stops it ends there; `plain_within`, no count handed back is over the limit.
use Prim.Native.Nat.{ℕ, zero, suc, ◌+◌, ◌-◌, ◌≤◌, ◌<◌, zero-le}
use mathlib.Core.Path.{◌≡◌, refl, sym, ap, ap₂, ◌∙◌}
use mathlib.Core.Bool.{Bool, true, false}
use mathlib.Core.Logic.{◌≢◌, ◌⊎◌, inl, inr, ⊎_elim}
use mathlib.Core.List.{List, [], ◌∷◌}
use native.Mathlib.Nat.{add-zero, zero-add}
use native.Mathlib.Decide.{ℕ_discrete}
use native.Mathlib.Numerals.{add-one}
use native.Mathlib.Omega.{arith}
use lib.Dec.{eqb, ltb}
use lib.ListN.{length, get_or, set, length-set}
use lib.Seq.{set-set, set-get_or, get_or-set_same, get_or-set_other}
use borrow.Author.Tests.{eq-eqb, ne_eqb, le-ltb, lt-ltb, ltb-true, ltb-false}
use Rattle.arith.specs.Iterate.{iterate}
use Rattle.arith.specs.Pick.{pick}
use Rattle.arith.proofs.IterateLaws.{iterate_zero, iterate_more}
use Rattle.reading.specs.Reading.{Clockwork, Progress, start, same, stopped, unrecorded, recorded, worked, reading, plain}
use Rattle.reading.specs.Counting.{Beside, raise, sum, dwelt, counting}
use Rattle.reading.proofs.ReadingLaws.{reading_stopped, reading_add, reading_done, reading_ends, reading_kept, reading_went, plain_went}

-- ONE COUNT RAISED
pub raise_length : (i g : ℕ) (cs : List ℕ) → length (raise i g cs) ≡ length cs
unfolding raise
raise_length i g cs = length-set cs i _

pub raise_none : (i : ℕ) (cs : List ℕ) → raise i 0 cs ≡ cs
unfolding raise
raise_none i cs = rw add-zero (set-get_or cs i 0)

pub raise_same : (i g : ℕ) (cs : List ℕ) → i < length cs → get_or (raise i g cs) i 0 ≡ get_or cs i 0 + g
unfolding raise
raise_same i g cs h = get_or-set_same cs i _ 0 h

pub raise_other : (i g j : ℕ) (cs : List ℕ) → j ≢ i → get_or (raise i g cs) j 0 ≡ get_or cs j 0
unfolding raise
raise_other i g j cs h = get_or-set_other cs i j _ 0 h

-- g and then h more
pub raise_more : (i g h : ℕ) (cs : List ℕ) → i < length cs → raise i h (raise i g cs) ≡ raise i (g + h) cs
unfolding raise
raise_more i g h cs l = rw (set-set, get_or-set_same cs i (get_or cs i 0 + g) 0 l) (ap (set cs i) (omega arith))

-- the sum grows by as much
sum_set : (cs : List ℕ) (i n : ℕ) → i < length cs → sum (set cs i n) + get_or cs i 0 ≡ sum cs + n
unfolding sum
sum_set [] i n h = absurd (omega arith)
sum_set (c ∷ cs) zero n h = omega arith
sum_set (c ∷ cs) (suc i) n h = let e = sum_set cs i n (omega arith) in omega arith

pub sum_raise : (i g : ℕ) (cs : List ℕ) → i < length cs → sum (raise i g cs) ≡ sum cs + g
unfolding raise
sum_raise i g cs h = let e = sum_set cs i (get_or cs i 0 + g) h in omega arith

-- no count is over the limit
abbrev pub Most : ℕ → List ℕ → Type 0
Most limit cs = (i : ℕ) → get_or cs i 0 ≤ limit

-- COUNTS BY THE PLACES ONE AFTER THE OTHER

-- the counts after k clocks, the places after clocks 1, 2, .. being p 1, p 2, ..
unfoldable pub tallied : (ℕ → ℕ) → ℕ → List ℕ → List ℕ
tallied p zero cs = cs
tallied p (suc k) cs = raise (p (suc k)) 1 (tallied p k cs)

pub tallied_none : (p : ℕ → ℕ) (cs : List ℕ) → tallied p 0 cs ≡ cs
unfolding tallied
tallied_none p cs = refl

pub tallied_more : (p : ℕ → ℕ) (k : ℕ) (cs : List ℕ) → tallied p (suc k) cs ≡ raise (p (suc k)) 1 (tallied p k cs)
unfolding tallied
tallied_more p k cs = refl

pub tallied_length : (p : ℕ → ℕ) (k : ℕ) (cs : List ℕ) → length (tallied p k cs) ≡ length cs
unfolding tallied
tallied_length p zero cs = refl
tallied_length p (suc k) cs = raise_length (p (suc k)) 1 (tallied p k cs) ∙ tallied_length p k cs

-- the same places, the same counts
pub tallied_alike : (p q : ℕ → ℕ) → ((j : ℕ) → p j ≡ q j) → (k : ℕ) (cs : List ℕ) → tallied p k cs ≡ tallied q k cs
unfolding tallied
tallied_alike p q e zero cs = refl
tallied_alike p q e (suc k) cs = ap₂ (λ (i : ℕ) (l : List ℕ). raise i 1 l) (e (suc k)) (tallied_alike p q e k cs)

-- g clocks at one place
pub tallied_stay : (p : ℕ → ℕ) (i k g : ℕ) (cs : List ℕ) → i < length cs → ((j : ℕ) → k < j → j ≤ k + g → p j ≡ i) → tallied p (k + g) cs ≡ raise i g (tallied p k cs)
unfolding tallied
tallied_stay p i k zero cs l h = rw add-zero (sym (raise_none i (tallied p k cs)))
tallied_stay p i k (suc g) cs l h =
    let n : k + suc g ≡ suc (k + g) = omega arith in
    rw (n, h (suc (k + g)) (omega arith) (omega arith), tallied_stay p i k g cs l (λ j a b. h j a (omega arith)))
    (raise_more i g 1 (tallied p k cs) (omega (arith, tallied_length p k cs)) ∙ ap (λ (x : ℕ). raise i x (tallied p k cs)) (omega arith))

-- no clock up to k is one that a count stops
unfoldable pub Free : ℕ → (ℕ → ℕ) → ℕ → List ℕ → Type 0
Free limit p k cs = (j : ℕ) → j < k → get_or (tallied p j cs) (p (suc j)) 0 + 1 ≤ limit

-- the next clock is one that a count stops
unfoldable pub Full : ℕ → (ℕ → ℕ) → ℕ → List ℕ → Type 0
Full limit p k cs = limit < get_or (tallied p k cs) (p (suc k)) 0 + 1

pub free_alike : (limit : ℕ) (p q : ℕ → ℕ) → ((j : ℕ) → p j ≡ q j) → (k : ℕ) (cs : List ℕ) → Free limit p k cs → Free limit q k cs
unfolding Free
free_alike limit p q e k cs f j h = rw (← e (suc j), ← tallied_alike p q e j cs) (f j h)

pub full_alike : (limit : ℕ) (p q : ℕ → ℕ) → ((j : ℕ) → p j ≡ q j) → (k : ℕ) (cs : List ℕ) → Full limit p k cs → Full limit q k cs
unfolding Full
full_alike limit p q e k cs f = rw (← e (suc k), ← tallied_alike p q e k cs) f

pub free_none : (limit : ℕ) (p : ℕ → ℕ) (cs : List ℕ) → Free limit p 0 cs
unfolding Free
free_none limit p cs j h = absurd (omega arith)

pub free_more : (limit : ℕ) (p : ℕ → ℕ) (k : ℕ) (cs : List ℕ) → get_or (tallied p k cs) (p (suc k)) 0 + 1 ≤ limit → Free limit p k cs → Free limit p (suc k) cs
unfolding Free
free_more limit p k cs m f j l = go (ltb j k) refl
  where
    go : (t : Bool) → ltb j k ≡ t → get_or (tallied p j cs) (p (suc j)) 0 + 1 ≤ limit
    go true e = f j (ltb-true j k e)
    go false e = let z : j ≡ k = omega (arith, ltb-false j k e) in rw z m

pub free_less : (limit : ℕ) (p : ℕ → ℕ) (k n : ℕ) (cs : List ℕ) → n ≤ k → Free limit p k cs → Free limit p n cs
unfolding Free
free_less limit p k n cs h f j l = f j (omega arith)

-- g clocks more at one place
pub free_stay : (limit : ℕ) (p : ℕ → ℕ) (i k g : ℕ) (cs : List ℕ) → i < length cs → ((j : ℕ) → k < j → j ≤ k + g → p j ≡ i) → get_or (tallied p k cs) i 0 + g ≤ limit
    → Free limit p k cs → Free limit p (k + g) cs
unfolding Free
free_stay limit p i k g cs l h m f j b = go (ltb j k) refl
  where
    go : (t : Bool) → ltb j k ≡ t → get_or (tallied p j cs) (p (suc j)) 0 + 1 ≤ limit
    go true e = f j (ltb-true j k e)
    go false e =
        let low = ltb-false j k e in
        let n : j ≡ k + (j - k) = omega arith in
        let here : tallied p j cs ≡ raise i (j - k) (tallied p k cs) =
        ap (λ (x : ℕ). tallied p x cs) n ∙ tallied_stay p i k (j - k) cs l (λ x a c. h x a (omega arith)) in
        rw (h (suc j) (omega arith) (omega arith), here, raise_same i (j - k) (tallied p k cs) (omega (arith, tallied_length p k cs))) (omega arith)

-- a count raised at its own place or another
set_most : (cs : List ℕ) (i n : ℕ) → get_or (set cs i n) i 0 ≤ n
set_most [] i n = zero-le
set_most (c ∷ cs) zero n = omega arith
set_most (c ∷ cs) (suc i) n = set_most cs i n

raise_most : (i j : ℕ) (cs : List ℕ) → (j ≢ i × (get_or (raise i 1 cs) j 0 ≡ get_or cs j 0)) ⊎ ((j ≡ i) × (get_or (raise i 1 cs) j 0 ≤ get_or cs i 0 + 1))
unfolding raise
raise_most i j cs = go (ℕ_discrete j i)
  where
    go : Dec (j ≡ i) → (j ≢ i × (get_or (set cs i (get_or cs i 0 + 1)) j 0 ≡ get_or cs j 0)) ⊎ ((j ≡ i) × (get_or (set cs i (get_or cs i 0 + 1)) j 0 ≤ get_or cs i 0 + 1))
    go (yes e) = inr (e, rw e (set_most cs i (get_or cs i 0 + 1)))
    go (no e) = inl (e, get_or-set_other cs i j _ 0 e)

-- a count grows by at most the clocks
tallied_few : (p : ℕ → ℕ) (k i : ℕ) (cs : List ℕ) → get_or (tallied p k cs) i 0 ≤ get_or cs i 0 + k
unfolding tallied
tallied_few p zero i cs = omega arith
tallied_few p (suc k) i cs =
    let b = tallied_few p k i cs in
    ⊎_elim (λ x. rw x.1 (omega arith)) (λ x. let y : get_or (tallied p k cs) (p (suc k)) 0 ≤ get_or cs i 0 + k = rw (← x.0) b in omega (arith, x.1)) (raise_most (p (suc k)) i (tallied p k cs))

-- where no count can reach the limit, no clock is one that a count stops
pub free_few : (limit : ℕ) (p : ℕ → ℕ) (k : ℕ) (cs : List ℕ) → ((i : ℕ) → get_or cs i 0 + k ≤ limit) → Free limit p k cs
unfolding Free
free_few limit p k cs h j l = omega (arith, tallied_few p j (p (suc j)) cs, h (p (suc j)))

-- as long as no count stops a clock, none is over the limit
pub tallied_most : (limit : ℕ) (p : ℕ → ℕ) (k : ℕ) (cs : List ℕ) → Most limit cs → Free limit p k cs → Most limit (tallied p k cs)
unfolding tallied Free
tallied_most limit p zero cs m f i = m i
tallied_most limit p (suc k) cs m f i =
    let b = tallied_most limit p k cs m (λ j l. f j (omega arith)) i in
    let g = f k (omega arith) in
    ⊎_elim (λ x. rw x.1 b) (λ x. omega (arith, x.1)) (raise_most (p (suc k)) i (tallied p k cs))

-- THE SUM GROWS BY THE CLOCKS
pub sum_tallied : (p : ℕ → ℕ) (k : ℕ) (cs : List ℕ) → ((j : ℕ) → p j < length cs) → sum (tallied p k cs) ≡ sum cs + k
unfolding tallied
sum_tallied p zero cs h = sym (add-zero (sum cs))
sum_tallied p (suc k) cs h =
    sum_raise (p (suc k)) 1 (tallied p k cs) (omega (arith, tallied_length p k cs, h (suc k))) ∙ omega (arith, sum_tallied p k cs h)

-- OF A MACHINE
module _ {S : Type 0} (clock : S → S) (place : S → ℕ) where
  -- the places after clocks 1, 2, ..
  abbrev pub places : S → ℕ → ℕ
  places s j = place (iterate clock j s)

  pub dwelt_none : (i : ℕ) (s : S) → dwelt clock place i 0 s ≡ 0
  unfolding dwelt
  dwelt_none i s = refl

  dwelt_more : (i n : ℕ) (s : S) → dwelt clock place i (suc n) s ≡ dwelt clock place i n s + pick (eqb (places s (suc n)) i) 1 0
  unfolding dwelt iterate
  dwelt_more i zero s = omega arith
  dwelt_more i (suc n) s = let e = dwelt_more i n (clock s) in omega arith

  -- EACH COUNT GROWS BY ITS OWN CLOCKS
  pub tallied_dwelt : (i k : ℕ) (s : S) (cs : List ℕ) → i < length cs → get_or (tallied (places s) k cs) i 0 ≡ get_or cs i 0 + dwelt clock place i k s
  unfolding tallied
  tallied_dwelt i zero s cs h = rw (dwelt_none i s) (sym (add-zero (get_or cs i 0)))
  tallied_dwelt i (suc k) s cs h = rw (dwelt_more i k s) (go (ℕ_discrete i (places s (suc k))) (tallied_dwelt i k s cs h))
    where
      go : Dec (i ≡ places s (suc k)) → get_or (tallied (places s) k cs) i 0 ≡ get_or cs i 0 + dwelt clock place i k s
          → get_or (raise (places s (suc k)) 1 (tallied (places s) k cs)) i 0 ≡ get_or cs i 0 + (dwelt clock place i k s + pick (eqb (places s (suc k)) i) 1 0)
      go (yes e) ih =
          rw (eq-eqb (places s (suc k)) i (sym e), ← e, raise_same i 1 (tallied (places s) k cs) (omega (arith, tallied_length (places s) k cs))) (omega arith)
      go (no e) ih = rw (ne_eqb (places s (suc k)) i (λ z. e (sym z)), raise_other (places s (suc k)) 1 i (tallied (places s) k cs) e) (omega arith)

  module _ (level : S → ℕ) (limit : ℕ) where
    -- with the counts, and without
    abbrev M : Clockwork (Beside S)
    M = counting clock place level limit

    abbrev m : Clockwork S
    m = record { clock = clock; level = level; full = λ s. false }

    -- so many clocks on
    pub counting_times : (k : ℕ) (s : S) (cs : List ℕ) → iterate M.clock k (record { state = s; counts = cs }) ≡ record { state = iterate clock k s; counts = tallied (places s) k cs }
    unfolding tallied
    counting_times zero s cs = iterate_zero M.clock (record { state = s; counts = cs }) ∙ rw (iterate_zero clock s) refl
    counting_times (suc k) s cs =
        rw (← add-one k, iterate_more M.clock k (record { state = s; counts = cs }), counting_times k s cs, iterate_more clock k s) refl

    -- the same progress without the counts
    abbrev pub viewed : Progress (Beside S) → Progress S
    viewed p = record { state = p.state.state; done = p.done; room = p.room; marks = p.marks }

    past : (n : ℕ) (p : Progress S) → p.done ≤ (reading m n p).done
    past n p = let w = reading_went m n p in omega (arith, w.done)

    -- AS LONG AS NO COUNT STOPS A CLOCK, A READING IS THAT WITHOUT COUNTS
    alike : (n : ℕ) (p : Progress (Beside S)) → ((j : ℕ) → p.done + j < (reading m n (viewed p)).done → M.full (iterate M.clock j p.state) ≡ false)
        → viewed (reading M n p) ≡ reading m n (viewed p)
    unfolding reading iterate worked
    alike zero p f = refl
    alike (suc n) p f = go (M.full p.state) refl (same m p.state.state) (eqb p.room 0) (λ q g. alike n q g) f
      where
        never : {A : Type 0} (b : Bool) → b ≡ true → b ≡ false → A
        never b e g = absurd (let z : ◌≡◌ {A = ℕ} 0 1 = cc in omega arith)

        go : (c : Bool) → M.full p.state ≡ c → (t u : Bool)
            → ((q : Progress (Beside S)) → ((j : ℕ) → q.done + j < (reading m n (viewed q)).done → M.full (iterate M.clock j q.state) ≡ false) → viewed (reading M n q) ≡ reading m n (viewed q))
            → ((j : ℕ) → p.done + j < (pick (pick t false u) (viewed p) (reading m n (pick t (unrecorded m (viewed p)) (recorded m (viewed p))))).done → M.full (iterate M.clock j p.state) ≡ false)
            → viewed (pick (pick c true (pick t false u)) p (reading M n (pick t (unrecorded M p) (recorded M p))))
            ≡ pick (pick t false u) (viewed p) (reading m n (pick t (unrecorded m (viewed p)) (recorded m (viewed p))))
        go true e true u ih f = never _ e (f 0 (omega (arith, past n (unrecorded m (viewed p)))))
        go true e false true ih f = refl
        go true e false false ih f = never _ e (f 0 (omega (arith, past n (recorded m (viewed p)))))
        go false e true u ih f = ih (unrecorded M p) (λ j h. f (suc j) (omega arith))
        go false e false true ih f = refl
        go false e false false ih f = ih (recorded M p) (λ j h. f (suc j) (omega arith))

    -- a reading without counts, with those that its clocks bring
    abbrev pub besides : S → List ℕ → Progress S → Progress (Beside S)
    besides s cs p = record { state = record { state = p.state; counts = tallied (places s) p.done cs }; done = p.done; room = p.room; marks = p.marks }

    free_full : (s : S) (cs : List ℕ) (k : ℕ) → Free limit (places s) k cs → (j : ℕ) → j < k → M.full (iterate M.clock j (record { state = s; counts = cs })) ≡ false
    unfolding Free
    free_full s cs k f j h = rw (counting_times j s cs, ← iterate_more clock j s, add-one j) (le-ltb _ _ (f j h))

    full_full : (s : S) (cs : List ℕ) (k : ℕ) → Full limit (places s) k cs → M.full (iterate M.clock k (record { state = s; counts = cs })) ≡ true
    unfolding Full
    full_full s cs k f = rw (counting_times k s cs, ← iterate_more clock k s, add-one k) (lt-ltb _ _ f)

    -- A READING IS THAT WITHOUT COUNTS, and the counts are those of the clocks done
    pub plain_free : (room n : ℕ) (s : S) (cs : List ℕ) → Free limit (places s) (plain m room n s).done cs
        → plain M room n (record { state = s; counts = cs }) ≡ besides s cs (plain m room n s)
    unfolding plain
    plain_free room n s cs f =
        let t : Beside S = record { state = s; counts = cs } in
        let r = plain M room n t in
        let e : viewed r ≡ plain m room n s = alike n (start room t) (λ j h. free_full s cs _ f j (omega arith)) in
        rw (← e) (ap (λ (x : List ℕ). record { state = record { state = r.state.state; counts = x }; done = r.done; room = r.room; marks = r.marks })
        (ap (λ (x : Beside S). x.counts) (plain_went M room n t ∙ counting_times r.done s cs)))

    stops : (room k : ℕ) (s : S) (cs : List ℕ) → Full limit (places s) k cs → (plain M room k (record { state = s; counts = cs })).done ≡ k
        → stopped M (plain M room k (record { state = s; counts = cs })) ≡ true
    stops room k s cs g d = rw (plain_went M room k (record { state = s; counts = cs }), d, full_full s cs k g) refl

    -- where the next clock is one that a count stops, a reading ends there
    pub plain_full : (room k n : ℕ) (s : S) (cs : List ℕ) → k ≤ n → Free limit (places s) k cs → Full limit (places s) k cs
        → plain M room n (record { state = s; counts = cs }) ≡ besides s cs (plain m room k s)
    unfolding plain
    plain_full room k n s cs h f g =
        let t : Beside S = record { state = s; counts = cs } in
        let split : n ≡ k + (n - k) = omega arith in
        let at = reading M k (start room t) in
        let few : (plain m room k s).done ≤ k = omega (arith, reading_done m k (start room s)) in
        ap (λ (x : ℕ). reading M x (start room t)) split
        ∙ reading_add M k (n - k) (start room t)
        ∙ reading_stopped M (n - k) at (⊎_elim (λ d. stops room k s cs g (rw zero-add at d)) (λ e. e) (reading_ends M k (start room t)))
        ∙ plain_free room k s cs (free_less limit (places s) k _ cs few f)

    -- A READING HANDS BACK NO COUNT OVER THE LIMIT
    pub plain_within : (room n : ℕ) (t : Beside S) → Most limit t.counts → Most limit (plain M room n t).state.counts
    unfolding plain
    plain_within room n t h = reading_kept M (λ x. Most limit x.counts) step n (start room t) h
      where
        step : (x : Beside S) → M.full x ≡ false → Most limit x.counts → Most limit (M.clock x).counts
        step x e q j =
            let b : get_or x.counts (place (clock x.state)) 0 + 1 ≤ limit = ltb-false _ _ e in
            ⊎_elim (λ y. rw y.1 (q j)) (λ y. omega (arith, y.1)) (raise_most (place (clock x.state)) j x.counts)

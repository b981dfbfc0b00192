-- Bytes that are alike m further on: how many copies of m bytes they make, and what a mark knows of them. Assumes nothing.
use mathlib.Core.Path.{◌≡◌, refl, ap, ap₂, sym, ◌∙◌}
use mathlib.Core.List.{List, [], ◌∷◌, ◌++◌}
use mathlib.Core.Bool.{Bool, true, false, false≢true}
use Prim.Native.Nat.{ℕ, zero, suc, ◌+◌, ◌*◌, ◌-◌, ◌/◌, ◌%◌, ◌≤◌, ◌<◌, min}
use native.Mathlib.Omega.{arith}
use native.Mathlib.Nat.{zero-min, min-zero, suc-min-suc, min-le_right, add-div_left, div-eq_of_lt, div-mul-le_self, mul-le-mul, add-mul}
use borrow.Author.Tests.{eq-eqb, ne_eqb, eqb-true, eqb-false, ltb-true, ltb-false}
use lib.ListN.{length, take, drop, get_or, set, replicate, length-take, length-drop, length-set, length-replicate, get_or-replicate, take-append-drop, drop_of_length-le, get_or-eq_default}
use lib.Seq.{drop-cons, drop-drop, drop_at, get_or-set_same, get_or-set_other}
use lib.Dec.{eqb, ltb}
use Rattle.arith.specs.Pick.{pick}
use Rattle.text.specs.Key.{starts_with}
use Rattle.text.proofs.KeyLaws.{starts_split, starts_joined}
use Rattle.log_fold.specs.Moves.{alike, run_end, Mark, Marked, copies_in, copies_of, copies_at}

-- BYTES ALIKE

alike_on : (s t : List ℕ) (d : ℕ) → d ≤ alike s t → alike s t ≡ d + alike (drop d s) (drop d t)
unfolding alike
alike_on s t zero h = omega arith
alike_on [] t (suc d) h = absurd (omega arith)
alike_on (a ∷ s) [] (suc d) h = absurd (omega arith)
alike_on (a ∷ s) (b ∷ t) (suc d) h = go (eqb b a) h (alike_on s t d)
  where
    go : (x : Bool) → suc d ≤ pick x (suc (alike s t)) 0 → (d ≤ alike s t → alike s t ≡ d + alike (drop d s) (drop d t)) → pick x (suc (alike s t)) 0 ≡ suc d + alike (drop d s) (drop d t)
    go true h r = let e = r (omega arith) in omega arith
    go false h r = absurd (omega arith)

alike_le : (s t : List ℕ) → alike s t ≤ length t
unfolding alike
alike_le [] t = omega arith
alike_le (a ∷ s) [] = omega arith
alike_le (a ∷ s) (b ∷ t) = go (eqb b a) (alike_le s t)
  where
    go : (x : Bool) → alike s t ≤ length t → pick x (suc (alike s t)) 0 ≤ suc (length t)
    go true h = omega arith
    go false h = omega arith

alike_none : (s : List ℕ) → alike s [] ≡ 0
unfolding alike
alike_none [] = refl
alike_none (a ∷ s) = refl

alike_joined : (b s t : List ℕ) → alike (b ++ s) (b ++ t) ≡ length b + alike s t
unfolding alike
alike_joined [] s t = omega arith
alike_joined (a ∷ b) s t = let h = alike_joined b s t in rw (eq-eqb a a refl) (omega arith)

-- where the bytes b don't start t, less than b is alike
alike_less : (b s t : List ℕ) → starts_with b t ≡ false → alike (b ++ s) t < length b
unfolding alike starts_with
alike_less [] s t h = absurd (false≢true (sym h))
alike_less (a ∷ b) s [] h = omega arith
alike_less (a ∷ b) s (c ∷ t) h = go (eqb c a) h (alike_less b s t)
  where
    go : (x : Bool) → pick x (starts_with b t) false ≡ false → (starts_with b t ≡ false → alike (b ++ s) t < length b) → pick x (suc (alike (b ++ s) t)) 0 < suc (length b)
    go true h r = let e = r h in omega arith
    go false h r = omega arith

-- COPIES

copies_zero : (b r : List ℕ) → copies_of 0 b r ≡ 0
unfolding copies_of
copies_zero b r = refl

pub copies_more : (n : ℕ) (b r : List ℕ) → starts_with b r ≡ true → copies_of (suc n) b r ≡ suc (copies_of n b (drop (length b) r))
unfolding copies_of
copies_more n b r h = rw h

copies_none : (n : ℕ) (b r : List ℕ) → starts_with b r ≡ false → copies_of (suc n) b r ≡ 0
unfolding copies_of
copies_none n b r h = rw h

-- behind a block b, as often as b goes into the bytes that are alike
copies_behind : (n : ℕ) (b r : List ℕ) → 0 < length b → copies_of n b r ≡ min n (alike (b ++ r) r / length b)
copies_behind zero b r h = copies_zero b r ∙ sym (zero-min (alike (b ++ r) r / length b))
copies_behind (suc n) b r h = go (starts_with b r) refl (copies_behind n b (drop (length b) r) h)
  where
    go : (x : Bool) → starts_with b r ≡ x → copies_of n b (drop (length b) r) ≡ min n (alike (b ++ drop (length b) r) (drop (length b) r) / length b) → copies_of (suc n) b r ≡ min (suc n) (alike (b ++ r) r / length b)
    go true e rec =
        let q : List ℕ = drop (length b) r in
        let s : r ≡ b ++ q = starts_split b r e in
        let j : alike (b ++ r) r ≡ length b + alike (b ++ q) q = ap₂ (λ (u v : List ℕ). alike (b ++ u) v) s s ∙ alike_joined b (b ++ q) q in
        let d : alike (b ++ r) r / length b ≡ suc (alike (b ++ q) q / length b) = ap (λ (x : ℕ). x / length b) j ∙ (add-div_left (alike (b ++ q) q) h ∙ omega arith) in
        copies_more n b r e ∙ (ap suc rec ∙ (sym (suc-min-suc n (alike (b ++ q) q / length b)) ∙ ap (min (suc n)) (sym d)))
    go false e rec =
        copies_none n b r e ∙ (sym (min-zero (suc n)) ∙ ap (min (suc n)) (sym (div-eq_of_lt (alike_less b r r e))))

module _ (log : List ℕ) (at m : ℕ) (h : at + m ≤ length log) where
  pub run_in : (at ≤ run_end log at m) × (run_end log at m + m ≤ length log)
  unfolding run_end
  run_in = (omega arith, omega (arith, alike_le (drop at log) (drop (at + m) log), length-drop (at + m) log))

  part_is : drop at log ≡ take m (drop at log) ++ drop (at + m) log
  part_is = sym (take-append-drop m (drop at log)) ∙ ap (λ (x : List ℕ). take m (drop at log) ++ x) (drop-drop m at log)

  part_size : length (take m (drop at log)) ≡ m
  part_size = rw (length-take, length-drop) (omega arith)

  -- the copies of the m bytes at a place
  pub copies_run : 0 < m → copies_at log at (at + m) ≡ copies_in (run_end log at m - at) m
  unfolding copies_at run_end
  copies_run z =
      let b : List ℕ = take m (drop at log) in
      let r : List ℕ = drop (at + m) log in
      let x : ℕ = alike (drop at log) r in
      let w : at + m - at ≡ m = omega arith in
      let y : at + x - at ≡ x = omega arith in
      let n : min 255 (suc (x / m)) ≡ min 255 (x / m + 1) = ap (min 255) (let g : suc (x / m) ≡ x / m + 1 = omega arith in g) in
      let s : starts_with b (drop at log) ≡ true = ap (starts_with b) part_is ∙ starts_joined b r in
      let d : drop (length b) (drop at log) ≡ r = ap (drop (length b)) part_is ∙ drop_at b r (length b) refl in
      let c : copies_of 254 b r ≡ min 254 (x / m) = copies_behind 254 b r (omega (arith, part_size)) ∙ ap₂ (λ (u : List ℕ) (v : ℕ). min 254 (alike u r / v)) (sym part_is) part_size in
      rw (w, y) (copies_more 254 b (drop at log) s ∙ (ap suc (ap (copies_of 254 b) d ∙ c) ∙ (sym (suc-min-suc 254 (x / m)) ∙ n)))

-- they stand in the log
pub copies_in_lem : (run m at n : ℕ) → at + run + m ≤ n → at + copies_in run m * m ≤ n
copies_in_lem run m at n h =
    let a = min-le_right 255 (run / m + 1) in
    let b = div-mul-le_self run m in
    let c = mul-le-mul {n₁ = copies_in run m} {m₁ = m} {n₂ = run / m + 1} {m₂ = m} a (omega arith) in
    omega (arith, add-mul (run / m) 1 m)

-- THE RUN, byte by byte

module _ (log : List ℕ) (m x : ℕ) where
  pub run_same : x + m < length log → get_or log (x + m) 0 ≡ get_or log x 0 → run_end log x m ≡ run_end log (x + 1) m
  unfolding run_end alike
  run_same h e =
      let i : x + 1 ≡ suc x = omega arith in
      let j : x + 1 + m ≡ suc (x + m) = omega arith in
      rw (drop-cons log x 0 (omega arith), drop-cons log (x + m) 0 h, eq-eqb _ _ e, j, i) (omega arith)

  pub run_other : x + m < length log → (get_or log (x + m) 0 ≡ get_or log x 0 → ⊥) → run_end log x m ≡ x
  unfolding run_end alike
  run_other h e = rw (drop-cons log x 0 (omega arith), drop-cons log (x + m) 0 h, ne_eqb _ _ e) (omega arith)

  pub run_over : length log ≤ x + m → run_end log x m ≡ x
  unfolding run_end
  run_over h = rw (drop_of_length-le log h, alike_none (drop x log)) (omega arith)

-- MARKS: what was found at a place holds at later ones, up to the end of the run

run_on : (log : List ℕ) (at to m x : ℕ) → at ≤ to → to ≤ x → run_end log at m ≡ x → run_end log to m ≡ x
unfolding run_end
run_on log at to m x h k e =
    let d : ℕ = to - at in
    let a = alike_on (drop at log) (drop (at + m) log) d (omega arith) in
    let p : drop d (drop at log) ≡ drop to log = drop-drop d at log ∙ ap (λ (i : ℕ). drop i log) (let g : at + d ≡ to = omega arith in g) in
    let q : drop d (drop (at + m) log) ≡ drop (to + m) log = drop-drop d (at + m) log ∙ ap (λ (i : ℕ). drop i log) (let g : at + m + d ≡ to + m = omega arith in g) in
    omega (arith, rw (p, q) at a)

pub marked_on : {log : List ℕ} {at : ℕ} {marks : List ℕ} (to : ℕ) → at ≤ to → Marked log at marks → Marked log to marks
marked_on {log} {at} {marks} to h r =
    record {
      size = r.size;
      each = λ i k. let v : ℕ = get_or marks i 0 in run_on log at to (v / 65536) (v % 65536) h k (r.each i (omega arith));
    }

-- no mark yet
pub marked_none : (log : List ℕ) (at : ℕ) → 0 < at → Marked log at (replicate 16 0)
marked_none log at h = record { size = length-replicate {A = ℕ} 16 0; each = λ i k. absurd (let z = none i in omega (arith, ap (λ (v : ℕ). v % 65536) z)) }
  where
    by : (i : ℕ) (b : Bool) → ltb i 16 ≡ b → ◌≡◌ {A = ℕ} (get_or (replicate 16 0) i 0) 0
    by i true e = get_or-replicate 16 i 0 0 (ltb-true i 16 e)
    by i false e = get_or-eq_default (replicate 16 0) 0 {n = i} (rw (length-replicate {A = ℕ} 16 0) (ltb-false i 16 e))

    none : (i : ℕ) → ◌≡◌ {A = ℕ} (get_or (replicate 16 0) i 0) 0
    none i = by i (ltb i 16) refl

-- a mark set
module _ (log : List ℕ) (at : ℕ) (marks : List ℕ) (r : Marked log at marks) (p m x : ℕ) (h : p < 16) (s : x < 65536) (e : x ≡ run_end log at m) where
  mark_is : Mark log at (m * 65536 + x)
  mark_is k =
      let a : (m * 65536 + x) / 65536 ≡ m = omega arith in
      let b : (m * 65536 + x) % 65536 ≡ x = omega arith in
      rw (a, b) (sym e)

  pub marked_set : Marked log at (set marks p (m * 65536 + x))
  marked_set = record { size = length-set marks p (m * 65536 + x) ∙ r.size; each = λ i. by i (eqb i p) refl }
    where
      by : (i : ℕ) (b : Bool) → eqb i p ≡ b → Mark log at (get_or (set marks p (m * 65536 + x)) i 0)
      by i true q = rw (eqb-true i p q, get_or-set_same marks p (m * 65536 + x) 0 (omega (arith, r.size))) mark_is
      by i false q = rw (get_or-set_other marks p i (m * 65536 + x) 0 (eqb-false i p q)) (r.each i)

-- The beginnings of a decimal from lo to hi with its line feed, for any lo and hi such that a number below lo can go on by zeros into the range.
-- Assumes nothing.
--
-- Main definitions: `Wide`, what is asked of lo and hi; `Ends`, bytes that go on behind digits to a number in range and its line feed; `Numbered`, bytes at
-- the front of a decimal from lo to hi and its line feed.
-- Main statements: `number_sound` and `number_complete`: `begins_number lo hi` is true of bytes exactly where they are such a front.
use Rattle.std.specs.Prelude.{Some, None}
use mathlib.Core.Path.{◌≡◌, refl, ap, ◌∙◌}
use mathlib.Core.List.{List, [], ◌∷◌, ◌++◌}
use mathlib.Core.Bool.{Bool, true, false, not, false≢true}
use Prim.Native.Nat.{ℕ, zero, suc, ◌+◌, ◌-◌, ◌*◌, ◌^◌, ◌≤◌, ◌<◌, min}
use native.Mathlib.Omega.{arith}
use borrow.Author.Tests.{eq-eqb, ne_eqb, le-leb, leb-true, leb-false, eqb-true, eqb-false, lt-ltb}
use lib.Dec.{leb, ltb, eqb}
use Rattle.arith.specs.Pick.{pick, both}
use Rattle.arith.proofs.PickLaws.{both_left, both_right}
use Rattle.text.specs.Decimal.{digit, digits, formed, decimal, digits_of, decimal_text}
use Rattle.text.proofs.DecimalLaws.{digit_low, decimal_sound, decimal_complete}
use Rattle.log_form.specs.Forms.{nothing, goes_on, begins_number}

none_is : (n : ℕ) → None ≡ Some n → ⊥
none_is n e = let z : ◌≡◌ {A = ℕ} 0 1 = cc in omega arith

-- WHAT GOES ON SO CAN END IN A NUMBER IN RANGE

-- s goes on, behind digits that say n, to a number in range and its line feed
pub record Ends (lo hi n : ℕ) (s : List ℕ) : Type 0 where
  pub more : List ℕ
  pub last : ℕ
  pub says : digits n more ≡ Some last
  pub low : lo ≤ last
  pub high : last ≤ hi
  pub rest : List ℕ
  pub is : s ++ rest ≡ more ++ (10 ∷ [])

-- the range takes in a number below it with zeros behind it
pub record Wide (lo hi : ℕ) : Type 0 where
  pub some : lo ≤ hi
  pub tens : 10 * lo ≤ hi + 10
  pub room : hi < 10 ^ 10

module _ (lo hi : ℕ) (w : Wide lo hi) where
  here : (n : ℕ) → lo ≤ n → n ≤ hi → Ends lo hi n []
  unfolding digits
  here n a h = record { more = []; last = n; says = refl; low = a; high = h; rest = 10 ∷ []; is = refl }

  -- one more digit in front of what goes on
  behind_digit : (n c : ℕ) (s : List ℕ) → digit c ≡ true → Ends lo hi (n * 10 + (c - 48)) s → Ends lo hi n (c ∷ s)
  unfolding digits
  behind_digit n c s e r =
      record {
        more = c ∷ r.more;
        last = r.last;
        says = rw e r.says;
        low = r.low;
        high = r.high;
        rest = r.rest;
        is = ap (λ (x : List ℕ). c ∷ x) r.is;
      }

  -- what goes on with a byte more goes on without it
  without : (n c : ℕ) → Ends lo hi n (c ∷ []) → Ends lo hi n []
  without n c r =
      record { more = r.more; last = r.last; says = r.says; low = r.low; high = r.high; rest = c ∷ r.rest; is = r.is }

  -- zeros, until the number is not too small
  filled : (f n : ℕ) → lo ≤ n + f → 0 < n → n ≤ hi → Ends lo hi n []
  unfolding digit
  filled zero n a p h = here n (omega arith) h
  filled (suc f) n a p h =
      go (leb lo n) refl λ l t. filled f (n * 10 + (48 - 48)) (omega arith) (omega arith) (omega arith)
    where
      go : (b : Bool) → leb lo n ≡ b → (n < lo → 10 * lo ≤ hi + 10 → Ends lo hi (n * 10 + (48 - 48)) []) → Ends lo hi n []
      go true e r = here n (leb-true _ _ e) h
      go false e r = without n 48 (behind_digit n 48 [] refl (r (leb-false _ _ e) w.tens))

  -- the line feed
  fed : (n c : ℕ) (s : List ℕ) → c ≡ 10 → n ≤ hi → both (leb lo n) (nothing s) ≡ true → Ends lo hi n (c ∷ s)
  unfolding digits nothing
  fed n c [] q h e =
      record {
        more = [];
        last = n;
        says = refl;
        low = leb-true _ _ (both_left (leb lo n) true e);
        high = h;
        rest = [];
        is = ap (λ (x : ℕ). x ∷ []) q;
      }
  fed n c (d ∷ s) q h e = absurd (false≢true (both_right (leb lo n) false e))

  goes_sound : (s : List ℕ) (n : ℕ) → 0 < n → n ≤ hi → goes_on lo hi n s ≡ true → Ends lo hi n s
  unfolding goes_on
  goes_sound [] n p h e = filled lo n (omega arith) p h
  goes_sound (c ∷ s) n p h e = go (eqb c 10) refl e λ u. goes_sound s (n * 10 + (c - 48)) (omega arith) u
    where
      go : (b : Bool) → eqb c 10 ≡ b
          → pick b (both (leb lo n) (nothing s))
          (both (digit c) (both (ltb 0 n) (both (leb (n * 10 + (c - 48)) hi) (goes_on lo hi (n * 10 + (c - 48)) s)))) ≡ true
          → (n * 10 + (c - 48) ≤ hi → goes_on lo hi (n * 10 + (c - 48)) s ≡ true → Ends lo hi (n * 10 + (c - 48)) s)
          → Ends lo hi n (c ∷ s)
      go true q e r = fed n c s (eqb-true c 10 q) h e
      go false q e r =
          let f = both_right (ltb 0 n) _ (both_right (digit c) _ e) in
          behind_digit n c s (both_left (digit c) _ e) (r (leb-true _ _ (both_left _ _ f)) (both_right (leb (n * 10 + (c - 48)) hi) _ f))

  -- THE OTHER WAY ROUND

  -- only the line feed may follow
  end_complete : (s rest : List ℕ) (n : ℕ) → lo ≤ n → s ++ rest ≡ 10 ∷ [] → goes_on lo hi n s ≡ true
  unfolding goes_on nothing
  end_complete [] rest n l e = refl
  end_complete (c ∷ []) rest n l e =
      let q : c ≡ 10 = cc in
      rw (eq-eqb c 10 q, le-leb lo n l)
  end_complete (c ∷ d ∷ s) rest n l e =
      let q : d ∷ (s ++ rest) ≡ [] = cc in
      absurd (let z : ◌≡◌ {A = ℕ} 0 1 = cc in omega arith)

digits_grow : (s : List ℕ) (n m : ℕ) → digits n s ≡ Some m → n ≤ m
unfolding digits
digits_grow [] n m e =
    let q : n ≡ m = cc in
    omega arith
digits_grow (c ∷ s) n m e = go (digit c) e (digits_grow s (n * 10 + (c - 48)) m)
  where
    go : (b : Bool) → pick b (digits (n * 10 + (c - 48)) s) None ≡ Some m → (digits (n * 10 + (c - 48)) s ≡ Some m → n * 10 + (c - 48) ≤ m) → n ≤ m
    go true e r = let l = r e in omega arith
    go false e r = absurd (none_is m e)

-- digits that are read begin with one
record Read (n c : ℕ) (s : List ℕ) (m : ℕ) : Type 0 where
  first : digit c ≡ true
  then : digits (n * 10 + (c - 48)) s ≡ Some m

read_one : (n c : ℕ) (s : List ℕ) (m : ℕ) → digits n (c ∷ s) ≡ Some m → Read n c s m
unfolding digits
read_one n c s m e = go (digit c) refl e
  where
    go : (b : Bool) → digit c ≡ b → pick b (digits (n * 10 + (c - 48)) s) None ≡ Some m → Read n c s m
    go true q e = record { first = q; then = e }
    go false q e = absurd (none_is m e)

module _ (lo hi : ℕ) (w : Wide lo hi) where
  goes_complete : (s t rest : List ℕ) (n m : ℕ) → 0 < n → digits n t ≡ Some m → lo ≤ m → m ≤ hi → s ++ rest ≡ t ++ (10 ∷ []) → goes_on lo hi n s ≡ true
  unfolding goes_on digits
  goes_complete [] t rest n m p d l h e = refl
  goes_complete (c ∷ s) [] rest n m p d l h e =
      let q : n ≡ m = cc in
      end_complete lo hi w (c ∷ s) rest n (omega arith) e
  goes_complete (c ∷ s) (x ∷ t) rest n m p d l h e =
      let r = read_one n x t m d in
      let q : c ≡ x = cc in
      let f : s ++ rest ≡ t ++ (10 ∷ []) = cc in
      let k : digit c ≡ true = rw q r.first in
      let g : digits (n * 10 + (c - 48)) t ≡ Some m = rw q r.then in
      let b = digits_grow t (n * 10 + (c - 48)) m g in
      let v = digit_low c k in
      rw (ne_eqb c 10 (λ z. below c v z), k, lt-ltb 0 n p, le-leb (n * 10 + (c - 48)) hi (omega arith))
      (goes_complete s t rest (n * 10 + (c - 48)) m (omega arith) g l h f)
    where
      below : (c : ℕ) → 48 ≤ c → c ≡ 10 → ⊥
      below c v z = omega arith

-- THE WHOLE DECIMAL

-- s stands at the front of a decimal from lo to hi and its line feed
pub record Numbered (lo hi : ℕ) (s : List ℕ) : Type 0 where
  pub value : ℕ
  pub low : lo ≤ value
  pub high : value ≤ hi
  pub rest : List ℕ
  pub is : s ++ rest ≡ decimal_text value ++ (10 ∷ [])

module _ (c : ℕ) (nonzero : c ≡ 48 → ⊥) (first : digit c ≡ true) where
  -- digits behind a first one that is no zero are a decimal
  led : (t : List ℕ) (m : ℕ) → digits (c - 48) t ≡ Some m → decimal (c ∷ t) ≡ Some m
  unfolding decimal formed digits
  led [] m e =
      let q : 0 * 10 + (c - 48) ≡ c - 48 = omega arith in
      rw (first, q) e
  led (d ∷ t) m e =
      let q : 0 * 10 + (c - 48) ≡ c - 48 = omega arith in
      rw (ne_eqb c 48 nonzero, first, q) e

module _ (lo hi : ℕ) (w : Wide lo hi) where
  -- a number that begins with the digit 0 is 0
  zero_sound : (s : List ℕ) → lo ≡ 0 → goes_on lo hi 0 s ≡ true → Numbered lo hi (48 ∷ s)
  unfolding goes_on decimal_text digits_of nothing
  zero_sound [] z e = record { value = 0; low = omega arith; high = omega arith; rest = 10 ∷ []; is = refl }
  zero_sound (c ∷ s) z e = go s (eqb c 10) refl e
    where
      go : (s : List ℕ) (b : Bool) → eqb c 10 ≡ b
          → pick b (both (leb lo 0) (nothing s))
          (both (digit c) (both (ltb 0 0) (both (leb (0 * 10 + (c - 48)) hi) (goes_on lo hi (0 * 10 + (c - 48)) s)))) ≡ true
          → Numbered lo hi (48 ∷ c ∷ s)
      go [] true q e =
          record {
            value = 0;
            low = omega arith;
            high = omega arith;
            rest = [];
            is = ap (λ (x : ℕ). 48 ∷ x ∷ []) (eqb-true c 10 q);
          }
      go (d ∷ s) true q e = absurd (false≢true (both_right (leb lo 0) false e))
      go s false q e = absurd (false≢true (both_right (digit c) false e))

  more_sound : (c : ℕ) (s : List ℕ) → (c ≡ 48 → ⊥) → digit c ≡ true → c - 48 ≤ hi → goes_on lo hi (c - 48) s ≡ true → Numbered lo hi (c ∷ s)
  more_sound c s z d h e =
      let l = digit_low c d in
      let r = goes_sound lo hi w s (c - 48) (omega (arith, z)) h e in
      let u = r.high in
      let v = w.room in
      record {
        value = r.last;
        low = r.low;
        high = r.high;
        rest = r.rest;
        is =
            ap (λ (x : List ℕ). c ∷ x) r.is
            ∙ ap (λ (x : List ℕ). x ++ (10 ∷ [])) (decimal_sound (c ∷ r.more) r.last (led c z d r.more r.last r.says) (omega arith));
      }

  pub number_sound : (s : List ℕ) → begins_number lo hi s ≡ true → Numbered lo hi s
  unfolding begins_number
  number_sound [] e = record { value = lo; low = omega arith; high = w.some; rest = decimal_text lo ++ (10 ∷ []); is = refl }
  number_sound (c ∷ s) e =
      let d = both_left (digit c) _ e in
      let f = both_right (digit c) _ e in
      let g = both_right (leb (min lo 1) (c - 48)) _ f in
      go (eqb c 48) refl d (leb-true _ _ (both_left (leb (min lo 1) (c - 48)) _ f)) (leb-true _ _ (both_left (leb (c - 48) hi) _ g)) (both_right (leb (c - 48) hi) _ g)
    where
      go : (b : Bool) → eqb c 48 ≡ b → digit c ≡ true → min lo 1 ≤ c - 48 → c - 48 ≤ hi → goes_on lo hi (c - 48) s ≡ true → Numbered lo hi (c ∷ s)
      go true q d l h e =
          let k = eqb-true c 48 q in
          let n : c - 48 ≡ 0 = omega arith in
          rw k (zero_sound s (omega arith) (rw n at e))
      go false q d l h e = more_sound c s (eqb-false c 48 q) d h e

  -- the other way round

  number_of : (c : ℕ) (s : List ℕ) → digit c ≡ true → min lo 1 ≤ c - 48 → c - 48 ≤ hi → goes_on lo hi (c - 48) s ≡ true → begins_number lo hi (c ∷ s) ≡ true
  unfolding begins_number
  number_of c s d l h e = rw (d, le-leb (min lo 1) (c - 48) l, le-leb (c - 48) hi h) e

  number_read : (s t rest : List ℕ) (m : ℕ) → decimal t ≡ Some m → lo ≤ m → m ≤ hi → s ++ rest ≡ t ++ (10 ∷ []) → begins_number lo hi s ≡ true
  unfolding begins_number decimal formed digits
  number_read [] t rest m d l h e = refl
  number_read (c ∷ s) [] rest m d l h e = absurd (none_is m d)
  number_read (c ∷ s) (x ∷ []) rest m d l h e =
      let r = read_one 0 x [] m d in
      let q : c ≡ x = cc in
      let v : 0 * 10 + (x - 48) ≡ m = cc r.then in
      let f : s ++ rest ≡ 10 ∷ [] = cc in
      number_of c s (rw q r.first) (omega arith) (omega arith) (end_complete lo hi w s rest (c - 48) (omega arith) f)
  number_read (c ∷ s) (x ∷ y ∷ t) rest m d l h e = go (eqb x 48) refl d
    where
      go : (b : Bool) → eqb x 48 ≡ b → pick (not b) (digits 0 (x ∷ y ∷ t)) None ≡ Some m → begins_number lo hi (c ∷ s) ≡ true
      go true z d = absurd (none_is m d)
      go false z d =
          let r = read_one 0 x (y ∷ t) m d in
          let q : c ≡ x = cc in
          let f : s ++ rest ≡ (y ∷ t) ++ (10 ∷ []) = cc in
          let k : digit c ≡ true = rw q r.first in
          let a = digit_low c k in
          let n : 0 * 10 + (x - 48) ≡ c - 48 = omega arith in
          let g : digits (c - 48) (y ∷ t) ≡ Some m = rw n at r.then in
          let b = digits_grow (y ∷ t) (c - 48) m g in
          let u : 0 < c - 48 = omega (arith, eqb-false x 48 z) in
          number_of c s k (omega arith) (omega arith) (goes_complete lo hi w s (y ∷ t) rest (c - 48) m u g l h f)

  pub number_complete : (s rest : List ℕ) (n : ℕ) → lo ≤ n → n ≤ hi → s ++ rest ≡ decimal_text n ++ (10 ∷ []) → begins_number lo hi s ≡ true
  number_complete s rest n l h e =
      let v = w.room in
      number_read s (decimal_text n) rest n (decimal_complete n (omega arith)) l h e

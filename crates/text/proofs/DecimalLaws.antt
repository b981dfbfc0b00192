-- Decimals: what is written is read back, and what is read was written. Assumes nothing.
--
-- Main definitions: none; decimals are defined in specs/Decimal (`decimal`, `decimal_text`).
-- Main statements: `decimal_complete`, every number below 10 ^ 10 is read back from its text; `decimal_sound`, what is read as n is n's text; `cap_digits`,
-- a number cut off at 2 ^ 32 on the way is the one cut off at the end.
use Rattle.std.specs.Prelude.{Option, Some, None}
use mathlib.Core.Path.{◌≡◌, refl, ap, ap₂, sym, ◌∙◌}
use mathlib.Core.List.{List, [], ◌∷◌, ◌++◌, append_assoc, append-nil}
use mathlib.Core.Bool.{Bool, true, false, not}
use Prim.Native.Nat.{ℕ, zero, suc, ◌+◌, ◌-◌, ◌*◌, ◌/◌, ◌%◌, ◌^◌, ◌≤◌, ◌<◌, min}
use native.Mathlib.Numerals.{add-one, one-add}
use native.Mathlib.Omega.{arith}
use native.Mathlib.Nat.{div-lt_iff_lt-mul, pow-suc, suc-add, add-suc, add-zero}
use borrow.Author.Tests.{ne_eqb, le-leb, leb-true, eqb-false, lt-ltb, le-ltb, ltb-true, ltb-false}
use lib.ListN.{length, get_or, drop, drop_of_length-le}
use lib.Seq.{drop-cons}
use lib.Dec.{leb, ltb, eqb}
use Rattle.arith.specs.Pick.{pick}
use Rattle.arith.proofs.PickLaws.{both_left, both_right}
use Rattle.text.specs.Numbers.{capped}
use Rattle.text.specs.Decimal.{digit, digits, formed, decimal, digits_of, decimal_text}

pub is_digit : (c : ℕ) → 48 ≤ c → c ≤ 57 → digit c ≡ true
unfolding digit
is_digit c a b = simp (le-leb _ _ a, le-leb _ _ b)

pub digit_low : (c : ℕ) → digit c ≡ true → 48 ≤ c
unfolding digit
digit_low c e = leb-true _ _ (both_left (leb 48 c) (leb c 57) e)

pub digit_high : (c : ℕ) → digit c ≡ true → c ≤ 57
unfolding digit
digit_high c e = leb-true _ _ (both_right (leb 48 c) (leb c 57) e)

-- THE DIGITS FROM A PLACE ON

module _ (s : List ℕ) (i : ℕ) (h : i < length s) where
  pub digits_one : (n : ℕ) → digit (get_or s i 0) ≡ true → digits n (drop i s) ≡ digits (n * 10 + (get_or s i 0 - 48)) (drop (i + 1) s)
  unfolding digits
  digits_one n e = rw (add-one, drop-cons s i 0, e)

  pub digits_other : (n : ℕ) → digit (get_or s i 0) ≡ false → digits n (drop i s) ≡ None
  unfolding digits
  digits_other n e = rw (drop-cons s i 0, e)

pub digits_end : (s : List ℕ) (i n : ℕ) → length s ≤ i → digits n (drop i s) ≡ Some n
unfolding digits
digits_end s i n h = rw (drop_of_length-le s h)

-- CUTTING OFF IS THE SAME whether it is done on the way or at the end

cap_pick : (b : Bool) (x y : Option ℕ) → capped x ≡ capped y → capped (pick b x None) ≡ capped (pick b y None)
cap_pick true x y e = e
cap_pick false x y e = refl

cap_is : (m : ℕ) → capped (Some (min 4294967296 m)) ≡ capped (Some m)
unfolding capped
cap_is m = omega arith

pub cap_digits : (s : List ℕ) (m : ℕ) → capped (digits (min 4294967296 m) s) ≡ capped (digits m s)
unfolding digits
cap_digits [] m = cap_is m
cap_digits (c ∷ s) m =
    cap_pick (digit c) _ _
    (sym (cap_digits s (min 4294967296 m * 10 + (c - 48)))
    ∙ (ap (λ (z : ℕ). capped (digits z s)) (omega arith) ∙ cap_digits s (m * 10 + (c - 48))))

module _ (s : List ℕ) (i : ℕ) (h : i < length s) where
  pub digits_cut : (n : ℕ) → digit (get_or s i 0) ≡ true
      → capped (digits n (drop i s)) ≡ capped (digits (min (n * 10 + (get_or s i 0 - 48)) 4294967296) (drop (i + 1) s))
  digits_cut n e =
      ap capped (digits_one s i h n e)
      ∙ (sym (cap_digits (drop (i + 1) s) _) ∙ ap (λ (z : ℕ). capped (digits z (drop (i + 1) s))) (omega arith))

-- what reading decimals byte by byte needs
pub ruleset digit_steps = (digit_low, digits_cut, digits_other, digits_end)

-- EITHER WAY ROUND

data Side (n : ℕ) : Type 0 where
  small : n < 10 → Side n
  big : 10 ≤ n → Side n

side : (n : ℕ) → Side n
side n = go (ltb n 10) refl
  where
    go : (b : Bool) → ltb n 10 ≡ b → Side n
    go true e = small (ltb-true _ _ e)
    go false e = big (ltb-false _ _ e)

digits_of_small : (k n : ℕ) → n < 10 → digits_of (suc k) n ≡ (48 + n) ∷ []
unfolding digits_of
digits_of_small k n h = simp (lt-ltb _ _ h)

digits_of_big : (k n : ℕ) → 10 ≤ n → digits_of (suc k) n ≡ digits_of k (n / 10) ++ ((48 + n % 10) ∷ [])
unfolding digits_of
digits_of_big k n h = simp (le-ltb _ _ h)

low_pow : (k n : ℕ) → n < 10 ^ suc k → n / 10 < 10 ^ k
low_pow k n h = (div-lt_iff_lt-mul {k = 10} {x = n} {y = 10 ^ k} (omega arith)).1 (rw pow-suc at h)

-- WRITTEN, THEN READ

digits_snoc : (s : List ℕ) (m n d : ℕ) → d < 10 → digits m s ≡ Some n → digits m (s ++ ((48 + d) ∷ [])) ≡ Some (n * 10 + d)
unfolding digits
digits_snoc [] m n d h e =
    let q : m ≡ n = cc in
    rw (is_digit (48 + d) (omega arith) (omega arith)) (ap Some (omega arith))
digits_snoc (c ∷ s) m n d h e = go (digit c) e (digits_snoc s (m * 10 + (c - 48)) n d h)
  where
    go : (b : Bool) → pick b (digits (m * 10 + (c - 48)) s) None ≡ Some n
        → (digits (m * 10 + (c - 48)) s ≡ Some n → digits (m * 10 + (c - 48)) (s ++ ((48 + d) ∷ [])) ≡ Some (n * 10 + d))
        → pick b (digits (m * 10 + (c - 48)) (s ++ ((48 + d) ∷ []))) None ≡ Some (n * 10 + d)
    go true e r = r e
    go false e r = absurd (let z : ◌≡◌ {A = ℕ} 0 1 = cc in omega arith)

back_small : (k n : ℕ) → n < 10 → digits 0 (digits_of (suc k) n) ≡ Some n
unfolding digits
back_small k n h = rw (digits_of_small k n h, is_digit (48 + n) (omega arith) (omega arith)) (ap Some (omega arith))

back : (k n : ℕ) → n < 10 ^ suc k → digits 0 (digits_of (suc k) n) ≡ Some n
back zero n h = back_small zero n (low h)
  where
    low : n < 10 ^ 1 → n < 10
    low h = h
back (suc k) n h = go (side n) (back k (n / 10) (low_pow (suc k) n h))
  where
    go : Side n → digits 0 (digits_of (suc k) (n / 10)) ≡ Some (n / 10) → digits 0 (digits_of (suc (suc k)) n) ≡ Some n
    go (small s) r = back_small (suc k) n s
    go (big b) r =
        rw (digits_of_big (suc k) n b) (digits_snoc (digits_of (suc k) (n / 10)) 0 (n / 10) (n % 10) (omega arith) r ∙ ap Some (omega arith))

-- the first digit of a number above 0 is no zero

data Leads : List ℕ → Type 0 where
  led : {c : ℕ} {s : List ℕ} → (c ≡ 48 → ⊥) → Leads (c ∷ s)

leads_snoc : (s : List ℕ) (d : ℕ) → Leads s → Leads (s ++ (d ∷ []))
leads_snoc (c ∷ s) d (led h) = led h
leads_snoc [] d x' = elim x' [ ]

led_digit : (n : ℕ) → 0 < n → Leads ((48 + n) ∷ [])
led_digit n p = led {c = 48 + n} {s = []} (λ z. more z)
  where
    more : 48 + n ≡ 48 → ⊥
    more z = omega arith

leads_of : (k n : ℕ) → 0 < n → n < 10 ^ suc k → Leads (digits_of (suc k) n)
leads_of zero n p h = one h
  where
    one : n < 10 ^ 1 → Leads (digits_of 1 n)
    one h = rw (digits_of_small 0 n h) (led_digit n p)
leads_of (suc k) n p h = go (side n) (λ q. leads_of k (n / 10) q (low_pow (suc k) n h))
  where
    go : Side n → (0 < n / 10 → Leads (digits_of (suc k) (n / 10))) → Leads (digits_of (suc (suc k)) n)
    go (small s) r = rw (digits_of_small (suc k) n s) (led_digit n p)
    go (big b) r = rw (digits_of_big (suc k) n b) (leads_snoc _ _ (r (omega arith)))

leads_formed : (s : List ℕ) → Leads s → formed s ≡ true
unfolding formed
leads_formed (c ∷ []) (led h) = refl
leads_formed (c ∷ d ∷ s) (led h) = rw (ne_eqb c 48 h)
leads_formed [] x' = elim x' [ ]

formed_of : (n : ℕ) → n < 10 ^ 10 → formed (decimal_text n) ≡ true
unfolding decimal_text digits_of formed
formed_of zero h = refl
formed_of (suc n) h = leads_formed _ (leads_of 9 (suc n) (omega arith) h)

-- every number below 10 ^ 10 is read as itself
pub decimal_complete : (n : ℕ) → n < 10 ^ 10 → decimal (decimal_text n) ≡ Some n
unfolding decimal decimal_text
decimal_complete n h = rw (formed_of n h) (back 9 n h)

-- READ, THEN WRITTEN

digits_push : (k m c : ℕ) → 0 < m → digit c ≡ true → digits_of (suc k) (m * 10 + (c - 48)) ≡ digits_of k m ++ (c ∷ [])
digits_push k m c p e =
    let l = digit_low c e in
    let h = digit_high c e in
    digits_of_big k (m * 10 + (c - 48)) (omega arith)
    ∙ ap₂ (λ (x y : ℕ). digits_of k x ++ (y ∷ [])) (omega arith) (omega arith)

-- the number that m's digits and those of s say, in digits
again : (s : List ℕ) (m n k : ℕ) → 0 < m → digits m s ≡ Some n → digits_of (k + length s) n ≡ digits_of k m ++ s
unfolding digits
again [] m n k p e =
    let q : m ≡ n = cc in
    rw (add-zero, append-nil, q)
again (c ∷ s) m n k p e = go (digit c) refl e (λ h. again s (m * 10 + (c - 48)) n (suc k) (omega arith))
  where
    go : (b : Bool) → digit c ≡ b → pick b (digits (m * 10 + (c - 48)) s) None ≡ Some n
        → (48 ≤ c → digits (m * 10 + (c - 48)) s ≡ Some n → digits_of (suc k + length s) n ≡ digits_of (suc k) (m * 10 + (c - 48)) ++ s)
        → digits_of (k + suc (length s)) n ≡ digits_of k m ++ (c ∷ s)
    go true q e r =
        ap (λ (f : ℕ). digits_of f n) (omega arith)
        ∙ (r (digit_low c q) e
        ∙ (ap (λ (x : List ℕ). x ++ s) (digits_push k m c p q) ∙ append_assoc (digits_of k m) (c ∷ []) s))
    go false q e r = absurd (let z : ◌≡◌ {A = ℕ} 0 1 = cc in omega arith)

-- room for the digits that is enough is as good as more
any_room : (j k n : ℕ) → n < 10 ^ suc j → n < 10 ^ suc k → digits_of (suc j) n ≡ digits_of (suc k) n
any_room zero k n h l = small_one h
  where
    small_one : n < 10 ^ 1 → digits_of 1 n ≡ digits_of (suc k) n
    small_one h = digits_of_small 0 n h ∙ sym (digits_of_small k n h)
any_room (suc j) zero n h l = small_one l
  where
    small_one : n < 10 ^ 1 → digits_of (suc (suc j)) n ≡ digits_of 1 n
    small_one l = digits_of_small (suc j) n l ∙ sym (digits_of_small 0 n l)
any_room (suc j) (suc k) n h l = go (side n) (any_room j k (n / 10) (low_pow (suc j) n h) (low_pow (suc k) n l))
  where
    go : Side n → digits_of (suc j) (n / 10) ≡ digits_of (suc k) (n / 10) → digits_of (suc (suc j)) n ≡ digits_of (suc (suc k)) n
    go (small s) r = digits_of_small (suc j) n s ∙ sym (digits_of_small (suc k) n s)
    go (big b) r = digits_of_big (suc j) n b ∙ (ap (λ (x : List ℕ). x ++ ((48 + n % 10) ∷ [])) r ∙ sym (digits_of_big (suc k) n b))

-- a number that was read is below the power of ten of its digits
digits_bound : (s : List ℕ) (m n a : ℕ) → m < 10 ^ a → digits m s ≡ Some n → n < 10 ^ (a + length s)
unfolding digits
digits_bound [] m n a h e =
    let q : m ≡ n = cc in
    rw (add-zero, ← q) h
digits_bound (c ∷ s) m n a h e = go (digit c) refl e (λ l. digits_bound s (m * 10 + (c - 48)) n (suc a) (rw pow-suc l))
  where
    go : (b : Bool) → digit c ≡ b → pick b (digits (m * 10 + (c - 48)) s) None ≡ Some n
        → (m * 10 + (c - 48) < 10 ^ a * 10 → digits (m * 10 + (c - 48)) s ≡ Some n → n < 10 ^ (suc a + length s))
        → n < 10 ^ (a + suc (length s))
    go true q e r =
        let l = digit_low c q in
        let u = digit_high c q in
        rw (add-suc, ← suc-add) (r (omega arith) e)
    go false q e r = absurd (let z : ◌≡◌ {A = ℕ} 0 1 = cc in omega arith)

sound_one : (c n : ℕ) → digits 0 (c ∷ []) ≡ Some n → c ∷ [] ≡ decimal_text n
unfolding digits decimal_text
sound_one c n e = go (digit c) refl e
  where
    go : (b : Bool) → digit c ≡ b → pick b (Some (0 * 10 + (c - 48))) None ≡ Some n → c ∷ [] ≡ digits_of 10 n
    go true q e =
        let l = digit_low c q in
        let u = digit_high c q in
        let f : 0 * 10 + (c - 48) ≡ n = cc in
        ap (λ (x : ℕ). x ∷ []) (omega arith) ∙ sym (digits_of_small 9 n (omega arith))
    go false q e = absurd (let z : ◌≡◌ {A = ℕ} 0 1 = cc in omega arith)

sound_more : (c : ℕ) (s : List ℕ) (n : ℕ) → (c ≡ 48 → ⊥) → digits 0 (c ∷ s) ≡ Some n → n < 10 ^ 10 → c ∷ s ≡ decimal_text n
unfolding digits decimal_text
sound_more c s n z e h = go (digit c) refl e
  where
    go : (b : Bool) → digit c ≡ b → pick b (digits (0 * 10 + (c - 48)) s) None ≡ Some n → c ∷ s ≡ digits_of 10 n
    go true q e =
        let l = digit_low c q in
        let u = digit_high c q in
        let p : 0 < 0 * 10 + (c - 48) = omega (arith, z) in
        let d : n < 10 ^ suc (length s) = rw one-add at (digits_bound s (0 * 10 + (c - 48)) n 1 (omega arith) e) in
        ap (λ (x : ℕ). x ∷ s) (omega arith)
        ∙ (ap (λ (x : List ℕ). x ++ s) (sym (digits_of_small 0 (0 * 10 + (c - 48)) (omega arith)))
        ∙ (sym (again s (0 * 10 + (c - 48)) n 1 p e)
        ∙ (ap (λ (f : ℕ). digits_of f n) (omega arith) ∙ any_room (length s) 9 n d h)))
    go false q e = absurd (let z : ◌≡◌ {A = ℕ} 0 1 = cc in omega arith)

-- what is read as n is n's text
pub decimal_sound : (s : List ℕ) (n : ℕ) → decimal s ≡ Some n → n < 10 ^ 10 → s ≡ decimal_text n
unfolding decimal formed
decimal_sound [] n e h = absurd (let z : ◌≡◌ {A = ℕ} 0 1 = cc in omega arith)
decimal_sound (c ∷ []) n e h = sound_one c n e
decimal_sound (c ∷ d ∷ s) n e h = go (eqb c 48) refl e
  where
    go : (b : Bool) → eqb c 48 ≡ b → pick (not b) (digits 0 (c ∷ d ∷ s)) None ≡ Some n → c ∷ d ∷ s ≡ decimal_text n
    go true q e = absurd (let z : ◌≡◌ {A = ℕ} 0 1 = cc in omega arith)
    go false q e = sound_more c (d ∷ s) n (eqb-false _ _ q) e h

-- What it is to count down to a flag, and two flags together. Assumes nothing.
use Prim.Native.Nat.{ℕ, zero, suc, ◌-◌, ◌<◌, ◌≤◌, min}
use mathlib.Core.Path.{◌≡◌, refl, sym, ap, ◌∙◌}
use mathlib.Core.Bool.{Bool, true, false}
use native.Mathlib.Omega.{arith}
use lib.Dec.{ltb, leb}
use borrow.Author.Tests.{eq-eqb, ne_eqb, lt-ltb, le-leb, lt-leb, leb-true, leb-false}
use Rattle.arith.specs.Pick.{both, either}
use Rattle.leap_line.specs.Until.{sooner, within}

-- one clock: u counts down to the clock that sets the flag, and nothing else changes it; 0 is never
pub record Counts (u : ℕ) (flag flag' : Bool) (u' : ℕ) : Type 0 where
  pub now : u ≡ 1 → flag' ≡ true
  pub else : (u ≡ 1 → ⊥) → flag' ≡ flag
  pub on : 1 < u → u' ≡ u - 1
  pub never : u ≡ 0 → u' ≡ 0

-- a number is 0, 1 or more
pub data Size (u : ℕ) : Type 0 where
  none : u ≡ 0 → Size u
  one : u ≡ 1 → Size u
  more : 1 < u → Size u

pub size : (u : ℕ) → Size u
size zero = none refl
size (suc zero) = one refl
size (suc (suc u)) = more (omega arith)

either_true : (a b : Bool) → b ≡ true → either a b ≡ true
either_true true b e = refl
either_true false b e = e

sooner_none : (a b : ℕ) → a ≡ 0 → sooner a b ≡ b
unfolding sooner
sooner_none a b e = rw (eq-eqb a 0 e)

sooner_none' : (a b : ℕ) → b ≡ 0 → sooner a b ≡ a
unfolding sooner
sooner_none' zero b e = e
sooner_none' (suc a) b e = rw (ne_eqb (suc a) 0 (λ z. omega arith), eq-eqb b 0 e)

sooner_some : (a b : ℕ) → 0 < a → 0 < b → sooner a b ≡ min a b
unfolding sooner
sooner_some a b h k = rw (ne_eqb a 0 (λ z. omega arith), ne_eqb b 0 (λ z. omega arith))

-- a clock that sets the flag
pub arrives : {u u' : ℕ} {flag flag' : Bool} → u ≡ 1 → flag' ≡ true → Counts u flag flag' u'
arrives e f = record { now = λ z. f; else = λ z. absurd (z e); on = λ z. absurd (omega arith); never = λ z. absurd (omega arith) }

-- a flag behind a gate that is open where it is set
pub counts_both : {u u' : ℕ} {flag flag' : Bool} (gate : Bool) → (u ≡ 1 → gate ≡ true) → Counts u flag flag' u' → Counts u (both flag gate) (both flag' gate) u'
counts_both gate h c =
    record {
      now = λ z. rw (c.now z) (h z);
      else = λ z. ap (λ (x : Bool). both x gate) (c.else z);
      on = c.on;
      never = c.never;
    }

sooner_one : (a b : ℕ) → a ≡ 1 → sooner a b ≡ 1
sooner_one a zero e = sooner_none' a 0 refl ∙ e
sooner_one a (suc b) e = sooner_some a (suc b) (omega arith) (omega arith) ∙ omega arith

sooner_one' : (a b : ℕ) → b ≡ 1 → sooner a b ≡ 1
sooner_one' zero b e = sooner_none 0 b refl ∙ e
sooner_one' (suc a) b e = sooner_some (suc a) b (omega arith) (omega arith) ∙ omega arith

-- TWO FLAGS TOGETHER
pub counts_either : {a b a' b' : ℕ} {f g f' g' : Bool} → Counts a f f' a' → Counts b g g' b' → Counts (sooner a b) (either f g) (either f' g') (sooner a' b')
counts_either {a} {b} {a'} {b'} {f} {g} {f'} {g'} x y = go (size a) (size b)
  where
    go : Size a → Size b → Counts (sooner a b) (either f g) (either f' g') (sooner a' b')
    go (none e) sb =
        let na : a ≡ 1 → ⊥ = λ z. omega arith in
        let s : sooner a b ≡ b = sooner_none a b e in
        let s' : sooner a' b' ≡ b' = sooner_none a' b' (x.never e) in
        rw (s, s', x.else na)
        (record {
          now = λ z. either_true f g' (y.now z);
          else = λ z. ap (either f) (y.else z);
          on = y.on;
          never = y.never;
        })
    go (one e) sb = arrives (sooner_one a b e) (rw (x.now e) refl)
    go (more h) (none e) =
        let nb : b ≡ 1 → ⊥ = λ z. omega arith in
        let na : a ≡ 1 → ⊥ = λ z. omega arith in
        let s : sooner a b ≡ a = sooner_none' a b e in
        let s' : sooner a' b' ≡ a' = sooner_none' a' b' (y.never e) in
        rw (s, s', x.else na, y.else nb)
        (record { now = λ z. absurd (na z); else = λ z. refl; on = x.on; never = x.never })
    go (more h) (one e) = arrives (sooner_one' a b e) (either_true f' g' (y.now e))
    go (more h) (more k) =
        let s : sooner a b ≡ min a b = sooner_some a b (omega arith) (omega arith) in
        let s' : sooner a' b' ≡ min a' b' = sooner_some a' b' (omega (arith, x.on h)) (omega (arith, y.on k)) in
        rw (s, s', x.else (λ z. omega arith), y.else (λ z. omega arith))
        (record {
          now = λ z. absurd (omega arith);
          else = λ z. refl;
          on = λ z. omega (arith, x.on h, y.on k);
          never = λ z. absurd (omega arith);
        })

-- what is set stays
pub counts_stay : {u u' : ℕ} {flag flag' : Bool} → Counts u flag flag' u' → flag ≡ true → flag' ≡ true
counts_stay {u} {u'} {flag} {flag'} c e = go (size u)
  where
    go : Size u → flag' ≡ true
    go (none z) = c.else (λ y. omega arith) ∙ e
    go (one z) = c.now z
    go (more z) = c.else (λ y. omega arith) ∙ e

-- within no clock
pub within_none : (u : ℕ) → within u 0 ≡ false
unfolding within
within_none zero = refl
within_none (suc u) = rw (lt-ltb 0 (suc u) (omega arith), lt-leb (suc u) 0 (omega arith))

-- what is within g + 1 clocks, a clock later
pub within_more : {u u' : ℕ} (g : ℕ) → 1 < u → u' ≡ u - 1 → within u' g ≡ within u (suc g)
unfolding within
within_more {u} {u'} g h q = by (leb u (suc g)) refl
  where
    by : (b : Bool) → leb u (suc g) ≡ b → both (ltb 0 u') (leb u' g) ≡ both (ltb 0 u) (leb u (suc g))
    by true e =
        let p : u ≤ suc g = leb-true u (suc g) e in
        rw (lt-ltb 0 u' (omega arith), le-leb u' g (omega arith), lt-ltb 0 u (omega arith), e)
    by false e =
        let p : suc g < u = leb-false u (suc g) e in
        rw (lt-ltb 0 u' (omega arith), lt-leb u' g (omega arith), lt-ltb 0 u (omega arith), e)

pub within_one : (u g : ℕ) → u ≡ 1 → within u (suc g) ≡ true
unfolding within
within_one u g e = rw (e, le-leb 1 (suc g) (omega arith))

pub within_never : (u g : ℕ) → u ≡ 0 → within u g ≡ false
unfolding within
within_never u g e = rw e

pub within_later : {u u' : ℕ} {f f' : Bool} (g : ℕ) → Counts u f f' u' → either f' (within u' g) ≡ either f (within u (suc g))
within_later {u} {u'} {f} {f'} g c = go (size u)
  where
    go : Size u → either f' (within u' g) ≡ either f (within u (suc g))
    go (none e) = rw (c.else (λ z. omega arith), within_never u' g (c.never e), within_never u (suc g) e)
    go (one e) = rw (c.now e) (sym (either_true f (within u (suc g)) (within_one u g e)))
    go (more h) = rw (c.else (λ z. omega arith)) (ap (either f) (within_more g h (c.on h)))

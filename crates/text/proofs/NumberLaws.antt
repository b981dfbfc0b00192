-- Laws of a number within bounds. Assumes nothing.
use Rattle.std.specs.Prelude.{Option, Some, None}
use mathlib.Core.Path.{◌≡◌, refl, sym, ◌∙◌}
use mathlib.Core.Bool.{Bool, true, false}
use Prim.Native.Nat.{ℕ, ◌≤◌, ◌<◌, min}
use native.Mathlib.Omega.{arith}
use borrow.Author.Tests.{le-leb, lt-leb, leb-true, leb-false}
use lib.Dec.{leb}
use Rattle.arith.specs.Pick.{pick, both}
use Rattle.text.specs.Numbers.{within, capped}

-- a number that was read under a test, and one that was not
pub pick_some : (b : Bool) (x v : ℕ) → pick b (Some x) None ≡ Some v → (b ≡ true) × (x ≡ v)
pick_some true x v e = (refl, cc)
pick_some false x v e = absurd (cc)

pub pick_none : (b : Bool) (x : ℕ) → pick b (Some x) None ≡ None → b ≡ false
pick_none true x e = absurd (cc)
pick_none false x e = refl

both_no : (a : Bool) → both a false ≡ false
both_no true = refl
both_no false = refl

module _ (lo hi n : ℕ) where
  pub within_yes : lo ≤ n → n ≤ hi → within lo hi (Some n) ≡ Some n
  unfolding within
  within_yes a b = simp (le-leb lo n a, le-leb n hi b)

  pub within_low : n < lo → within lo hi (Some n) ≡ None
  unfolding within
  within_low a = simp (lt-leb lo n a)

  pub within_high : hi < n → within lo hi (Some n) ≡ None
  unfolding within
  within_high a = simp (lt-leb n hi a, both_no)

-- a number that was let through was read as that number, and is within the bounds
pub record Let (lo hi n : ℕ) (d : Option ℕ) : Type 0 where
  pub is : d ≡ Some n
  pub low : lo ≤ n
  pub high : n ≤ hi

pub within_let : (lo hi n : ℕ) (d : Option ℕ) → within lo hi d ≡ Some n → Let lo hi n d
unfolding within
within_let lo hi n (Some m) e = go (leb lo m) (leb m hi) refl refl e
  where
    go : (a b : Bool) → leb lo m ≡ a → leb m hi ≡ b → pick (both a b) (Some m) None ≡ Some n → Let lo hi n (Some m)
    go true true p q e =
        let h : m ≡ n = cc in
        let l = leb-true lo m p in
        let u = leb-true m hi q in
        record { is = e; low = omega arith; high = omega arith }
    go true false p q e = absurd (let z : ◌≡◌ {A = ℕ} 0 1 = cc in omega arith)
    go false b p q e = absurd (let z : ◌≡◌ {A = ℕ} 0 1 = cc in omega arith)
within_let lo hi n None e = absurd (let z : ◌≡◌ {A = ℕ} 0 1 = cc in omega arith)

within_none : (lo hi : ℕ) → within lo hi None ≡ None
unfolding within
within_none lo hi = refl

-- cutting off at 2^32 does not matter to bounds below it
pub within_capped : (lo hi : ℕ) (d : Option ℕ) → hi < 4294967296 → within lo hi (Some (capped d)) ≡ within lo hi d
unfolding capped
within_capped lo hi (Some n) h = go (leb n hi) refl
  where
    go : (b : Bool) → leb n hi ≡ b → within lo hi (Some (min 4294967296 n)) ≡ within lo hi (Some n)
    go true e =
        let u = leb-true n hi e in
        let m : min 4294967296 n ≡ n = omega arith in
        rw m
    go false e =
        let u = leb-false n hi e in
        rw (within_high lo hi n u, within_high lo hi (min 4294967296 n) (omega arith))
within_capped lo hi None h = within_high lo hi 4294967296 h ∙ sym (within_none lo hi)

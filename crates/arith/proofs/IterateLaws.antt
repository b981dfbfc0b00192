-- Laws of `iterate`. Assumes nothing.
use Prim.Native.Nat.{ℕ, zero, suc, ◌+◌}
use mathlib.Core.Path.{◌≡◌, refl, ap, ◌∙◌}
use native.Mathlib.Nat.{zero-add, suc-add}
use Rattle.arith.specs.Iterate.{iterate}

module _ {A : Type 0} (f : A → A) where
  pub iterate_zero : (x : A) → iterate f 0 x ≡ x
  unfolding iterate
  iterate_zero x = refl

  pub iterate_add : (m n : ℕ) (x : A) → iterate f (m + n) x ≡ iterate f n (iterate f m x)
  unfolding iterate
  iterate_add zero n x = rw zero-add
  iterate_add (suc m) n x = rw suc-add (iterate_add m n (f x))

  pub iterate_one : (x : A) → iterate f 1 x ≡ f x
  unfolding iterate
  iterate_one x = refl

  -- one step more, at the end
  pub iterate_more : (n : ℕ) (x : A) → iterate f (n + 1) x ≡ f (iterate f n x)
  iterate_more n x = iterate_add n 1 x ∙ iterate_one (iterate f n x)

-- a step that another carries along a view: so do n steps
pub iterate_along : {A B : Type 0} (f : B → B) (h : A → A) (view : A → B) → ((x : A) → f (view x) ≡ view (h x))
    → (n : ℕ) (x : A) → iterate f n (view x) ≡ view (iterate h n x)
unfolding iterate
iterate_along f h view e zero x = refl
iterate_along f h view e (suc n) x = ap (iterate f n) (e x) ∙ iterate_along f h view e n (h x)

-- what a step keeps, n steps keep
pub iterate_keeps : {A : Type 0} (P : A → Type 0) (f : A → A) → ((x : A) → P x → P (f x)) → (n : ℕ) (x : A) → P x → P (iterate f n x)
unfolding iterate
iterate_keeps P f k zero x h = h
iterate_keeps P f k (suc n) x h = iterate_keeps P f k n (f x) (k x h)

-- the same, only for as long as P says: P m x is that x can go m steps
pub iterate_along_while : {A B : Type 0} (f : B → B) (h : A → A) (view : A → B) (P : ℕ → A → Type 0)
    → ((m : ℕ) (x : A) → P (suc m) x → f (view x) ≡ view (h x)) → ((m : ℕ) (x : A) → P (suc m) x → P m (h x))
    → (n : ℕ) (x : A) → P n x → iterate f n (view x) ≡ view (iterate h n x)
unfolding iterate
iterate_along_while f h view P e k zero x p = refl
iterate_along_while f h view P e k (suc n) x p = ap (iterate f n) (e n x p) ∙ iterate_along_while f h view P e k n (h x) (k n x p)

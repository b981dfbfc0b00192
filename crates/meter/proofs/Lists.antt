-- Tests over a list, and the lowest and the highest: both occur, and they bound it. Assumes nothing.
use Prim.Native.Nat.{ℕ, min, max, ◌≤◌, ◌<◌}
use mathlib.Core.Path.{◌≡◌, refl, sym, ◌∙◌}
use mathlib.Core.Bool.{Bool, true, false}
use mathlib.Core.List.{List, [], ◌∷◌}
use native.Mathlib.Omega.{arith, min_cases, max_cases}
use lib.ListN.{length}
use Rattle.arith.specs.Pick.{both, either}
use Rattle.meter.specs.Levels.{any, all, lowest, highest}
use Rattle.meter.specs.Says.{All, none, and, Some, here, later}

pub all_map : {P Q : ℕ → Type 0} {l : List ℕ} → ((x : ℕ) → P x → Q x) → All P l → All Q l
all_map f none = none
all_map f (and {x} p a) = and (f x p) (all_map f a)

all_both : {P Q : ℕ → Type 0} {l : List ℕ} → All P l → All Q l → All (λ y. P y × Q y) l
all_both none none = none
all_both (and p a) (and q b) = and (p, q) (all_both a b)

pub some_map : {P Q : ℕ → Type 0} {l : List ℕ} → ((x : ℕ) → P x → Q x) → Some P l → Some Q l
some_map f (here {x} p) = here (f x p)
some_map f (later s) = later (some_map f s)

-- what holds of each and what holds of one meet
pub met : {P Q : ℕ → Type 0} {R : Type 0} {l : List ℕ} → All P l → Some Q l → ((x : ℕ) → P x → Q x → R) → R
met (and {x} p a) (here q) f = f x p q
met (and p a) (later s) f = met a s f
met {P = P} {Q = Q} {R = R} none x5 f = elim x5 [ ]

no : {A : Type 0} → ◌≡◌ {A = Bool} true false → A
no e = let z : ◌≡◌ {A = ℕ} 0 1 = cc in absurd (omega arith)

module _ (f : ℕ → Bool) where
  any_here : (t : Bool) (x : ℕ) (l : List ℕ) → f x ≡ t → either t (any f l) ≡ true → (any f l ≡ true → Some (λ y. f y ≡ true) l) → Some (λ y. f y ≡ true) (x ∷ l)
  any_here true x l e h g = here e
  any_here false x l e h g = later (g h)

  pub any_true_lem : (l : List ℕ) → any f l ≡ true → Some (λ y. f y ≡ true) l
  unfolding any
  any_true_lem [] h = no (sym h)
  any_true_lem (x ∷ l) h = any_here (f x) x l refl h (any_true_lem l)

  any_none : (t : Bool) (x : ℕ) (l : List ℕ) → f x ≡ t → either t (any f l) ≡ false → (any f l ≡ false → All (λ y. f y ≡ false) l) → All (λ y. f y ≡ false) (x ∷ l)
  any_none true x l e h g = no h
  any_none false x l e h g = and e (g h)

  pub any_false : (l : List ℕ) → any f l ≡ false → All (λ y. f y ≡ false) l
  unfolding any
  any_false [] h = none
  any_false (x ∷ l) h = any_none (f x) x l refl h (any_false l)

  all_and : (t : Bool) (x : ℕ) (l : List ℕ) → f x ≡ t → both t (all f l) ≡ true → (all f l ≡ true → All (λ y. f y ≡ true) l) → All (λ y. f y ≡ true) (x ∷ l)
  all_and true x l e h g = and e (g h)
  all_and false x l e h g = no (sym h)

  pub all_true : (l : List ℕ) → all f l ≡ true → All (λ y. f y ≡ true) l
  unfolding all
  all_true [] h = none
  all_true (x ∷ l) h = all_and (f x) x l refl h (all_true l)

  all_but : (t : Bool) (x : ℕ) (l : List ℕ) → f x ≡ t → both t (all f l) ≡ false → (all f l ≡ false → Some (λ y. f y ≡ false) l) → Some (λ y. f y ≡ false) (x ∷ l)
  all_but true x l e h g = later (g h)
  all_but false x l e h g = here e

  pub all_false : (l : List ℕ) → all f l ≡ false → Some (λ y. f y ≡ false) l
  unfolding all
  all_false [] h = no h
  all_false (x ∷ l) h = all_but (f x) x l refl h (all_false l)

lowest_least : (x : ℕ) (l : List ℕ) → (lowest x l ≤ x) × All (λ y. lowest x l ≤ y) l
unfolding lowest
lowest_least x [] = (omega arith, none)
lowest_least x (y ∷ l) = let h = lowest_least (min x y) l in (omega (arith, h.0), and {x = y} (omega (arith, h.0)) h.1)

highest_most : (x : ℕ) (l : List ℕ) → (x ≤ highest x l) × All (λ y. y ≤ highest x l) l
unfolding highest
highest_most x [] = (omega arith, none)
highest_most x (y ∷ l) = let h = highest_most (max x y) l in (omega (arith, h.0), and {x = y} (omega (arith, h.0)) h.1)

-- THE LOWEST AND THE HIGHEST BOUND THE LIST
pub bounds : (x : ℕ) (l : List ℕ) → All (λ y. (lowest x l ≤ y) × (y ≤ highest x l)) (x ∷ l)
bounds x l =
    let a = lowest_least x l in
    let b = highest_most x l in
    and (a.0, b.0) (all_both a.1 b.1)

lower_of : (x y v : ℕ) (l : List ℕ) → Some (λ z. z ≡ v) (min x y ∷ l) → Some (λ z. z ≡ v) (x ∷ y ∷ l)
lower_of x y v l (here e) = min_cases x y (Some (λ z. z ≡ v) (x ∷ y ∷ l)) (λ h k. here (sym k ∙ e)) (λ h k. later (here (sym k ∙ e)))
lower_of x y v l (later s) = later (later s)

higher_of : (x y v : ℕ) (l : List ℕ) → Some (λ z. z ≡ v) (max x y ∷ l) → Some (λ z. z ≡ v) (x ∷ y ∷ l)
higher_of x y v l (here e) = max_cases x y (Some (λ z. z ≡ v) (x ∷ y ∷ l)) (λ h k. later (here (sym k ∙ e))) (λ h k. here (sym k ∙ e))
higher_of x y v l (later s) = later (later s)

-- AND BOTH OCCUR IN IT
pub lowest_occurs : (x : ℕ) (l : List ℕ) → Some (λ y. y ≡ lowest x l) (x ∷ l)
unfolding lowest
lowest_occurs x [] = here refl
lowest_occurs x (y ∷ l) = lower_of x y (lowest (min x y) l) l (lowest_occurs (min x y) l)

pub highest_occurs : (x : ℕ) (l : List ℕ) → Some (λ y. y ≡ highest x l) (x ∷ l)
unfolding highest
highest_occurs x [] = here refl
highest_occurs x (y ∷ l) = higher_of x y (highest (max x y) l) l (highest_occurs (max x y) l)

pub all_first : {P : ℕ → Type 0} {x : ℕ} {l : List ℕ} → All P (x ∷ l) → P x
all_first (and p a) = p

pub all_rest : {P : ℕ → Type 0} {x : ℕ} {l : List ℕ} → All P (x ∷ l) → All P l
all_rest (and p a) = a

pub some_length : {P : ℕ → Type 0} {l : List ℕ} → Some P l → 0 < length l
some_length (here p) = omega arith
some_length (later s) = omega arith

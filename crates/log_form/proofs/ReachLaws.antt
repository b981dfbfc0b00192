-- The first byte with which a test fails: of two tests the further one, behind a form its length more. Assumes nothing.
use mathlib.Core.Path.{◌≡◌, refl, ap, ap₂, sym, ◌∙◌, subst}
use mathlib.Core.List.{List, [], ◌∷◌, ◌++◌, append_assoc}
use mathlib.Core.Bool.{Bool, true, false, false≢true}
use Prim.Native.Nat.{ℕ, zero, suc, ◌+◌, ◌≤◌, ◌<◌, max}
use native.Mathlib.Omega.{arith}
use borrow.Author.Tests.{lt-ltb, le-ltb, ltb-true, ltb-false}
use lib.ListN.{length, take, drop, take-append-drop}
use lib.Dec.{ltb}
use Rattle.arith.specs.Pick.{pick, both, either}
use Rattle.log_form.specs.Forms.{suits, along, nothing, reach}
use Rattle.log_form.specs.Matching.{common}
use Rattle.log_form.proofs.FormLaws.{Onward}

-- OF TWO TESTS THE FURTHER ONE

-- bytes with which a test holds have it hold of their beginnings
abbrev pub Closed : (List ℕ → Bool) → Type 0
Closed f = (s t : List ℕ) → f (s ++ t) ≡ true → f s ≡ true

pub onward_closed : (f : List ℕ → Bool) (P : List ℕ → Type 0) → Onward f P → Closed f
onward_closed f P o s t e =
    let g = o.sound (s ++ t) e in
    o.complete s (t ++ g.rest) (subst P (append_assoc s t g.rest) g.whole)

pub reach_same : (f g : List ℕ → Bool) (s : List ℕ) → ((t : List ℕ) → f t ≡ g t) → reach f s ≡ reach g s
unfolding reach
reach_same f g [] e = refl
reach_same f g (c ∷ s) e = ap₂ (λ (b : Bool) (n : ℕ). pick b (suc n) 0) (e (c ∷ [])) (reach_same (λ t. f (c ∷ t)) (λ t. g (c ∷ t)) s (λ t. e (c ∷ t)))

pub reach_length : (f : List ℕ → Bool) (s : List ℕ) → reach f s ≤ length s
unfolding reach
reach_length f [] = omega arith
reach_length f (c ∷ s) = go (f (c ∷ [])) (reach_length (λ t. f (c ∷ t)) s)
  where
    go : (b : Bool) → reach (λ t. f (c ∷ t)) s ≤ length s → pick b (suc (reach (λ t. f (c ∷ t)) s)) 0 ≤ suc (length s)
    go true r = omega arith
    go false r = omega arith

reach_never : (s : List ℕ) → reach (λ t. false) s ≡ 0
unfolding reach
reach_never [] = refl
reach_never (c ∷ s) = refl

pub reach_both : (b : Bool) (f : List ℕ → Bool) (s : List ℕ) → reach (λ t. both b (f t)) s ≡ pick b (reach f s) 0
reach_both true f s = refl
reach_both false f s = reach_never s

-- a test that fails at a byte fails at all that begins with it
closed_false : (f : List ℕ → Bool) → Closed f → (c : ℕ) → f (c ∷ []) ≡ false → (t : List ℕ) → f (c ∷ t) ≡ false
closed_false f h c e t = go (f (c ∷ t)) refl
  where
    go : (b : Bool) → f (c ∷ t) ≡ b → f (c ∷ t) ≡ false
    go true q = absurd (false≢true (sym e ∙ h (c ∷ []) t q))
    go false q = q

pub closed_both : (b : Bool) (f : List ℕ → Bool) → Closed f → Closed (λ t. both b (f t))
closed_both true f h s t e = h s t e
closed_both false f h s t e = e

closed_either : (f g : List ℕ → Bool) → Closed f → Closed g → Closed (λ t. either (f t) (g t))
closed_either f g h k s t e = go (f (s ++ t)) (f s) refl refl e
  where
    go : (a b : Bool) → f (s ++ t) ≡ a → f s ≡ b → either a (g (s ++ t)) ≡ true → either b (g s) ≡ true
    go true true p q e = refl
    go true false p q e = absurd (false≢true (sym q ∙ h s t p))
    go false true p q e = refl
    go false false p q e = k s t e

reach_either : (f g : List ℕ → Bool) (s : List ℕ) → Closed f → Closed g → reach (λ t. either (f t) (g t)) s ≡ max (reach f s) (reach g s)
unfolding reach
reach_either f g [] h k = refl
reach_either f g (c ∷ s) h k =
    go (f (c ∷ [])) (g (c ∷ [])) refl refl
    (reach_either (λ t. f (c ∷ t)) (λ t. g (c ∷ t)) s (λ x y. h (c ∷ x) y) (λ x y. k (c ∷ x) y))
  where
    go : (a b : Bool) → f (c ∷ []) ≡ a → g (c ∷ []) ≡ b
        → reach (λ t. either (f (c ∷ t)) (g (c ∷ t))) s ≡ max (reach (λ t. f (c ∷ t)) s) (reach (λ t. g (c ∷ t)) s)
        → pick (either a b) (suc (reach (λ t. either (f (c ∷ t)) (g (c ∷ t))) s)) 0
        ≡ max (pick a (suc (reach (λ t. f (c ∷ t)) s)) 0) (pick b (suc (reach (λ t. g (c ∷ t)) s)) 0)
    go true true p q r = omega arith
    go true false p q r =
        let e = reach_same (λ t. g (c ∷ t)) (λ t. false) s (closed_false g k c q) ∙ reach_never s in
        omega arith
    go false true p q r =
        let e = reach_same (λ t. f (c ∷ t)) (λ t. false) s (closed_false f h c p) ∙ reach_never s in
        omega arith
    go false false p q r = refl

-- BEHIND A FORM

along_start : (fs : List ℕ) (f : List ℕ → Bool) → f [] ≡ true → along fs f [] ≡ true
unfolding along
along_start [] f e = e
along_start (x ∷ fs) f e = refl

module _ (x : ℕ) (fs : List ℕ) (f : List ℕ → Bool) (start : f [] ≡ true) (c : ℕ) (s : List ℕ) where
  along_suits : suits x c ≡ true → reach (along (x ∷ fs) f) (c ∷ s) ≡ suc (reach (along fs f) s)
  unfolding reach along
  along_suits e = rw (e, along_start fs f start)

  along_other : suits x c ≡ false → reach (along (x ∷ fs) f) (c ∷ s) ≡ 0
  unfolding reach along
  along_other e = rw e

pub reach_nothing : (s : List ℕ) → reach nothing s ≡ 0
unfolding reach nothing
reach_nothing [] = refl
reach_nothing (c ∷ s) = refl

pub reach_form : (fs s : List ℕ) → reach (along fs nothing) s ≡ common fs s
unfolding reach along common nothing
reach_form [] s = reach_nothing s
reach_form (x ∷ fs) [] = refl
reach_form (x ∷ fs) (c ∷ s) = go (suits x c) refl (reach_form fs s)
  where
    go : (b : Bool) → suits x c ≡ b → reach (along fs nothing) s ≡ common fs s → reach (along (x ∷ fs) nothing) (c ∷ s) ≡ pick b (suc (common fs s)) 0
    go true e r = along_suits x fs nothing refl c s e ∙ ap suc r
    go false e r = along_other x fs nothing refl c s e

pub reach_along : (fs : List ℕ) (f : List ℕ → Bool) (s : List ℕ) → f [] ≡ true
    → reach (along fs f) s ≡ pick (ltb (common fs s) (length fs)) (common fs s) (length fs + reach f (drop (length fs) s))
unfolding reach along common
reach_along [] f s h = omega arith
reach_along (x ∷ fs) f [] h = rw (lt-ltb 0 (suc (length fs)) (omega arith))
reach_along (x ∷ fs) f (c ∷ s) h = go (suits x c) refl (reach_along fs f s h)
  where
    go : (b : Bool) → suits x c ≡ b
        → reach (along fs f) s ≡ pick (ltb (common fs s) (length fs)) (common fs s) (length fs + reach f (drop (length fs) s))
        → reach (along (x ∷ fs) f) (c ∷ s)
        ≡ pick (ltb (pick b (suc (common fs s)) 0) (suc (length fs))) (pick b (suc (common fs s)) 0) (suc (length fs) + reach f (drop (length fs) s))
    go true e r = along_suits x fs f h c s e ∙ (ap suc r ∙ more (ltb (common fs s) (length fs)) refl)
      where
        more : (b : Bool) → ltb (common fs s) (length fs) ≡ b
            → suc (pick b (common fs s) (length fs + reach f (drop (length fs) s)))
            ≡ pick (ltb (suc (common fs s)) (suc (length fs))) (suc (common fs s)) (suc (length fs) + reach f (drop (length fs) s))
        more true q = let l = ltb-true (common fs s) (length fs) q in rw (lt-ltb (suc (common fs s)) (suc (length fs)) (omega arith))
        more false q = let l = ltb-false (common fs s) (length fs) q in rw (le-ltb (suc (common fs s)) (suc (length fs)) (omega arith)) (omega arith)
    go false e r = along_other x fs f h c s e ∙ rw (lt-ltb 0 (suc (length fs)) (omega arith))

-- OF SEVERAL TESTS THE FURTHEST

unfoldable pub any_of : List (List ℕ → Bool) → List ℕ → Bool
any_of [] s = false
any_of (f ∷ fs) s = either (f s) (any_of fs s)

unfoldable pub most : List (List ℕ → Bool) → List ℕ → ℕ
most [] s = 0
most (f ∷ fs) s = max (reach f s) (most fs s)

pub data Each : List (List ℕ → Bool) → Type 0 where
  end : Each []
  also : {f : List ℕ → Bool} {fs : List (List ℕ → Bool)} → Closed f → Each fs → Each (f ∷ fs)

pub closed_any : {fs : List (List ℕ → Bool)} → Each fs → Closed (any_of fs)
unfolding any_of
closed_any end s t e = e
closed_any (also {f} {fs} h r) s t e = closed_either f (any_of fs) h (closed_any r) s t e

pub reach_any : {fs : List (List ℕ → Bool)} → Each fs → (s : List ℕ) → reach (any_of fs) s ≡ most fs s
unfolding any_of most
reach_any end s = reach_never s
reach_any (also {f} {fs} h r) s = reach_either f (any_of fs) s h (closed_any r) ∙ ap (max (reach f s)) (reach_any r s)

-- IT IS THE FIRST: with fewer bytes the test holds, with that one it does not

pub reach_before : (f : List ℕ → Bool) (s : List ℕ) (j : ℕ) → f [] ≡ true → j ≤ reach f s → f (take j s) ≡ true
unfolding reach
reach_before f [] zero n h = n
reach_before f [] (suc j) n h = absurd (omega arith)
reach_before f (c ∷ s) zero n h = n
reach_before f (c ∷ s) (suc j) n h = go (f (c ∷ [])) refl h (reach_before (λ t. f (c ∷ t)) s j)
  where
    go : (b : Bool) → f (c ∷ []) ≡ b → suc j ≤ pick b (suc (reach (λ t. f (c ∷ t)) s)) 0
        → (f (c ∷ []) ≡ true → j ≤ reach (λ t. f (c ∷ t)) s → f (c ∷ take j s) ≡ true) → f (c ∷ take j s) ≡ true
    go true e h r = r e (omega arith)
    go false e h r = absurd (omega arith)

pub reach_at : (f : List ℕ → Bool) (s : List ℕ) → reach f s < length s → f (take (suc (reach f s)) s) ≡ false
unfolding reach
reach_at f [] h = absurd (omega arith)
reach_at f (c ∷ s) h = go (f (c ∷ [])) refl h (reach_at (λ t. f (c ∷ t)) s)
  where
    go : (b : Bool) → f (c ∷ []) ≡ b → pick b (suc (reach (λ t. f (c ∷ t)) s)) 0 < suc (length s)
        → (reach (λ t. f (c ∷ t)) s < length s → f (c ∷ take (suc (reach (λ t. f (c ∷ t)) s)) s) ≡ false)
        → f (c ∷ take (pick b (suc (reach (λ t. f (c ∷ t)) s)) 0) s) ≡ false
    go true e h r = r (omega arith)
    go false e h r = e

pub reach_all : (f : List ℕ → Bool) (s : List ℕ) → Closed f → f s ≡ true → reach f s ≡ length s
reach_all f s h e = go (ltb (reach f s) (length s)) refl
  where
    go : (b : Bool) → ltb (reach f s) (length s) ≡ b → reach f s ≡ length s
    go true q =
        let l = ltb-true (reach f s) (length s) q in
        let t = h (take (suc (reach f s)) s) (drop (suc (reach f s)) s) (rw take-append-drop e) in
        absurd (false≢true (sym (reach_at f s l) ∙ t))
    go false q =
        let l = ltb-false (reach f s) (length s) q in
        omega (arith, reach_length f s)

-- Laws of `starts_with` and `exactly`. Assumes nothing.
use mathlib.Core.Path.{◌≡◌, refl, ap, sym, ◌∙◌}
use mathlib.Core.List.{List, [], ◌∷◌, ◌++◌}
use mathlib.Core.Bool.{Bool, true, false, false≢true}
use Prim.Native.Nat.{ℕ, ◌-◌, ◌≤◌}
use native.Mathlib.Omega.{arith}
use borrow.Author.Tests.{lt-leb, eq-eqb, leb-true, eqb-true}
use lib.ListN.{length, take, drop, length-drop, length-append}
use lib.Seq.{take_all}
use lib.Dec.{leb, eqb}
use Rattle.std.specs.Prelude.{◌&&◌}
use Rattle.std.specs.List.{starts_with as starts_of}
use Rattle.std.specs.Cmp.Lexicographic.{pointwise}
use Rattle.std.proofs.lemmas.Grind.{common_steps}
use Rattle.std.proofs.lemmas.Bool.Decides.{nat_tests}
use Rattle.arith.specs.Pick.{pick, both}
use Rattle.arith.proofs.PickLaws.{both_left, both_right}
use Rattle.text.specs.Key.{starts_with, exactly}

eqb_comm : (a b : ℕ) → eqb a b ≡ eqb b a
eqb_comm a b = grind (arith, nat_tests)

-- the library's `s.starts_with(key)` says the same
pub starts_is : (k s : List ℕ) → starts_of eqb s k ≡ starts_with k s
unfolding starts_with
starts_is [] s = grind (arith, common_steps)
starts_is (a ∷ k) [] = grind (arith, common_steps)
starts_is (a ∷ k) (c ∷ s) = rw (← starts_is k s, eqb_comm c a) (grind (arith, common_steps))

-- and `s == text` what `exactly` says
pub exactly_same : (t s : List ℕ) → pointwise eqb s t ≡ exactly t s
unfolding exactly starts_with
exactly_same [] [] = refl
exactly_same [] (c ∷ s) = sym (lt-leb (length (c ∷ s)) 0 (omega arith))
exactly_same (a ∷ t) [] = refl
exactly_same (a ∷ t) (c ∷ s) = go (eqb c a) (exactly_same t s)
  where
    go : (b : Bool) → pointwise eqb s t ≡ exactly t s
        → (b && pointwise eqb s t) ≡ both (pick b (starts_with t s) false) (leb (length (c ∷ s)) (length (a ∷ t)))
    go true e = e ∙ grind (arith, nat_tests)
    go false e = refl

-- what starts with a key is the key and what stands behind it
pub starts_split : (k s : List ℕ) → starts_with k s ≡ true → s ≡ k ++ drop (length k) s
unfolding starts_with
starts_split [] s e = refl
starts_split (a ∷ k) [] e = absurd (false≢true e)
starts_split (a ∷ k) (c ∷ s) e = go (eqb c a) refl e (starts_split k s)
  where
    go : (b : Bool) → eqb c a ≡ b → pick b (starts_with k s) false ≡ true → (starts_with k s ≡ true → s ≡ k ++ drop (length k) s)
        → c ∷ s ≡ a ∷ (k ++ drop (length k) s)
    go true q e r = rw (eqb-true c a q) (ap (λ (x : List ℕ). a ∷ x) (r e))
    go false q e r = absurd (false≢true e)

-- what starts with a key is as long, or longer
pub starts_length : (k s : List ℕ) → starts_with k s ≡ true → length k ≤ length s
starts_length k s e = omega (arith, simp length-append at (ap length (starts_split k s e)))

-- a key and what stands behind it start with the key
pub starts_joined : (k s : List ℕ) → starts_with k (k ++ s) ≡ true
unfolding starts_with
starts_joined [] s = refl
starts_joined (a ∷ k) s = rw (eq-eqb a a refl) (starts_joined k s)

append_none : (k s : List ℕ) → length s ≤ 0 → k ++ s ≡ k
append_none [] [] h = refl
append_none [] (c ∷ s) h = absurd (omega arith)
append_none (a ∷ k) s h = ap (λ (x : List ℕ). a ∷ x) (append_none k s h)

-- what is exactly a text is that text
pub exactly_is : (t s : List ℕ) → exactly t s ≡ true → s ≡ t
unfolding exactly
exactly_is t s e =
    let q = starts_split t s (both_left (starts_with t s) (leb (length s) (length t)) e) in
    let l = leb-true (length s) (length t) (both_right (starts_with t s) (leb (length s) (length t)) e) in
    q ∙ append_none t (drop (length t) s) (omega (arith, length-drop (length t) s))

-- a part to the end, `&s[k..]`
pub take_rest : (k : ℕ) (s : List ℕ) → take (length s - k) (drop k s) ≡ drop k s
take_rest k s = take_all (length s - k) (drop k s) (omega (arith, length-drop k s))

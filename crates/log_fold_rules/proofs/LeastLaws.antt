-- The choice is the smallest, the copies are all that stand there, and folding goes on behind a loop. Assumes nothing.
use mathlib.Core.Path.{◌≡◌, refl, ap, ◌∙◌}
use mathlib.Core.List.{List}
use mathlib.Core.Bool.{Bool, true, false}
use mathlib.Core.Logic.{◌⊎◌, inl, inr}
use Prim.Native.Nat.{ℕ, zero, suc, ◌+◌, ◌*◌, ◌-◌, ◌≤◌, ◌<◌}
use native.Mathlib.Omega.{arith}
use native.Mathlib.Nat.{zero-mul, suc-mul}
use borrow.Author.Tests.{eqb-true, eqb-false}
use lib.Dec.{eqb}
use lib.ListN.{length, drop}
use lib.Seq.{drop-drop}
use Rattle.arith.specs.Pick.{pick}
use Rattle.log_line.specs.declared.Act.{Act}
use Rattle.log_rules.specs.Tree.{Tree, end, act, loop}
use Rattle.log_fold_rules.specs.Ahead.{begins_with, copies, copies_there}
use Rattle.log_fold_rules.proofs.AheadLaws.{behind}
use Rattle.log_fold_rules.specs.Folding.{suits, plain, fold, choice_in, folded}

-- no smaller p suits
pub smallest : (n k : ℕ) (s : List Act) (q p c : ℕ) → choice_in n k s q ≡ fold p c → (i : ℕ) → q ≤ i → i < p → suits k s i (copies_there s i) ≡ false
unfolding choice_in
smallest zero k s q p c e i g l = absurd (let y : ◌≡◌ {A = ℕ} 0 1 = cc in omega arith)
smallest (suc n) k s q p c e i g l = go (suits k s q (copies_there s q)) refl e (λ h z. smallest n k s (q + 1) p c h i z l)
  where
    later : suits k s q (copies_there s q) ≡ false → (q + 1 ≤ i → suits k s i (copies_there s i) ≡ false) → (x : Bool) → eqb q i ≡ x → suits k s i (copies_there s i) ≡ false
    later f r true x = rw (eqb-true q i x) at f
    later f r false x = r (let y = eqb-false q i x in omega arith)

    go : (b : Bool) → suits k s q (copies_there s q) ≡ b → pick b (fold q (copies_there s q)) (choice_in n k s (q + 1)) ≡ fold p c
        → (choice_in n k s (q + 1) ≡ fold p c → q + 1 ≤ i → suits k s i (copies_there s i) ≡ false) → suits k s i (copies_there s i) ≡ false
    go true h e r = absurd (let x : q ≡ p = cc in omega arith)
    go false h e r = later h (r e) (eqb q i) refl

-- where the line is copied, none does
pub none_suits : (n k : ℕ) (s : List Act) (q : ℕ) → choice_in n k s q ≡ plain → (i : ℕ) → q ≤ i → i < q + n → suits k s i (copies_there s i) ≡ false
unfolding choice_in
none_suits zero k s q e i g l = absurd (omega arith)
none_suits (suc n) k s q e i g l = go (suits k s q (copies_there s q)) refl e (λ h z. none_suits n k s (q + 1) h i z (omega arith))
  where
    later : suits k s q (copies_there s q) ≡ false → (q + 1 ≤ i → suits k s i (copies_there s i) ≡ false) → (x : Bool) → eqb q i ≡ x → suits k s i (copies_there s i) ≡ false
    later f r true x = rw (eqb-true q i x) at f
    later f r false x = r (let y = eqb-false q i x in omega arith)

    go : (b : Bool) → suits k s q (copies_there s q) ≡ b → pick b (fold q (copies_there s q)) (choice_in n k s (q + 1)) ≡ plain
        → (choice_in n k s (q + 1) ≡ plain → q + 1 ≤ i → suits k s i (copies_there s i) ≡ false) → suits k s i (copies_there s i) ≡ false
    go true h e r = absurd (let y : ◌≡◌ {A = ℕ} 0 1 = cc in omega arith)
    go false h e r = later h (r e) (eqb q i) refl

-- behind the copies stands no further one, or there are as many as may be
pub all_copies : (n : ℕ) (b s : List Act) → (copies n b s ≡ n) ⊎ (begins_with b (drop (copies n b s * length b) s) ≡ false)
unfolding copies
all_copies zero b s = inl refl
all_copies (suc n) b s = go (begins_with b s) refl (all_copies n b (drop (length b) s))
  where
    go : (t : Bool) → begins_with b s ≡ t
        → (copies n b (drop (length b) s) ≡ n) ⊎ (begins_with b (drop (copies n b (drop (length b) s) * length b) (drop (length b) s)) ≡ false)
        → (pick t (suc (copies n b (drop (length b) s))) 0 ≡ suc n) ⊎ (begins_with b (drop (pick t (suc (copies n b (drop (length b) s))) 0 * length b) s) ≡ false)
    go true e (inl x) = inl (ap suc x)
    go true e (inr x) =
        let c : ℕ = copies n b (drop (length b) s) in
        let k : length b + c * length b ≡ suc c * length b = omega (arith, suc-mul c (length b)) in
        inr (rw (drop-drop (c * length b) (length b) s ∙ ap (λ (x : ℕ). drop x s) k) at x)
    go false e h = inr (rw (zero-mul (length b)) e)

-- "Write that loop and go on behind it"
pub goes_on_lem : (t : Tree) (j k : ℕ) → folded t j k ≡ folded (behind t j) 0 k
unfolding folded behind
goes_on_lem end j k = refl
goes_on_lem (loop n b t) j k = refl
goes_on_lem (act a t) zero k = refl
goes_on_lem (act a t) (suc j) k = goes_on_lem t j k

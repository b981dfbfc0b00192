-- What an access answers, for any access and any state. Assumes nothing.
use Prim.Native.Nat.{ℕ}
use mathlib.Core.Path.{◌≡◌, refl, sym, ap, ◌∙◌}
use mathlib.Core.Bool.{Bool, true, false, not}
use native.Mathlib.Omega.{arith}
use lib.Dec.{eqb}
use borrow.Author.Tests.{eq-eqb, ne_eqb}
use Rattle.arith.specs.Pick.{pick}
use Rattle.arith.proofs.PickLaws.{pick_both}
use Rattle.bus.specs.declared.Access.{Access}
use Rattle.bus.specs.declared.Access.TheVariants.{Read}
use Rattle.chip.specs.Level.{state_level}
use Rattle.chip.specs.Range.{in_range}
use Rattle.chip.specs.declared.State.{State}
use Rattle.chip_access.specs.Access.{access_state}
use Rattle.chip_access.proofs.AccessLaws.{Bytewide, access_kept, level_read}
use Rattle.chip_api.specs.declared.Answered.{Answered}
use Rattle.chip_api.specs.Answer.{refused_access, done_access, access_answer}

false_true : {A : Type 0} → ◌≡◌ {A = Bool} false true → A
false_true e = let x : ◌≡◌ {A = ℕ} 0 1 = cc in absurd (omega arith)

module _ (x : Access) (s : State) where
  -- an answer is that of an access done, or a refusal
  data Came (r : Answered) : Type 0 where
    done : r ≡ done_access x s → Came r
    refused : eqb r.number 0 ≡ false → r ≡ refused_access r.number s → Came r

  either : (t : Bool) {a b : Answered} → Came a → Came b → Came (pick t a b)
  either t = pick_both Came t

  accomplished : Came (done_access x s)
  accomplished = done refl

  refused_state : Came (refused_access 2 s)
  refused_state = refused refl refl

  refused_register : Came (refused_access 4 s)
  refused_register = refused refl refl

  came : Came (access_answer x s)
  unfolding access_answer
  came = search (either, accomplished, refused_state, refused_register)

  -- AFTER AN ACCESS THAT IS DONE the level is that of the state handed back
  pub level_after : (access_answer x s).number ≡ 0 → (access_answer x s).level ≡ state_level (access_answer x s).state
  level_after = by (access_answer x s) came
    where
      by : (r : Answered) → Came r → r.number ≡ 0 → r.level ≡ state_level r.state
      by r (done e) z = rw e refl
      by r (refused k e) z = false_true (sym k ∙ eq-eqb r.number 0 z)

  -- IT DIFFERS ONLY WHERE the level of the state handed back is not that of the state given,
  pub differs_only : (access_answer x s).differs ≡ true → state_level (access_answer x s).state ≡ state_level s → ⊥
  differs_only = by (access_answer x s) came
    where
      by : (r : Answered) → Came r → r.differs ≡ true → state_level r.state ≡ state_level s → ⊥
      by r (done e) d same =
          let is : state_level (access_state x s) ≡ state_level s = sym (ap (λ (a : Answered). state_level a.state) e) ∙ same in
          false_true (ap not (sym (eq-eqb (state_level (access_state x s)) (state_level s) is)) ∙ (sym (ap (λ (a : Answered). a.differs) e) ∙ d))
      by r (refused k e) d same = false_true (sym (ap (λ (a : Answered). a.differs) e) ∙ d)

  -- AND EVERYWHERE WHERE
  pub differs_where : (state_level (access_answer x s).state ≡ state_level s → ⊥) → (access_answer x s).differs ≡ true
  differs_where = by (access_answer x s) came
    where
      by : (r : Answered) → Came r → (state_level r.state ≡ state_level s → ⊥) → r.differs ≡ true
      by r (done e) other =
          ap (λ (a : Answered). a.differs) e
          ∙ ap not (ne_eqb (state_level (access_state x s)) (state_level s) (λ same. other (ap (λ (a : Answered). state_level a.state) e ∙ same)))
      by r (refused k e) other = absurd (other (ap (λ (a : Answered). state_level a.state) e))

  -- THE STATE HANDED BACK IS IN RANGE wherever the given one is
  pub answer_kept : Bytewide x → in_range s ≡ true → in_range (access_answer x s).state ≡ true
  answer_kept byte h = by (access_answer x s) came
    where
      by : (r : Answered) → Came r → in_range r.state ≡ true
      by r (done e) = ap (λ (a : Answered). in_range a.state) e ∙ access_kept x s byte h
      by r (refused k e) = ap (λ (a : Answered). in_range a.state) e ∙ h

-- A READ NEVER DIFFERS
pub read_same : (s : State) → (access_answer Read s).differs ≡ false
read_same s = by (access_answer Read s) (came Read s)
  where
    by : (r : Answered) → Came Read s r → r.differs ≡ false
    by r (done e) = ap (λ (a : Answered). a.differs) e ∙ ap not (eq-eqb (state_level (access_state Read s)) (state_level s) (level_read s))
    by r (refused k e) = ap (λ (a : Answered). a.differs) e

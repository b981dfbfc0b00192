-- The answer and what it leaves, by cases. Assumes nothing.
use Prim.Native.Nat.{ℕ}
use mathlib.Core.List.{List}
use mathlib.Core.Path.{◌≡◌, sym, ap, ◌∙◌}
use native.Mathlib.Omega.{arith}
use borrow.Author.Tests.{eq-eqb, ne_eqb}
use lib.Dec.{eqb}
use lib.ListN.{length, replicate}
use Rattle.arith.proofs.PickLaws.{pick_true, pick_false}
use Rattle.vgm_blocks.specs.declared.Filled.{Filled}
use Rattle.vgm_blocks.specs.Blocks.{front_blocks, filled_of, judged, fill_all, samples_answer, samples_left}

module _ (stream memory : List ℕ) where
  kept : (a : Filled) → a ≡ samples_answer stream memory → (a.number ≡ 0 → ⊥) → memory ≡ samples_left stream memory
  unfolding samples_left
  kept a e h = sym (pick_false _ _ _ (ne_eqb _ _ (λ z. h (ap (λ (r : Filled). r.number) e ∙ z))))

  -- memory of another size
  pub other_size : (length memory ≡ 32768 → ⊥) → (filled_of 1 0 0 ≡ samples_answer stream memory) × (memory ≡ samples_left stream memory)
  unfolding samples_answer
  other_size h =
      let a = sym (pick_false (eqb (length memory) 32768) (judged (front_blocks stream) 0) (filled_of 1 0 0) (ne_eqb _ _ h)) in
      (a, kept (filled_of 1 0 0) a (λ z. omega (arith, z)))

  module _ (l : length memory ≡ 32768) (a : Filled) (e : a ≡ judged (front_blocks stream) 0) where
    judged_answer : a ≡ samples_answer stream memory
    unfolding samples_answer
    judged_answer = e ∙ sym (pick_true (eqb (length memory) 32768) _ _ (eq-eqb _ _ l))

    -- a block at fault
    pub at_fault : (a.number ≡ 0 → ⊥) → (a ≡ samples_answer stream memory) × (memory ≡ samples_left stream memory)
    at_fault h = (judged_answer, kept a judged_answer h)

    -- zeros, and the blocks over them
    pub all_right : (zeros after : List ℕ) → a.number ≡ 0 → zeros ≡ replicate (length memory) 0 → after ≡ fill_all (front_blocks stream) zeros
        → (a ≡ samples_answer stream memory) × (after ≡ samples_left stream memory)
    unfolding samples_left
    all_right zeros after h z f =
        let n = sym (ap (λ (r : Filled). r.number) judged_answer) ∙ h in
        let size = z ∙ ap (λ (k : ℕ). replicate k 0) l in (
          judged_answer,
          f ∙ ap (fill_all (front_blocks stream)) size ∙ sym (pick_true (eqb (samples_answer stream memory).number 0) _ _ (eq-eqb _ _ n)),
        )

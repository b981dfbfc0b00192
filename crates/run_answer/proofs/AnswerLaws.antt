-- A run's answer by its number. Assumes nothing.
use Prim.Native.Nat.{ℕ, ◌≤◌, ◌<◌}
use mathlib.Core.Path.{◌≡◌, refl}
use mathlib.Core.Bool.{Bool, true, false}
use mathlib.Core.Logic.{◌≢◌}
use mathlib.Core.List.{List}
use native.Mathlib.Omega.{arith}
use lib.Dec.{leb}
use lib.ListN.{length}
use borrow.Author.Tests.{eq-eqb, ne_eqb, eqb-true, le-leb, lt-leb, leb-true}
use Rattle.arith.specs.Pick.{pick}
use Rattle.chip.specs.Range.{in_range}
use Rattle.chip.specs.declared.State.{State}
use Rattle.chip_api.specs.Answer.{is_memory}
use Rattle.run_answer.specs.declared.Ran.{Ran}
use Rattle.arith.specs.Over.{over}
use Rattle.run_answer.specs.Run.{number, flat, read_by, refusal, answered, uncounted_answer, uncounted_lent}

module _ (memory : List ℕ) (s : State) (count : ℕ) where
  pub number_one : (length memory ≡ 32768 → ⊥) → number memory s count ≡ 1
  unfolding number
  number_one h = rw (ne_eqb _ _ h)

  pub number_two : length memory ≡ 32768 → in_range s ≡ false → number memory s count ≡ 2
  unfolding number
  number_two h r = rw (eq-eqb _ _ h, r)

  pub number_three : length memory ≡ 32768 → in_range s ≡ true → 1_000_000 < count → number memory s count ≡ 3
  unfolding number
  number_three h r k = rw (eq-eqb _ _ h, r, lt-leb _ _ k)

  pub number_none : length memory ≡ 32768 → in_range s ≡ true → count ≤ 1_000_000 → number memory s count ≡ 0
  unfolding number
  number_none h r k = rw (eq-eqb _ _ h, r, le-leb _ _ k)

  -- what number 0 says of a run
  pub number_fine : number memory s count ≡ 0 → (length memory ≡ 32768) × (in_range s ≡ true) × (count ≤ 1_000_000)
  unfolding number
  number_fine e = go (is_memory memory) (in_range s) (leb count 1_000_000) refl refl refl e
    where
      go : (t u v : Bool) → is_memory memory ≡ t → in_range s ≡ u → leb count 1_000_000 ≡ v → ◌≡◌ {A = ℕ} (pick t (pick u (pick v 0 3) 2) 1) 0
          → (length memory ≡ 32768) × (in_range s ≡ true) × (count ≤ 1_000_000)
      go true true true a b d z = (eqb-true _ _ a, b, leb-true _ _ d)
      go true true false a b d z = absurd (let y : ◌≡◌ {A = ℕ} 3 0 = z in omega arith)
      go true false v a b d z = absurd (let y : ◌≡◌ {A = ℕ} 2 0 = z in omega arith)
      go false u v a b d z = absurd (let y : ◌≡◌ {A = ℕ} 1 0 = z in omega arith)

  module _ (words : List ℕ) where
    -- a run that is refused
    pub refused : (n : ℕ) → n ≢ 0 → n ≡ number memory s count
        → (refusal n s ≡ uncounted_answer memory s count words) × (words ≡ uncounted_lent memory s count words)
    unfolding uncounted_answer answered uncounted_lent
    refused n h e = rw (← e, ne_eqb n 0 h) (refl, refl)

    -- a run that is not: its reading
    pub worked_out : number memory s count ≡ 0 → (r : Ran) (after : List ℕ)
        → r ≡ answered 0 s (read_by memory s count words) → after ≡ over (flat (read_by memory s count words).marks) words
        → (r ≡ uncounted_answer memory s count words) × (after ≡ uncounted_lent memory s count words)
    unfolding uncounted_answer uncounted_lent
    worked_out e r after a l = rw e (a, l)

-- The state at a clock of a log at the boundary: its clock and its place are within document 01's limits, and only bytes of a state's length are
-- written over. Assumes nothing.
use Prim.Native.Nat.{ℕ, ◌+◌, ◌-◌, ◌≤◌}
use mathlib.Core.Path.{◌≡◌, refl, ◌∙◌}
use mathlib.Core.Bool.{Bool, true, false}
use mathlib.Core.List.{List, [], ◌∷◌}
use native.Mathlib.Omega.{arith}
use borrow.Author.Tests.{eq-eqb, ne_eqb, eqb-true, ltb-true}
use lib.ListN.{length}
use lib.Dec.{eqb, ltb}
use Rattle.arith.specs.Iterate.{iterate}
use Rattle.arith.specs.Pick.{pick}
use Rattle.arith.proofs.PickLaws.{pick_both, pick_each}
use Rattle.log_line.specs.declared.Act.{Act}
use Rattle.log_line.specs.declared.Act.TheVariants.{Wait, Access}
use Rattle.recording.specs.Whole.{machine_of}
use Rattle.log_rules.specs.Tree.{acts, clocks}
use Rattle.recording.specs.Whole.{tree_of, check_of}
use Rattle.recording.proofs.Limits.{check_limits}
use Rattle.recording.proofs.Passing.{clear}
use Rattle.chip.specs.Clock.{chip_clock}
use Rattle.chip.specs.Range.{power_on}
use Rattle.chip.specs.declared.State.{State}
use Rattle.chip_access.specs.Access.{access_state}
use Rattle.chip_api.specs.Answer.{is_memory}
use Rattle.play_at.specs.declared.At.{At}
use Rattle.play_at.specs.Reached.{refused_at, reached, state_at}
use Rattle.play_at.proofs.WalkLaws.{at_is}
use Rattle.play_at.proofs.Heard.{clock_is}
use Rattle.c_state.specs.Bytes.{state_size, state_bytes}
use Rattle.c_state.specs.Encoded.{encoded}
use Rattle.c_chip.proofs.StoreLaws.{written_by_lem}
use Rattle.c_at.specs.Packed.{at_answer, at_packed, at_bytes}

pub record Limited (a : At) : Type 0 where
  pub number : a.number ≤ 36
  pub clock : a.clock ≤ 2000000000
  pub place : a.place ≤ 524288

refused_in : (number place : ℕ) → number ≤ 36 → place ≤ 524288 → Limited (refused_at number place)
refused_in number place n p = record { number = n; clock = omega arith; place = p }

module _ (log memory : List ℕ) (c : ℕ) where
  -- what is reached has number 0 and place 0
  reached_done : (l : List Act) (t : ℕ) (s : State) → ((reached memory c l t s).number ≡ 0) × ((reached memory c l t s).place ≡ 0)
  unfolding reached
  reached_done [] t s = (refl, refl)
  reached_done (Wait n ∷ l) t s =
      pick_both (λ (a : At). (a.number ≡ 0) × (a.place ≡ 0)) (ltb c (t + n)) (refl, refl) (reached_done l (t + n) (iterate (chip_clock memory) n s))
  reached_done (Access x ∷ l) t s = reached_done l t (access_state x s)

  clock_in_lem : length memory ≡ 32768 → (check_of log).number ≡ 0 → (state_at log memory c).clock ≤ 2000000000
  clock_in_lem long fine =
      let h = (clear log fine).in_clocks in
      rw (clock_is log memory c long fine)
      (pick_each (λ (k : ℕ). k ≤ 2000000000) (ltb c (clocks (tree_of log))) (λ e. let i = ltb-true c (clocks (tree_of log)) e in omega arith) (λ e. h))

  reached_in : length memory ≡ 32768 → (check_of log).number ≡ 0 → Limited (reached memory c (acts (tree_of log)) 0 (power_on (machine_of log)))
  reached_in long fine =
      let done = reached_done (acts (tree_of log)) 0 (power_on (machine_of log)) in
      record {
        number = rw done.0 (omega arith);
        clock = rw (at_is log memory c long fine) at (clock_in_lem long fine);
        place = rw done.1 (omega arith);
      }

  -- WITHIN THE LIMITS
  pub at_limits : Limited (state_at log memory c)
  unfolding state_at
  at_limits =
      pick_each Limited (is_memory memory)
      (λ m.
      pick_each Limited (eqb (check_of log).number 0) (λ e. reached_in (eqb-true (length memory) 32768 m) (eqb-true (check_of log).number 0 e))
      (λ e. refused_in (check_of log).number (check_of log).place (check_limits log).number (check_limits log).place))
      (λ m. refused_in 1 0 (omega arith) (omega arith))

  module _ (b : List ℕ) where
    -- lent other than a state's bytes
    pub other_length_lem : (length b ≡ state_size → ⊥)
        → (pick (eqb (length memory) 32768) 2 1 ≡ at_packed (at_answer log memory c b)) × (b ≡ at_bytes (at_answer log memory c b) b)
    unfolding at_answer
    other_length_lem h = rw (ne_eqb (length b) state_size h) (by (is_memory memory))
      where
        by : (t : Bool) → (pick t 2 1 ≡ at_packed (pick t (refused_at 2 0) (refused_at 1 0))) × (b ≡ at_bytes (pick t (refused_at 2 0) (refused_at 1 0)) b)
        by true = (refl, refl)
        by false = (refl, refl)

    -- lent a state's bytes
    pub answer_is : length b ≡ state_size → at_answer log memory c b ≡ state_at log memory c
    unfolding at_answer state_at
    answer_is h = rw (eq-eqb (length b) state_size h) (by (is_memory memory) _)
      where
        by : (t : Bool) (a : At) → pick t (pick t a (refused_at 1 0)) (refused_at 1 0) ≡ pick t a (refused_at 1 0)
        by true a = refl
        by false a = refl

    stored : (t : Bool) (s : State) → length b ≡ state_size → pick t (encoded s b) b ≡ pick t (state_bytes s) b
    unfolding encoded
    stored t s h = written_by_lem t (encoded s b) (state_bytes s) b (λ e. rw (eq-eqb (length b) state_size h))

    pub right_length : length b ≡ state_size → (a : At) → a ≡ state_at log memory c → (answer : ℕ) → answer ≡ at_packed a
        → (b' : List ℕ) → b' ≡ pick (eqb a.number 0) (encoded a.state b) b
        → (answer ≡ at_packed (at_answer log memory c b)) × (b' ≡ at_bytes (at_answer log memory c b) b)
    right_length h a e answer f b' k = rw (answer_is h, ← e) (f, k ∙ stored (eqb a.number 0) a.state h)

-- The bytes after an answer: only bytes of a state's length are written over. Assumes nothing.
use mathlib.Core.Path.{◌≡◌, refl, ap, ◌∙◌}
use mathlib.Core.Bool.{Bool, true, false}
use mathlib.Core.List.{List}
use Prim.Native.Nat.{ℕ}
use lib.ListN.{length}
use lib.Dec.{eqb, leb}
use borrow.Author.Tests.{eq-eqb, eqb-true}
use Rattle.arith.specs.Pick.{pick, both}
use Rattle.arith.proofs.PickLaws.{both_left}
use Rattle.bus.specs.declared.Access.{Access}
use Rattle.chip.specs.Range.{in_range}
use Rattle.chip.specs.declared.State.{State}
use Rattle.chip_api.specs.Answer.{moved, is_memory, refused_access, access_answer, clock_answer}
use Rattle.chip_api.specs.declared.Moved.{Moved}
use Rattle.chip_api.specs.declared.Answered.{Answered}
use Rattle.c_state.specs.Bytes.{state_size, state_bytes, state_in}
use Rattle.c_state.specs.Encoded.{encoded}
use Rattle.c_state.proofs.CodeLaws.{in_long}
use Rattle.c_chip.specs.Boundary.{bytes_after, power_number, access_bytes, clock_bytes}

-- bytes that are written only where t says so
pub written_by_lem : (t : Bool) (x y b : List ℕ) → (t ≡ true → x ≡ y) → pick t x b ≡ pick t y b
written_by_lem true x y b h = h refl
written_by_lem false x y b h = refl

stored_by : (t : Bool) (b : List ℕ) (s : State) → (t ≡ true → length b ≡ state_size) → pick t (encoded s b) b ≡ pick t (state_bytes s) b
unfolding encoded
stored_by t b s h = written_by_lem t (encoded s b) (state_bytes s) b (λ e. rw (eq-eqb (length b) state_size (h e)))

-- the bytes after an answer whose number is 0 only for a state in range
pub stored : {A : Type 0} (number : A → ℕ) (state : A → State) (b : List ℕ) (a r : A) (after : List ℕ) → (eqb (number a) 0 ≡ true → in_range (state_in b) ≡ true)
    → r ≡ a → after ≡ pick (eqb (number r) 0) (encoded (state r) b) b → after ≡ bytes_after (number a) (state a) b
stored number state b a r after h e g =
    g ∙ ap (λ x. pick (eqb (number x) 0) (encoded (state x) b) b) e ∙ stored_by (eqb (number a) 0) b (state a) (λ z. in_long b (h z))

-- an access is done only on a state in range
access_done : (x : Access) (s : State) → eqb (access_answer x s).number 0 ≡ true → in_range s ≡ true
unfolding access_answer
access_done x s e = by (in_range s) _ e
  where
    by : (t : Bool) (a : Answered) → eqb (pick t a (refused_access 2 s)).number 0 ≡ true → t ≡ true
    by true a e = refl
    by false a e = e

pub access_stored : (x : Access) (b : List ℕ) (r : Answered) (after : List ℕ) → r ≡ access_answer x (state_in b)
    → after ≡ pick (eqb r.number 0) (encoded r.state b) b → after ≡ access_bytes (access_answer x (state_in b)) b
access_stored x b r after =
    stored (λ (a : Answered). a.number) (λ (a : Answered). a.state) b (access_answer x (state_in b)) r after (access_done x (state_in b))

-- and so is a clock
clock_done : (memory : List ℕ) (s : State) → eqb (clock_answer memory s).number 0 ≡ true → in_range s ≡ true
unfolding clock_answer
clock_done memory s e = by (is_memory memory) (in_range s) _ e
  where
    by : (t u : Bool) (m : Moved) → eqb (pick t (pick u m (moved 2 s)) (moved 1 s)).number 0 ≡ true → u ≡ true
    by t true m e = refl
    by true false m e = e
    by false false m e = e

pub clock_stored : (memory b : List ℕ) (r : Moved) (after : List ℕ) → r ≡ clock_answer memory (state_in b)
    → after ≡ pick (eqb r.number 0) (encoded r.state b) b → after ≡ clock_bytes (clock_answer memory (state_in b)) b
clock_stored memory b r after =
    stored (λ (m : Moved). m.number) (λ (m : Moved). m.state) b (clock_answer memory (state_in b)) r after (clock_done memory (state_in b))

power_done : (t : Bool) → eqb (pick t 0 2) 0 ≡ true → t ≡ true
power_done true e = refl
power_done false e = e

pub stored_on : (machine : ℕ) (b : List ℕ) (s : State) → pick (eqb (power_number machine b) 0) (encoded s b) b ≡ bytes_after (power_number machine b) s b
stored_on machine b s =
    stored_by (eqb (power_number machine b) 0) b s
    (λ e. eqb-true (length b) state_size (both_left (eqb (length b) state_size) (leb machine 1) (power_done (both (eqb (length b) state_size) (leb machine 1)) e)))

-- Request 1: a clockwork with counts beside it.
use Rattle.std.specs.Prelude.{ℕ, zero, suc, ◌+◌, List, [], ◌∷◌, eqb, ltb, get_or, set}
use Rattle.arith.specs.Pick.{pick}
use Rattle.reading.specs.Reading.{Clockwork}

-- a state and the counts beside it
pub record Beside (S : Type 0) : Type 0 where
  pub state : S
  pub counts : List ℕ

-- the count at a place raised by g
unfoldable pub raise : ℕ → ℕ → List ℕ → List ℕ
raise place g counts = set counts place (get_or counts place 0 + g)

-- the sum of the counts
unfoldable pub sum : List ℕ → ℕ
sum [] = 0
sum (n ∷ ns) = n + sum ns

module _ {S : Type 0} (clock : S → S) (place : S → ℕ) where
  -- "the number of such clocks": of n clocks from s, those after which the level's place is i
  unfoldable pub dwelt : ℕ → ℕ → S → ℕ
  dwelt i zero s = 0
  dwelt i (suc n) s = pick (eqb (place (clock s)) i) 1 0 + dwelt i n (clock s)

  module _ (level : S → ℕ) (limit : ℕ) where
    -- "one added at the level's place after each clock done"; "A count that would pass [the limit] stops the run before that clock."
    abbrev pub counting : Clockwork (Beside S)
    counting =
        record {
          clock = λ t. record { state = clock t.state; counts = raise (place (clock t.state)) 1 t.counts };
          level = λ t. level t.state;
          full = λ t. ltb limit (get_or t.counts (place (clock t.state)) 0 + 1);
        }

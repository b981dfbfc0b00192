-- When the interrupt line is asserted next, or one of the two flags is set: asked clock by clock, with no access between.
use Rattle.std.specs.Prelude.{ℕ, zero, suc, ◌+◌, ◌≤◌, ◌<◌, ◌≡◌, Bool, true, false, List, eqb}
use Rattle.arith.specs.Iterate.{iterate}
use Rattle.arith.specs.Pick.{pick}
use Rattle.chip.specs.Clock.{chip_clock}
use Rattle.chip.specs.Line.{line_asserted}
use Rattle.chip.specs.declared.State.{State}
use Rattle.run_answer.specs.Run.{number}
use Rattle.run_interrupt.specs.declared.Asked.{Asked}
use Rattle.run_interrupt.specs.declared.Asked.TheVariants.{Line, Frame, Dmc}
use Rattle.run_interrupt.specs.declared.Rise.{Rise}
use Rattle.run_interrupt.specs.declared.Rise.TheVariants.{At, Never, Refused}

-- what is asked for: "The line is asserted when the frame flag is set and disable is clear, or the DMC flag is set", or one of the two flags by itself
unfoldable pub holds : Asked → State → Bool
holds Line s = line_asserted s
holds Frame s = s.frame.interrupt
holds Dmc s = s.dmc.reader.interrupt

-- one clock later
unfoldable pub later : Rise → Rise
later (At k) = At (k + 1)
later Never = Never
later (Refused n) = Refused n

-- the least k from 0 to n such that it holds after k clocks, or that there is none
unfoldable pub first_in : Asked → List ℕ → ℕ → State → Rise
first_in a memory zero s = pick (holds a s) (At 0) Never
first_in a memory (suc n) s = pick (holds a s) (At 0) (later (first_in a memory n (chip_clock memory s)))

-- WHAT IS ANSWERED: 1, 2 and 3 as a run, then the first clock from now to the count
unfoldable pub next_interrupt : Asked → List ℕ → State → ℕ → Rise
next_interrupt a memory s count = pick (eqb (number memory s count) 0) (first_in a memory count s) (Refused (number memory s count))

-- document 01's number of each answer, and its value: the clocks, where there are any
abbrev pub rise_number : Rise → ℕ
rise_number (At k) = 0
rise_number Never = 0
rise_number (Refused n) = n

abbrev pub rise_clocks : Rise → ℕ
rise_clocks (At k) = k
rise_clocks Never = 0
rise_clocks (Refused n) = 0

-- the value by the same rule: the clocks to the first, 0 where there is none and where 1, 2 or 3 holds
unfoldable pub clocks_to : Asked → List ℕ → State → ℕ → ℕ
clocks_to a memory s count = pick (eqb (number memory s count) 0) (rise_clocks (first_in a memory count s)) 0

-- it holds after k clocks, not before, and from there on: no clock clears a flag
pub record First (a : Asked) (memory : List ℕ) (s : State) (k : ℕ) : Type 0 where
  pub there : holds a (iterate (chip_clock memory) k s) ≡ true
  pub not_before : (j : ℕ) → j < k → holds a (iterate (chip_clock memory) j s) ≡ false
  pub from_there : (j : ℕ) → k ≤ j → holds a (iterate (chip_clock memory) j s) ≡ true

-- what an answer says of the plain clock
abbrev pub Says : Asked → List ℕ → State → ℕ → Rise → Type 0
Says a memory s n (At k) = (k ≤ n) × First a memory s k
Says a memory s n Never = (j : ℕ) → j ≤ n → holds a (iterate (chip_clock memory) j s) ≡ false
Says a memory s n (Refused m) = Unit {0}

-- EVERY ANSWER SAYS SO
abbrev pub Rises : Type 0
Rises = (a : Asked) (memory : List ℕ) (s : State) (n : ℕ) → Says a memory s n (first_in a memory n s)

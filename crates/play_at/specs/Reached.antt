-- The state at a clock of a log. Document 01, "The log": clocks are worked one by one.
use Rattle.std.specs.Prelude.{ℕ, ◌+◌, ◌-◌, false, List, [], ◌∷◌, eqb, ltb}
use Rattle.arith.specs.Iterate.{iterate}
use Rattle.arith.specs.Pick.{pick}
use Rattle.log_line.specs.declared.Act.{Act}
use Rattle.log_line.specs.declared.Act.TheVariants.{Wait, Access}
use Rattle.recording.specs.Whole.{machine_of}
use Rattle.log_rules.specs.Tree.{acts}
use Rattle.recording.specs.Whole.{tree_of, check_of}
use Rattle.chip.specs.Clock.{chip_clock}
use Rattle.chip.specs.Range.{power_on}
use Rattle.chip.specs.declared.State.{State}
use Rattle.chip_access.specs.Access.{access_state}
use Rattle.chip_api.specs.Answer.{is_memory}
use Rattle.play_at.specs.declared.At.{At}

-- the state s at the clock t
abbrev pub at_of : ℕ → State → At
at_of t s = record { number = 0; place = 0; clock = t; state = s }

-- refused: the clock is 0, and the state is that at power-on (NTSC's)
abbrev pub refused_at : ℕ → ℕ → At
refused_at number place = record { number = number; place = place; clock = 0; state = power_on false }

-- from the state s at time t, the acts up to the clock c: "An access stamped t acts on the state after exactly t clocks, before clock t+1", so
-- those stamped c have acted. A wait that goes on past c is cut there; acts that end before c end there.
unfoldable pub reached : List ℕ → ℕ → List Act → ℕ → State → At
reached memory c [] t s = at_of t s
reached memory c (Wait n ∷ l) t s =
    pick (ltb c (t + n)) (at_of c (iterate (chip_clock memory) (c - t) s))
    (reached memory c l (t + n) (iterate (chip_clock memory) n s))
reached memory c (Access x ∷ l) t s = reached memory c l t (access_state x s)

-- THE STATE AT A CLOCK OF A LOG, from power-on of its machine. 1: "sample memory isn't 32,768 bytes", at 0; then the log's own refusals
unfoldable pub state_at : List ℕ → List ℕ → ℕ → At
state_at log memory c =
    pick (is_memory memory)
    (pick (eqb (check_of log).number 0) (reached memory c (acts (tree_of log)) 0 (power_on (machine_of log)))
    (refused_at (check_of log).number (check_of log).place))
    (refused_at 1 0)

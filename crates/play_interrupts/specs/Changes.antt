-- The changes of the two interrupt flags and of the line over a log, in order of time. Clocks are worked one by one.
use Rattle.std.specs.Prelude.{ℕ, zero, suc, ◌+◌, Bool, true, false, List, [], ◌∷◌, ◌++◌}
use Rattle.arith.specs.Iterate.{iterate}
use Rattle.arith.specs.Pick.{pick, both}
use Rattle.log_line.specs.declared.Act.{Act}
use Rattle.log_line.specs.declared.Act.TheVariants.{Wait, Access}
use Rattle.chip.specs.Clock.{chip_clock}
use Rattle.chip.specs.Line.{line_asserted}
use Rattle.chip.specs.declared.State.{State}
use Rattle.chip_access.specs.Access.{access_state}
use Rattle.play_interrupts.specs.declared.Flags.{Flags}
use Rattle.play_interrupts.specs.declared.Change.{Change}

-- what the repairer's probe sees: the frame's flag, the DMC's, and the line
unfoldable pub flags_of : State → Flags
flags_of s = record { frame = s.frame.interrupt; dmc = s.dmc.reader.interrupt; line = line_asserted s }

-- two flags alike
abbrev pub same : Bool → Bool → Bool
same a b = pick a b (pick b false true)

unfoldable pub same_flags : Flags → Flags → Bool
same_flags a b = both (same a.frame b.frame) (both (same a.dmc b.dmc) (same a.line b.line))

abbrev pub change_of : ℕ → Flags → Flags → Change
change_of t before after = record { time = t; before = before; after = after }

-- at time t a clock or an access led from one state to another: a change where any of the three differs
unfoldable pub changed : ℕ → State → State → List Change
changed t s next = pick (same_flags (flags_of s) (flags_of next)) [] (change_of t (flags_of s) (flags_of next) ∷ [])

-- n clocks from the state s at time t on
unfoldable pub clocks_changes : List ℕ → ℕ → ℕ → State → List Change
clocks_changes memory zero t s = []
clocks_changes memory (suc n) t s = changed (t + 1) s (chip_clock memory s) ++ clocks_changes memory n (t + 1) (chip_clock memory s)

-- THE CHANGES OF A LOG'S ACTS, in log order, from the state s at time t on: "An access stamped t acts on the state after exactly t clocks, before clock
-- t+1."
unfoldable pub changes_from : List ℕ → List Act → ℕ → State → List Change
changes_from memory [] t s = []
changes_from memory (Wait n ∷ l) t s = clocks_changes memory n t s ++ changes_from memory l (t + n) (iterate (chip_clock memory) n s)
changes_from memory (Access x ∷ l) t s = changed t s (access_state x s) ++ changes_from memory l t (access_state x s)

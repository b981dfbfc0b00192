-- What a log sounds like, line by line. Document 01, "The log": the program's lines. Clocks are worked one by one.
use Rattle.std.specs.Prelude.{ℕ, zero, suc, ◌+◌, Bool, List, [], ◌∷◌, ◌++◌, eqb}
use Rattle.arith.specs.Pick.{pick}
use Rattle.bus.specs.declared.Access as busAccess
use Rattle.bus.specs.declared.Access.TheVariants as bus
use Rattle.log_line.specs.declared.Act.{Act}
use Rattle.log_line.specs.declared.Act.TheVariants.{Wait, Access}
use Rattle.chip.specs.Clock.{chip_clock}
use Rattle.chip.specs.Level.{state_level}
use Rattle.chip.specs.Range.{power_on}
use Rattle.chip.specs.declared.State.{State}
use Rattle.chip_access.specs.Access.{access_state, access_byte}
use Rattle.play_text.specs.declared.Entry.{Entry}
use Rattle.play_text.specs.declared.Entry.TheVariants.{Play, Level, Read, Stop}

-- "a level line appears after a clock or access that leaves the level other than the last written": at time t, in the state s
unfoldable pub heard : ℕ → ℕ → State → List Entry
heard t last s = pick (eqb (state_level s) last) [] (Level t (state_level s) ∷ [])

-- n clocks from time t on, and then what follows (after each clock the level is the last written, since another is written at once)
unfoldable pub waited : List ℕ → ℕ → ℕ → ℕ → State → (ℕ → ℕ → State → List Entry) → List Entry
waited memory zero t last s rest = rest t last s
waited memory (suc n) t last s rest =
    heard (t + 1) last (chip_clock memory s) ++ waited memory n (t + 1) (state_level (chip_clock memory s)) (chip_clock memory s) rest

-- `read=10:00`: a read brings a line with the byte read, a write none
unfoldable pub read_line : busAccess.Access → ℕ → State → List Entry
read_line (bus.Write r v) t s = []
read_line bus.Read t s = Read t (access_byte bus.Read s) ∷ []

-- the acts from time t on, in log order: "An access stamped t acts on the state after exactly t clocks, before clock t+1."
unfoldable pub entries_from : List ℕ → ℕ → ℕ → State → List Act → List Entry
entries_from memory t last s [] = Stop t ∷ []
entries_from memory t last s (Wait n ∷ acts) = waited memory n t last s (λ t last s. entries_from memory t last s acts)
entries_from memory t last s (Access x ∷ acts) =
    read_line x t s ++ (heard t last (access_state x s) ++ entries_from memory t (state_level (access_state x s)) (access_state x s) acts)

-- `play=1`, the first level at 0, and then what the acts bring, from power-on of the machine (true is PAL)
unfoldable pub entries_of : Bool → List ℕ → List Act → List Entry
entries_of pal memory acts = Play ∷ Level 0 (state_level (power_on pal)) ∷ entries_from memory 0 (state_level (power_on pal)) (power_on pal) acts

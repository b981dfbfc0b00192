-- Document 01, "Numbers an answer can carry": what the chip's operations answer. "Lowest number first"; "A refusal returns its number ..,
-- the state .. as given, 0 or no for the rest".
use Rattle.std.specs.Prelude.{ℕ, Bool, true, false, not, List, length, eqb, pos, Float}
use Rattle.std.specs.Float.{fin}
use Rattle.arith.specs.Pick.{pick}
use Rattle.bus.specs.Register.{is_register}
use Rattle.bus.specs.declared.Access.{Access}
use Rattle.bus.specs.declared.Access.TheVariants.{Write, Read}
use Rattle.chip_mixer.specs.Fraction.{fraction_of}
use Rattle.chip.specs.Clock.{chip_clock}
use Rattle.chip.specs.Level.{state_level}
use Rattle.chip.specs.Range.{in_range}
use Rattle.chip.specs.Line.{line_asserted}
use Rattle.chip.specs.declared.State.{State}
use Rattle.chip_access.specs.Access.{access_state, access_byte}
use Rattle.chip_api.specs.declared.Moved.{Moved}
use Rattle.chip_api.specs.declared.Answered.{Answered}
use Rattle.chip_api.specs.declared.Asserted.{Asserted}
use Rattle.chip_api.specs.declared.Mixed.{Mixed}
use Rattle.chip_api.specs.declared.Scaled.{Scaled}

-- an answer with a number and a state
abbrev pub moved : ℕ → State → Moved
moved number s = record { number = number; state = s }

-- refusal 1: "sample memory isn't 32,768 bytes"
abbrev pub is_memory : List ℕ → Bool
is_memory memory = eqb (length memory) 32768

-- 4: "register not among $4000..$4013, $4015, $4017" is for writes; a read is always of $4015
unfoldable pub allowed : Access → Bool
allowed (Write register value) = is_register register
allowed Read = true

-- refused: the state as it came, byte 0, level 0, not different
abbrev pub refused_access : ℕ → State → Answered
refused_access number s = record { number = number; state = s; byte = 0; level = 0; differs = false }

-- "the state, the byte read (0 for a write), the level after, and whether the level differs from before"
abbrev pub done_access : Access → State → Answered
done_access x s =
    record {
      number = 0;
      state = access_state x s;
      byte = access_byte x s;
      level = state_level (access_state x s);
      differs = not (eqb (state_level (access_state x s)) (state_level s));
    }

-- Request 7: one access. "Refusals: 2, then 4"
unfoldable pub access_answer : Access → State → Answered
access_answer x s = pick (in_range s) (pick (allowed x) (done_access x s) (refused_access 4 s)) (refused_access 2 s)

-- the interrupt line: 2, then whether it is asserted
unfoldable pub line_answer : State → Asserted
line_answer s = pick (in_range s) (record { number = 0; asserted = line_asserted s }) (record { number = 2; asserted = false })

-- the level: 2, then the level
unfoldable pub level_answer : State → Mixed
level_answer s = pick (in_range s) (record { number = 0; level = state_level s }) (record { number = 2; level = 0 })

-- 0.0
abbrev pub nought : Float
nought = fin false 0 (pos 0)

-- the level as a float: 2, then the level over 32,768
unfoldable pub level_f32_answer : State → Scaled
level_f32_answer s =
    pick (in_range s) (record { number = 0; fraction = fraction_of (state_level s) }) (record { number = 2; fraction = nought })

-- one clock: 1, then 2, then the state a clock later
unfoldable pub clock_answer : List ℕ → State → Moved
clock_answer memory s = pick (is_memory memory) (pick (in_range s) (moved 0 (chip_clock memory s)) (moved 2 s)) (moved 1 s)

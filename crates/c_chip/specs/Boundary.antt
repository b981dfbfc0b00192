-- What C and Rust get: for any bytes, the answer of the operation on the state that they stand for, `state_in` (crate `c_state`). Bytes that are no
-- state's stand for a state out of range, and are refused as it is. Where it is refused the bytes stay.
use Rattle.std.specs.Prelude.{ℕ, ◌+◌, ◌*◌, ◌^◌, List, length, eqb, leb}
use Rattle.arith.specs.Pick.{pick, both}
use Rattle.bus.specs.declared.Access.{Access}
use Rattle.bus.specs.declared.Access.TheVariants.{Write, Read}
use Rattle.chip.specs.Range.{in_range, power_on}
use Rattle.chip.specs.declared.State.{State}
use Rattle.chip_api.specs.Answer.{is_memory}
use Rattle.chip_api.specs.declared.Moved.{Moved}
use Rattle.chip_api.specs.declared.Answered.{Answered}
use Rattle.chip_api.specs.declared.Asserted.{Asserted}
use Rattle.chip_api.specs.declared.Mixed.{Mixed}
use Rattle.c_bytes.specs.Fields.{flag_byte}
use Rattle.c_state.specs.Bytes.{state_size, state_bytes, state_in}

-- "number + 256 x value"
abbrev pub packed : ℕ → ℕ → ℕ
packed number value = number + 256 * value

-- the number for bytes of another length than is asked for, "lowest number first": 2, and 1 where the sample memory isn't 32,768 bytes
abbrev pub other_length : List ℕ → ℕ
other_length memory = pick (is_memory memory) 2 1

-- the bytes after an answer: done, those of its state; refused, as they were
abbrev pub bytes_after : ℕ → State → List ℕ → List ℕ
bytes_after number s b = pick (eqb number 0) (state_bytes s) b

-- power-on of a machine, 0 NTSC and 1 PAL, writes any bytes of a state's length, whatever they held: 2 for another length, and for another machine
abbrev pub power_number : ℕ → List ℕ → ℕ
power_number machine b = pick (both (eqb (length b) state_size) (leb machine 1)) 0 2

abbrev pub power_packed : ℕ → List ℕ → ℕ
power_packed machine b = packed (power_number machine b) 0

abbrev pub power_bytes : ℕ → List ℕ → List ℕ
power_bytes machine b = bytes_after (power_number machine b) (power_on (eqb machine 1)) b

-- the range test refuses nothing
abbrev pub in_range_packed : List ℕ → ℕ
in_range_packed b = packed 0 (flag_byte (in_range (state_in b)))

-- any `read` but 0 is a read, whatever the register and the value
unfoldable pub access_of : ℕ → ℕ → ℕ → Access
access_of read register value = pick (eqb read 0) (Write register value) Read

-- "number + 2^8 x byte + 2^16 x level + 2^32 x differs"
abbrev pub access_packed : Answered → ℕ
access_packed a = a.number + 2 ^ 8 * a.byte + 2 ^ 16 * a.level + 2 ^ 32 * flag_byte a.differs

abbrev pub access_bytes : Answered → List ℕ → List ℕ
access_bytes a b = bytes_after a.number a.state b

-- the interrupt line
abbrev pub line_packed : Asserted → ℕ
line_packed a = packed a.number (flag_byte a.asserted)

-- the level
abbrev pub level_packed : Mixed → ℕ
level_packed m = packed m.number m.level

-- one clock
abbrev pub clock_packed : Moved → ℕ
clock_packed m = packed m.number 0

abbrev pub clock_bytes : Moved → List ℕ → List ℕ
clock_bytes m b = bytes_after m.number m.state b

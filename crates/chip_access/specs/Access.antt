-- Request 7: "one access: it takes a write or a read, and gives back the state, the byte read (0 for a write)". For any state and any register.
use Rattle.std.specs.Prelude.{ℕ}
use Rattle.bus.specs.declared.Access.{Access}
use Rattle.bus.specs.declared.Access.TheVariants.{Write, Read}
use Rattle.chip.specs.declared.State.{State}
use Rattle.chip_access.specs.Status.{status_byte, status_read}
use Rattle.chip_access.specs.Write.{register_written}
use Rattle.chip_access.specs.declared.Outcome.{Outcome}

-- the state after an access: a register written with a value, or the status read, which clears the frame flag
unfoldable pub access_state : Access → State → State
access_state (Write register value) s = register_written register value s
access_state Read s = status_read s

-- "the byte read (0 for a write)"
unfoldable pub access_byte : Access → State → ℕ
access_byte (Write register value) s = 0
access_byte Read s = status_byte s

-- both
abbrev pub accessed : Access → State → Outcome
accessed x s = record { byte = access_byte x s; state = access_state x s }

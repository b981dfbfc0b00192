-- What an access keeps: the range, the machine, and a read the level. Assumes nothing.
use Prim.Native.Nat.{◌≤◌}
use mathlib.Core.Path.{◌≡◌, refl}
use mathlib.Core.Bool.{true}
use Rattle.bus.specs.declared.Access.{Access}
use Rattle.bus.specs.declared.Access.TheVariants.{Write, Read}
use Rattle.chip.specs.Level.{state_level}
use Rattle.chip.specs.Range.{in_range}
use Rattle.chip.specs.declared.State.{State}
use Rattle.chip.proofs.MachineLaws.{Alike}
use Rattle.chip.proofs.RangeLaws.{state_in_lem, state_back}
use Rattle.chip_access.specs.Status.{status_read}
use Rattle.chip_access.proofs.MachineLaws.{write_machine, read_machine}
use Rattle.chip_access.proofs.RangeLaws.{write_kept, read_kept}
use Rattle.chip_access.specs.Access.{access_state}

-- a value that is written is a byte
abbrev pub Bytewide : Access → Type 0
Bytewide (Write register value) = value ≤ 255
Bytewide Read = Unit {0}

-- AN ACCESS KEEPS THE RANGE
pub access_kept : (x : Access) (s : State) → Bytewide x → in_range s ≡ true → in_range (access_state x s) ≡ true
unfolding access_state
access_kept (Write register value) s byte h = state_back _ (write_kept value byte s (state_in_lem s h) register)
access_kept Read s byte h = state_back _ (read_kept s (state_in_lem s h))

-- AN ACCESS LEAVES THE MACHINE
pub access_machine : (x : Access) (s : State) → Alike s (access_state x s)
unfolding access_state
access_machine (Write register value) s = write_machine register value s
access_machine Read s = read_machine s

-- A READ LEAVES THE LEVEL
pub level_read : (s : State) → state_level (access_state Read s) ≡ state_level s
unfolding access_state state_level status_read
level_read s = refl

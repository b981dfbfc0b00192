-- What writing a state to lent bytes leaves in them.
use Rattle.std.specs.Prelude.{List, ℕ, length, eqb}
use Rattle.arith.specs.Pick.{pick}
use Rattle.chip.specs.declared.State.{State}
use Rattle.c_state.specs.Bytes.{state_size, state_bytes}

-- the state's bytes; where other than so many bytes are lent, those as they were
unfoldable pub encoded : State → List ℕ → List ℕ
encoded s old = pick (eqb (length old) state_size) (state_bytes s) old

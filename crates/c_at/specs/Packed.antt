-- What C and Rust get of the state at a clock of a log: the answer as one number, and the state's bytes.
use Rattle.std.specs.Prelude.{ℕ, List, length, eqb}
use Rattle.arith.specs.Pick.{pick}
use Rattle.chip_api.specs.Answer.{is_memory}
use Rattle.play_at.specs.declared.At.{At}
use Rattle.play_at.specs.Reached.{refused_at, state_at}
use Rattle.c_chip.specs.Boundary.{bytes_after}
use Rattle.c_log.specs.Logs.{log_packed}
use Rattle.c_state.specs.Bytes.{state_size}

-- the answer where the bytes b are lent: 1, then 2 (they aren't as many as a state's), each at 0, then `state_at`'s
unfoldable pub at_answer : List ℕ → List ℕ → ℕ → List ℕ → At
at_answer log memory c b =
    pick (is_memory memory) (pick (eqb (length b) state_size) (state_at log memory c) (refused_at 2 0)) (refused_at 1 0)

-- as every answer about a log: its value is the clock reached, 0 where it is refused
abbrev pub at_packed : At → ℕ
at_packed a = log_packed a.number a.place a.clock

-- the bytes after it: those of the state reached; refused, as they were
abbrev pub at_bytes : At → List ℕ → List ℕ
at_bytes a b = bytes_after a.number a.state b

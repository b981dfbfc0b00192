-- Lines that are kept in a buffer until it has no room for more.
use Rattle.std.specs.Prelude.{ℕ, ◌+◌, ◌≤◌, ◌<◌, ◌≡◌, Bool, true, List, length}
use Rattle.program_io.specs.Writes.{FrontWrites}

-- The first `at` bytes of a buffer are still to be written. Where so many bytes have room behind them they stay; else they are written, and what comes
-- next goes to the buffer's beginning. `all` says whether all that was to be written was.
pub record Pours (out : List ℕ) (at room next : ℕ) (all : Bool) : Type 0 where
  pub stays : at + room ≤ length out → (next ≡ at) × (all ≡ true)
  pub sends : length out < at + room → (next ≡ 0) × FrontWrites out at all

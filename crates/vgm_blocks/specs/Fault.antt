-- Helper: nobody has to believe this; the contracts of the crate's own functions cite it.
use Rattle.std.specs.Prelude.{ℕ, Bool, not, List, Option, None, Some}
use Rattle.arith.specs.Pick.{pick, both}
use Rattle.vgm_blocks.specs.Blocks.{Block, behind_at, is_block, is_sample, is_inside}

-- a sample block at fault
unfoldable pub is_fault : Block → Bool
is_fault b = both (is_sample b) (not (is_inside b))

-- the place behind the whole block at a place, where one stands
unfoldable pub behind_if : List ℕ → ℕ → Option ℕ
behind_if stream at = pick (is_block stream at) (Some (behind_at stream at)) None

-- The sample memory of a VGM stream at the boundary: its answer in one number.
use Rattle.std.specs.Prelude.{ℕ, ◌+◌, ◌*◌, ◌%◌, ◌^◌, List, eqb}
use Rattle.arith.specs.Pick.{pick}
use Rattle.vgm_blocks.specs.declared.Filled.{Filled}
use Rattle.vgm_blocks.specs.Blocks.{samples_answer}

-- done: how many sample blocks there are; refused: the place. Of either the number holds the low 56 bits, and a stream shorter than 2^56 bytes has no other
unfoldable pub filled_value : Filled → ℕ
filled_value f = pick (eqb f.number 0) f.blocks f.place % 2 ^ 56

-- "number + 2^8 x value"
abbrev pub samples_packed : List ℕ → List ℕ → ℕ
samples_packed stream memory = (samples_answer stream memory).number + 2 ^ 8 * filled_value (samples_answer stream memory)

-- What C and Rust get of a probe on a state: what the channels give, and the status byte, each answer as one number.
use Rattle.std.specs.Prelude.{ℕ, ◌+◌, ◌*◌, ◌^◌}
use Rattle.arith.specs.Pick.{pick}
use Rattle.chip.specs.Range.{in_range}
use Rattle.chip.specs.declared.State.{State}
use Rattle.chip_access.specs.Status.{status_byte}
use Rattle.chip_seen.specs.Seen.{seen_of}
use Rattle.chip_seen.specs.declared.Seen.{Seen}
use Rattle.c_chip.specs.Boundary.{packed}

-- "number + 256 x value"; a state out of range is refused: 2
abbrev pub probed : State → ℕ → ℕ
probed s value = pick (in_range s) (packed 0 value) (packed 2 0)

-- what the five channels give the mixer, in 23 bits: 4 each for square 1, square 2, triangle and noise, 7 for the DMC
abbrev pub outputs_in : Seen → ℕ
outputs_in v = v.square1 + 2 ^ 4 * v.square2 + 2 ^ 8 * v.triangle + 2 ^ 12 * v.noise + 2 ^ 16 * v.dmc

abbrev pub outputs_value : State → ℕ
outputs_value s = outputs_in (seen_of s)

unfoldable pub outputs_packed : State → ℕ
outputs_packed s = probed s (outputs_value s)

-- the byte that a read of $4015 would give; nothing is cleared
unfoldable pub status_packed : State → ℕ
status_packed s = probed s (status_byte s)

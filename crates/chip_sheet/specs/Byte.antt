-- Request 5: what one byte of a sample does to the level, read in two ways.
use Rattle.std.specs.Prelude.{ℕ, zero, suc, ◌+◌, ◌-◌, ◌*◌, ◌/◌, ◌≤◌, ◌≡◌}
use Rattle.std.specs.Int.Count.{ones}
use Rattle.chip_dmc_output.specs.Output.{level_moved}

-- the steps of a byte's k lowest bits, bit 0 first: document 01's DMC rule moves the level by bit 0, then "shift right"
unfoldable pub low_steps : ℕ → ℕ → ℕ → ℕ
low_steps zero byte level = level
low_steps (suc k) byte level = low_steps k (byte / 2) (level_moved byte level)

-- "by the DMC rule": a byte's eight steps
abbrev pub eight_steps : ℕ → ℕ → ℕ
eight_steps byte level = low_steps 8 byte level

-- "Starting at 16 to 111, a byte moves the level by four times its count of ones, less 16"
abbrev pub by_ones : ℕ → ℕ → ℕ
by_ones byte level = level + 4 * ones byte - 16

-- "show that both readings agree there": "Starting at 16 to 111, a byte moves the level by four times its count of ones, less 16"
abbrev pub Agree : Type 0
Agree = (byte level : ℕ) → byte ≤ 255 → 16 ≤ level → level ≤ 111 → by_ones byte level ≡ eight_steps byte level

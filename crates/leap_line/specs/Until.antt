-- The clocks up to the one that sets a flag or asserts the interrupt line, in closed form, with no access between; 0 where none does. That the plain clock
-- goes by them is proved (proofs/LineLaws).
use Rattle.std.specs.Prelude.{ℕ, ◌+◌, ◌-◌, ◌*◌, min, Bool, not, ltb, leb, eqb}
use Rattle.arith.specs.Pick.{pick, both}
use Rattle.chip_frame.specs.declared.Times.{Times}
use Rattle.chip_frame.specs.declared.Frame.{Frame}
use Rattle.chip_dmc_output.specs.declared.Output.{Output}
use Rattle.chip_dmc.specs.declared.Dmc.{Dmc}
use Rattle.chip_tables.specs.Table.{dmc_period, frame_times}
use Rattle.chip.specs.declared.State.{State}

-- the frame flag is set at the fourth time of mode 0, if disable is clear; behind it the frame comes round to 0 first
unfoldable pub frame_until : Times → Frame → ℕ
frame_until t f =
    pick (both (not f.mode) (not f.disable)) (pick (ltb f.clock t.fourth) (t.fourth - f.clock) (t.fourth + 1)) 0

-- the clocks up to the one in which the output unit takes the buffer's byte
unfoldable pub takes_in : ℕ → Output → ℕ
takes_in n o = o.timer + (o.bits - 1) * n

-- the clocks up to the fetch of the last of r bytes, the buffer being taken in e clocks and then each 8 n: a full buffer waits for that; an empty one
-- is filled in the next clock, behind its timer's output
unfoldable pub last_fetch : ℕ → Bool → ℕ → ℕ → ℕ
last_fetch n full e r =
    pick full (e + (r - 1) * (8 * n)) (pick (eqb r 1) 1 (pick (eqb e 1) (1 + (r - 1) * (8 * n)) (e + (r - 2) * (8 * n))))

-- the DMC's flag is set by the last fetch, if interrupt enable is set and loop is clear
unfoldable pub dmc_until : ℕ → Dmc → ℕ
dmc_until n d =
    pick (both d.registers.enable (both (not d.registers.looped) (ltb 0 d.reader.remaining)))
    (last_fetch n d.reader.full (takes_in n d.output) d.reader.remaining) 0

-- the sooner of two, 0 being never
unfoldable pub sooner : ℕ → ℕ → ℕ
sooner a b = pick (eqb a 0) b (pick (eqb b 0) a (min a b))

-- of a state, with its machine's tables: the frame's flag, the DMC's, and the line
unfoldable pub frame_flag_until : State → ℕ
frame_flag_until s = frame_until (frame_times s.pal) s.frame

unfoldable pub dmc_flag_until : State → ℕ
dmc_flag_until s = dmc_until (dmc_period s.pal s.dmc.registers.index) s.dmc

unfoldable pub line_until : State → ℕ
line_until s = sooner (frame_flag_until s) (dmc_flag_until s)

-- within g clocks
unfoldable pub within : ℕ → ℕ → Bool
within u g = both (ltb 0 u) (leb u g)

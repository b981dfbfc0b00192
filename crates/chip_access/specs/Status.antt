-- Document 01, "$4015": the status read.
use Rattle.std.specs.Prelude.{ℕ, ◌+◌, ltb}
use Rattle.arith.specs.Pick.{pick}
use Rattle.chip_frame.specs.Frame.{frame_read}
use Rattle.chip.specs.Clock.{with_frame}
use Rattle.chip.specs.declared.State.{State}

-- "A read gives DMC flag, frame flag, 0, remaining above 0, lengths above 0 (noise, triangle, 2, 1)", from bit 7 down
unfoldable pub status_byte : State → ℕ
status_byte s =
    pick s.dmc.reader.interrupt 128 0
    + pick s.frame.interrupt 64 0
    + pick (ltb 0 s.dmc.reader.remaining) 16 0
    + pick (ltb 0 s.noise.length.count) 8 0
    + pick (ltb 0 s.triangle.length.count) 4 0
    + pick (ltb 0 s.square2.length.count) 2 0
    + pick (ltb 0 s.square1.length.count) 1 0

-- "then clears the frame flag"
unfoldable pub status_read : State → State
status_read s = with_frame s (frame_read s.frame)

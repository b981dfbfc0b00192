-- Document 01, "Dividers and one clock": the interrupt line.
use Rattle.std.specs.Prelude.{Bool}
use Rattle.arith.specs.Pick.{either}
use Rattle.chip_frame.specs.Frame.{frame_asserts}
use Rattle.chip.specs.declared.State.{State}

-- "The line is asserted when the frame flag is set and disable is clear, or the DMC flag is set."
unfoldable pub line_asserted : State → Bool
line_asserted s = either (frame_asserts s.frame) s.dmc.reader.interrupt

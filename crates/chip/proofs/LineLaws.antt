-- The interrupt line, in range. Assumes nothing.
use mathlib.Core.Path.{◌≡◌, ap}
use mathlib.Core.Bool.{Bool}
use Rattle.arith.specs.Pick.{either}
use Rattle.chip_frame.proofs.RangeLaws.{asserts_flag}
use Rattle.chip_tables.specs.Table.{frame_times}
use Rattle.chip.specs.Line.{line_asserted}
use Rattle.chip.specs.declared.State.{State}
use Rattle.chip.proofs.RangeLaws.{StateRanged}

-- THE LINE IS ASSERTED EXACTLY WHERE ONE OF THE TWO FLAGS IS SET
pub line_flags : (s : State) → StateRanged s → line_asserted s ≡ either s.frame.interrupt s.dmc.reader.interrupt
unfolding line_asserted
line_flags s h = ap (λ (b : Bool). either b s.dmc.reader.interrupt) (asserts_flag (frame_times s.pal) s.frame h.frame)

-- A cursor at the beginning has its types' ranges. Assumes nothing.
use native.Mathlib.Omega.{arith}
use Rattle.c_cursor.proofs.Calls as log
use Rattle.recording_cursor.specs.Stepping.{beginning}
use Rattle.c_recording.specs.Cursors.{CursorFits}

pub beginning_fits : CursorFits beginning
beginning_fits = record { log = log.beginning_fits; samples = omega arith; clock = omega arith }

-- What a cursor does at one line of a log, or at one command of a VGM file.
use Rattle.std.specs.Prelude.{ℕ, List, eqb}
use Rattle.arith.specs.Pick.{pick}
use Rattle.log_line.specs.declared.Act.{Act}
use Rattle.reading.specs.Saying.{Said, Turn, on, refused}
use Rattle.log_cursor.specs.declared.Cursor as log
use Rattle.log_cursor.specs.declared.Given.{Given}
use Rattle.log_cursor.specs.Stepping as stepping
use Rattle.vgm_cursor.specs.declared.Spot.{Spot}
use Rattle.vgm_cursor.specs.Walking as walking
use Rattle.recording.specs.Whole.{is_file, start_of, machine_of}
use Rattle.recording_cursor.specs.declared.Cursor.{Cursor}
use Rattle.recording_cursor.specs.declared.Stepped.{Stepped}

abbrev pub Go : Type 0
Go = Turn Cursor Act

abbrev pub go : Said Act → Cursor → Go
go w c = record { said = w; state = c }

-- the answer for what is said
abbrev pub told : Said Act → Given
told w = stepping.told w

abbrev pub stepped_of : Go → Stepped
stepped_of t = record { found = told t.said; cursor = t.state }

-- a place with its open loops; of a file also the samples before it, and the clocks that were given as waits
abbrev pub cursor_of : log.Cursor → ℕ → ℕ → Cursor
cursor_of c samples clock = record { log = c; samples = samples; clock = clock }

-- at the beginning
abbrev pub beginning : Cursor
beginning = cursor_of stepping.beginning 0 0

-- A LINE OF A LOG
unfoldable pub line_step : List ℕ → Cursor → Go
line_step b c = let t = stepping.step_of b c.log in go t.said (cursor_of t.state c.samples c.clock)

-- A COMMAND OF A FILE, or a wait before it
abbrev pub spot_at : Cursor → Spot
spot_at c = walking.spot_of c.log.at c.samples c.clock

abbrev pub moved_by : Cursor → Spot → Cursor
moved_by c s = cursor_of (stepping.moved_to c.log c.log.depth s.at) s.samples s.clock

-- the header stands at 0, and no command does: 35 where it says no place
unfoldable pub head_step : List ℕ → Cursor → Go
head_step b c = pick (eqb (start_of b) 0) (go (refused 35 0) c) (go on (moved_by c (walking.spot_of (start_of b) 0 0)))

unfoldable pub file_step : List ℕ → Cursor → Go
file_step b c =
    pick (eqb c.log.at 0) (head_step b c)
    (let t = walking.step_of (machine_of b) b (spot_at c) in go t.said (moved_by c t.state))

-- ONE STEP
unfoldable pub step_of : List ℕ → Cursor → Go
step_of b c = pick (is_file b) (file_step b c) (line_step b c)

-- What `perch at CLOCK` writes about a log: what is seen of the state there, and each of its fields.
use Rattle.std.specs.Prelude.{ℕ, Bool, List, ◌++◌, eqb}
use Rattle.arith.specs.Pick.{pick}
use Rattle.text.specs.Ascii.{bytes}
use Rattle.text.specs.Hex.{hex_text}
use Rattle.text_lines.specs.Lines.{keyed_line, refused_line}
use Rattle.chip.specs.declared.State.{State}
use Rattle.chip.specs.Level.{state_level}
use Rattle.chip.specs.Line.{line_asserted}
use Rattle.chip_access.specs.Status.{status_byte}
use Rattle.chip_text.specs.Text.{state_text}
use Rattle.play_at.specs.declared.At.{At}
use Rattle.play_at.specs.Reached.{state_at}

-- `machine=ntsc` or `machine=pal`
unfoldable pub machine_line : Bool → List ℕ
machine_line pal = pick pal (bytes "machine=pal\n") (bytes "machine=ntsc\n")

-- `status=HH`
unfoldable pub status_line : ℕ → List ℕ
status_line b = bytes "status=" ++ (hex_text 2 b ++ bytes "\n")

-- what is seen from outside: the machine, the level, the status and the interrupt line
unfoldable pub seen_lines : Bool → ℕ → ℕ → Bool → List ℕ
seen_lines pal level status line =
    machine_line pal
    ++ (keyed_line (bytes "level=") level
    ++ (status_line status ++ keyed_line (bytes "line=") (pick line 1 0)))

-- the state at a clock; its status is what a read would give, and nothing is cleared
unfoldable pub reached_text : ℕ → State → List ℕ
reached_text clock s =
    keyed_line (bytes "clock=") clock
    ++ (seen_lines s.pal (state_level s) (status_byte s) (line_asserted s) ++ state_text s)

-- the clock that was reached, and the state there; or the refusal
unfoldable pub outcome_text : At → List ℕ
outcome_text a = pick (eqb a.number 0) (reached_text a.clock a.state) (refused_line a.number a.place)

-- THE TEXT for a log, a sample memory and a clock; each of its lines ends in one line feed
unfoldable pub at_text : List ℕ → List ℕ → ℕ → List ℕ
at_text log memory clock = bytes "at=1\n" ++ outcome_text (state_at log memory clock)

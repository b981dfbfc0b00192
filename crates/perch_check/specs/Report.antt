-- What `perch check` writes about a log, or about a VGM file.
use Rattle.std.specs.Prelude.{ℕ, List, [], ◌++◌, Bool, eqb, Option, Some, None}
use Rattle.arith.specs.Pick.{pick}
use Rattle.text.specs.Ascii.{bytes}
use Rattle.text.specs.Decimal.{decimal_text}
use Rattle.log_rules.specs.declared.Checked.{Checked}
use Rattle.log_rules.specs.declared.Totals.{Totals}
use Rattle.recording.specs.Whole.{is_file, check_of}
use Rattle.log_mend.specs.Mending.{totals_of, innermost, open_at}
use Rattle.text_lines.specs.Lines.{keyed_line, refused_line}
use Rattle.text_place.specs.Place.{line_number, column}
use Rattle.perch_reasons.specs.Reasons.{reason_text}
use Rattle.text_place.specs.Shown.{shown_line, mark_line}

-- the machine, if it is PAL
unfoldable pub machine_line : Bool → List ℕ
machine_line pal = pick pal (bytes "machine=pal\n") []

-- the machine and the totals of a log that passes
unfoldable pub passed_text : Bool → ℕ → ℕ → ℕ → List ℕ
passed_text pal clocks turns items =
    machine_line pal
    ++ (keyed_line (bytes "clocks=") clocks
    ++ (keyed_line (bytes "turns=") turns
    ++ keyed_line (bytes "items=") items))

-- `line L, column C: REASON`
unfoldable pub reason_line : ℕ → ℕ → ℕ → List ℕ
reason_line line column number =
    bytes "line "
    ++ (decimal_text line
    ++ (bytes ", column "
    ++ (decimal_text column
    ++ (bytes ": "
    ++ (reason_text number
    ++ bytes "\n")))))

-- number, place and reason of a refusal, the line and the mark below it
unfoldable pub refused_text : List ℕ → ℕ → ℕ → List ℕ
refused_text log number place =
    refused_line number place
    ++ (reason_line (line_number log place) (column log place) number
    ++ (shown_line log place
    ++ mark_line log place))

-- the number of the line at a place; 0 of none
abbrev pub line_or_none : List ℕ → Option ℕ → ℕ
line_or_none log (Some place) = line_number log place
line_or_none log None = 0

-- the number of the line of the innermost loop that is open at a place; 0 where none is
unfoldable pub open_line : List ℕ → ℕ → ℕ
open_line log place = line_or_none log (innermost (open_at log place))

-- clocks and turns in all
unfoldable pub totals_text : Totals → List ℕ
totals_text t = keyed_line (bytes "clocks=") t.clocks ++ keyed_line (bytes "turns=") t.turns

-- what helps to mend a log that is refused by 10, 9 or 8: the right number of `stop`; the totals, each cut off just above what a log may have; the
-- open loop
unfoldable pub more_text : List ℕ → Checked → List ℕ
more_text log c =
    pick (eqb c.number 10) (keyed_line (bytes "clocks=") (totals_of log).clocks)
    (pick (eqb c.number 9) (totals_text (totals_of log))
    (pick (eqb c.number 8) (keyed_line (bytes "open=") (open_line log c.place))
    []))

-- of a file: number, place and reason
unfoldable pub file_text : ℕ → ℕ → List ℕ
file_text number place =
    refused_line number place ++ (bytes "byte " ++ (decimal_text place ++ (bytes ": " ++ (reason_text number ++ bytes "\n"))))

unfoldable pub failed_text : List ℕ → Checked → List ℕ
failed_text log c = pick (is_file log) (file_text c.number c.place) (refused_text log c.number c.place ++ more_text log c)

-- what a check found: its number is 0 where the log passes
unfoldable pub outcome_text : List ℕ → Checked → List ℕ
outcome_text log c =
    pick (eqb c.number 0)
    (passed_text c.pal c.clocks c.turns c.items)
    (failed_text log c)

-- the whole text; each of its lines ends in one line feed
unfoldable pub check_text : List ℕ → List ℕ
check_text log = bytes "check=1\n" ++ outcome_text log (check_of log)

-- The readings settled for request 12, as one table: a damaged log, the repaired one, and the words of the list. Every row holds, by computation.
use Rattle.std.specs.Prelude.{ℕ, ◌≡◌, refl, List, [], ◌∷◌}
use Rattle.bus.specs.Register.{is_register}
use Rattle.text.specs.Ascii.{bytes}
use Rattle.text.specs.Key.{starts_with, exactly}
use Rattle.text.specs.Numbers.{within}
use Rattle.text.specs.Decimal.{digit, digits, formed, decimal, digits_of, decimal_text}
use Rattle.text.specs.Hex.{hex_digit, hex_value, hex_digits, hex}
use Rattle.log_line.specs.Printed.{ended as fed, line_text}
use Rattle.log_line.specs.Said.{counted, written, write_of, wait_of, loop_of, stop_of, unfed_line, line_of}
use Rattle.log_form.specs.Forms.{suits, along, nothing, goes_on, begins_number, reach}
use Rattle.log_begins.specs.Begins.{any_true, begins}
use Rattle.log_begins.specs.Counts.{keyed, unfed, said, counts}
use Rattle.log_fault.specs.Allowed.{keys_of}
use Rattle.log_fault.specs.Fault.{whole_of, fault_at, spotted, spot_of}
use Rattle.log_rules.specs.Lines.{onto, lines_of}
use Rattle.log_rules.specs.Tree.{act_clocks, clocks}
use Rattle.log_rules.specs.Whole.{grow, blocks, innermost, tree_of}
use Rattle.log_salvage_rules.specs.Entries.{entry_words, list_words}
use Rattle.log_salvage_rules.specs.Mending.{kept_tree, stop_fate, right_fate, found_fate, line_fate, fate_of, deeper, is_stop, dropping, behind_line, none, sift, begun, sifted, adding, closed_by, closed, ended, mended}

pub data MendRow : Type 0 where
  row : List ℕ → List ℕ → List ℕ → MendRow

-- what comes out of each log, and what is to

abbrev pub comes : List MendRow → List (List ℕ)
comes [] = []
comes (row log new words ∷ rows) = (mended log).new ∷ list_words (mended log).list ∷ comes rows

abbrev pub expected : List MendRow → List (List ℕ)
expected [] = []
expected (row log new words ∷ rows) = new ∷ words ∷ expected rows

abbrev pub settled : List MendRow
settled =
    row [] (bytes "log=1\nstop=0\n") (0 ∷ 0 ∷ 6 ∷ 0 ∷ [])
    ∷ row (bytes "log=1\nstop=0\n") (bytes "log=1\nstop=0\n") []
    ∷ row (bytes "log=1") (bytes "log=1\nstop=0\n") (0 ∷ 0 ∷ 0 ∷ 14 ∷ 6 ∷ 0 ∷ [])
    ∷ row (bytes "stop=0\n") (bytes "log=1\nstop=0\n") (0 ∷ 0 ∷ [])
    ∷ row (bytes "done=loop\n") (bytes "log=1\nstop=0\n") (0 ∷ 0 ∷ 0 ∷ 8 ∷ 6 ∷ 0 ∷ [])
    ∷ row (bytes "log=1\nfoo\nmachine=pal\nstop=0\n") (bytes "log=1\nmachine=pal\nstop=0\n") (6 ∷ 14 ∷ [])
    ∷ row (bytes "log=1\nstop=0\nstop=0\n") (bytes "log=1\nstop=0\n") (6 ∷ 19 ∷ [])
    ∷ row (bytes "log=1\nstop=0\nwait=5") (bytes "log=1\nstop=0\n") (6 ∷ 19 ∷ 13 ∷ 17 ∷ 6 ∷ 0 ∷ [])
    ∷ row (bytes "log=1\nwait=2\nwait=03\nstop=5\n") (bytes "log=1\nwait=2\nstop=2\n") (13 ∷ 15 ∷ 21 ∷ 10 ∷ 13 ∷ 0 ∷ [])
    ∷ row (bytes "log=1\nloop=2\nwait=3\nstop=3\n") (bytes "log=1\nloop=2\nwait=3\ndone=loop\nstop=6\n") (20 ∷ 10 ∷ 20 ∷ 0 ∷ 30 ∷ 0 ∷ [])
    ∷ row (bytes "log=1\nloop=1\nwait=3\ndone=loop\nstop=3\n") (bytes "log=1\nwait=3\nstop=3\n") (6 ∷ 16 ∷ 20 ∷ 8 ∷ [])
    ∷ row (bytes "log=1\nwrite=5000:00\nstop=0\n") (bytes "log=1\nstop=0\n") (6 ∷ 4 ∷ [])
    ∷ row
    (bytes "log=1\nloop=2\nloop=2\nloop=2\nloop=2\nloop=2\nloop=2\nloop=2\nloop=2\nloop=3\nwait=1\ndone=loop\n")
    (bytes "log=1\nloop=2\nloop=2\nloop=2\nloop=2\nloop=2\nloop=2\nloop=2\nloop=2\nwait=1\ndone=loop\ndone=loop\ndone=loop\ndone=loop\ndone=loop\ndone=loop\ndone=loop\ndone=loop\nstop=256\n")
    (62 ∷ 7 ∷ 76 ∷ 7 ∷ 69 ∷ 0 ∷ 79 ∷ 0 ∷ 89 ∷ 0 ∷ 99 ∷ 0 ∷ 109 ∷ 0 ∷ 119 ∷ 0 ∷ 129 ∷ 0 ∷ 139 ∷ 0 ∷ 149 ∷ 0 ∷ [])
    ∷ []

pub settled_holds : comes settled ≡ expected settled
unfolding is_register starts_with exactly within digit digits formed decimal digits_of decimal_text hex_digit hex_value hex_digits hex fed line_text counted written write_of wait_of loop_of stop_of unfed_line line_of keys_of suits along nothing goes_on begins_number any_true begins reach whole_of keyed unfed said counts fault_at spotted spot_of onto lines_of act_clocks clocks grow blocks innermost tree_of entry_words list_words kept_tree stop_fate right_fate found_fate line_fate fate_of deeper is_stop dropping behind_line none sift begun sifted adding closed_by closed ended mended
settled_holds = refl

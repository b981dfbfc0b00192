-- Helper: what is written behind the head for a log that passes, of the clocks `from` to `until`.
use Rattle.std.specs.Prelude.{ℕ, List}
use Rattle.recording.specs.Whole.{machine_of, tree_of}
use Rattle.log_rules.specs.Tree.{acts}
use Rattle.chip.specs.Range.{power_on}
use Rattle.play_trace.specs.Window.{Window, window_from}
use Rattle.perch_vcd.specs.Text.{events_text}

-- the log's window
abbrev pub window_of : List ℕ → List ℕ → ℕ → ℕ → Window
window_of log memory from until = window_from memory from until (acts (tree_of log)) 0 (power_on (machine_of log))

unfoldable pub passed_text : List ℕ → List ℕ → ℕ → ℕ → List ℕ
passed_text log memory from until = let w = window_of log memory from until in events_text 0 w.events w.end.time

-- Helper: what is written behind the first line for a log that passes.
use Rattle.std.specs.Prelude.{ℕ, List, ◌++◌}
use Rattle.recording.specs.Whole.{machine_of, tree_of}
use Rattle.log_rules.specs.Tree.{acts, clocks}
use Rattle.chip.specs.Range.{power_on}
use Rattle.play_interrupts.specs.Changes.{changes_from}
use Rattle.perch_interrupts.specs.Text.{changes_text, stop_line}

unfoldable pub passed_text : List ℕ → List ℕ → List ℕ
passed_text log memory = changes_text (changes_from memory (acts (tree_of log)) 0 (power_on (machine_of log))) ++ stop_line (clocks (tree_of log))

-- Helper: the lines of the waits of a log that passes.
use Rattle.std.specs.Prelude.{ℕ, List}
use Rattle.recording.specs.Whole.{machine_of, tree_of}
use Rattle.log_rules.specs.Tree.{acts}
use Rattle.chip.specs.Range.{power_on}
use Rattle.play_meter.specs.Meters.{waits_from}
use Rattle.perch_meter.specs.Text.{waits_text}

unfoldable pub each_text : List ℕ → List ℕ → List ℕ
each_text log memory = waits_text (waits_from memory (acts (tree_of log)) 0 (power_on (machine_of log)))

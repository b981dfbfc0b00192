-- A log folded at the boundary: its answer in one number.
use Rattle.std.specs.Prelude.{ℕ, List}
use Rattle.log_fold.specs.Answer.{fold_of}
use Rattle.c_log.specs.Logs.{log_packed}

-- "number + 2^8 x place + 2^32 x value": the value is the folded log's length
abbrev pub fold_packed : List ℕ → List ℕ → ℕ
fold_packed log text = log_packed (fold_of log text).number (fold_of log text).place (fold_of log text).length

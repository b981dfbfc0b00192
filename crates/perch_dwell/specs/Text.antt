-- What `perch dwell` writes about a log.
use Rattle.std.specs.Prelude.{ℕ, ◌+◌, List, [], ◌∷◌, ◌++◌, eqb}
use Rattle.arith.specs.Pick.{pick}
use Rattle.text.specs.Ascii.{bytes}
use Rattle.text_lines.specs.Lines.{keyed_line, pair_line, refused_line}
use Rattle.play_dwell.specs.declared.Answer.{Answer}
use Rattle.play_dwell.specs.Dwelling.{log_dwell}

-- `dmc=LEVEL:CLOCKS` for a level that the DMC sat at, nothing for another
unfoldable pub count_line : ℕ → ℕ → List ℕ
count_line level n = pick (eqb n 0) [] (pair_line (bytes "dmc=") level n)

-- the lines of the counts, in order, from a level on
unfoldable pub counts_text : ℕ → List ℕ → List ℕ
counts_text level [] = []
counts_text level (n ∷ ns) = count_line level n ++ counts_text (level + 1) ns

-- the table with the log's clocks behind it, or the refusal
unfoldable pub outcome_text : Answer → List ℕ
outcome_text a =
    pick (eqb a.number 0) (counts_text 0 a.counts ++ keyed_line (bytes "stop=") a.clocks) (refused_line a.number a.place)

-- THE TEXT for a log and a sample memory; each of its lines ends in one line feed
unfoldable pub dwell_text : List ℕ → List ℕ → List ℕ
dwell_text log memory = bytes "dwell=1\n" ++ outcome_text (log_dwell log memory)

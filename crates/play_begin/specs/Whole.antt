-- The whole of what the player writes, for any bytes as a log and any bytes as sample memory.
use Rattle.std.specs.Prelude.{ℕ, List, eqb}
use Rattle.arith.specs.Pick.{pick}
use Rattle.chip_api.specs.Answer.{is_memory}
use Rattle.recording.specs.Whole.{machine_of}
use Rattle.log_rules.specs.Tree.{acts}
use Rattle.recording.specs.Whole.{tree_of, check_of}
use Rattle.play_text.specs.Entries.{entries_text, refusal_text}
use Rattle.play_rules.specs.Sound.{entries_of}
use Rattle.play_rules.specs.Turns.{fresh_player, ended_player}
use Rattle.play_begin.specs.declared.Begun.{Begun}

-- 1 at 0 for a sample memory that isn't 32,768 bytes, then the log's own number and place
unfoldable pub play_number : List ℕ → List ℕ → ℕ
play_number log memory = pick (is_memory memory) (check_of log).number 1

unfoldable pub play_place : List ℕ → List ℕ → ℕ
play_place log memory = pick (is_memory memory) (check_of log).place 0

-- WHAT IS WRITTEN, on the log's machine
unfoldable pub play_text : List ℕ → List ℕ → List ℕ
play_text log memory =
    pick (eqb (play_number log memory) 0)
    (entries_text (entries_of (machine_of log) memory (acts (tree_of log))))
    (refusal_text (play_number log memory) (play_place log memory))

-- WHAT `begin` ANSWERS: the player at the beginning, on the log's machine; refused, one that is over
unfoldable pub begun_of : List ℕ → List ℕ → Begun
begun_of log memory =
    record {
      number = play_number log memory;
      place = play_place log memory;
      player = pick (eqb (play_number log memory) 0) (fresh_player (machine_of log)) ended_player;
    }

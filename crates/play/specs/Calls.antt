-- A list of calls of `play_on`, each with a buffer of its own.
use Rattle.std.specs.Prelude.{ℕ, ◌+◌, Bool, false, List, [], ◌++◌, length, take, leb}
use Rattle.arith.specs.Pick.{pick}
use Rattle.play_rules.specs.declared.Player.{Player}
use Rattle.play.specs.declared.Played.{Played}
use Rattle.play.specs.Playing.{PlayedOn}

-- from a player: the pieces joined, how many of the buffers had 23 bytes or more, the player that the last call handed back, and whether it said
-- that all is over. Each call takes the player that the one before it handed back, and there is none behind one that said over.
pub data Calls (log memory : List ℕ) (p : Player) : List ℕ → ℕ → Player → Bool → Type 0 where
  none : Calls log memory p [] 0 p false
  call : {text : List ℕ} {n : ℕ} {q : Player} (before after : List ℕ) (r : Played) → Calls log memory p text n q false → PlayedOn log memory q before after r
      → Calls log memory p (text ++ take r.length after) (pick (leb 23 (length before)) (n + 1) n) r.player r.over

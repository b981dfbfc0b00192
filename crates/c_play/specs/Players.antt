-- The player at the boundary. A player crosses as bytes (crate `c_player`), which the caller keeps between two pieces.
use Rattle.std.specs.Prelude.{ℕ, ◌+◌, ◌*◌, ◌^◌, ◌<◌, ◌%◌, ◌≡◌, List, length, eqb}
use Rattle.arith.specs.Pick.{pick}
use Rattle.c_chip.specs.Boundary.{other_length}
use Rattle.c_bytes.specs.Fields.{flag_byte}
use Rattle.text_print.specs.Printed.{placed}
use Rattle.play_rules.specs.declared.Player.{Player}
use Rattle.play.specs.declared.Played.{Played}
use Rattle.play_text.specs.Entries.{refusal_text}
use Rattle.play.specs.Playing.{PlayedOn}
use Rattle.play_begin.specs.Whole.{begun_of}
use Rattle.c_player.specs.Player.{player_size, player_bytes, player_in, PlayerFits}
use Rattle.c_log.specs.Logs.{log_packed}

-- the bytes after an answer: done, those of its player; refused, as they were
abbrev pub player_after : ℕ → Player → List ℕ → List ℕ
player_after number p b = pick (eqb number 0) (player_bytes p) b

-- a beginning: 1, then 2 (other than a player's bytes are lent), then the log's number with its place
unfoldable pub begin_number : List ℕ → List ℕ → List ℕ → ℕ
begin_number log memory b = pick (eqb (length b) player_size) (begun_of log memory).number (other_length memory)

unfoldable pub begin_place : List ℕ → List ℕ → List ℕ → ℕ
begin_place log memory b = pick (eqb (length b) player_size) (begun_of log memory).place 0

abbrev pub begin_packed : List ℕ → List ℕ → List ℕ → ℕ
begin_packed log memory b = log_packed (begin_number log memory b) (begin_place log memory b) 0

abbrev pub begin_bytes : List ℕ → List ℕ → List ℕ → List ℕ
begin_bytes log memory b = player_after (begin_number log memory b) (begun_of log memory).player b

-- done: "2^8 x over + 2^32 x bytes written"; refused: "number + 2^8 x place", as every answer about a log (24 bits of it: a log's places have 16)
abbrev pub piece_packed : Played → ℕ
piece_packed r =
    pick (eqb r.number 0) (2 ^ 8 * flag_byte r.over + 2 ^ 32 * r.length) (log_packed r.number (r.place % 2 ^ 24) 0)

-- WHAT `play_on` PROMISES of its answer, the player's bytes b and the text: what `play` promises of the player that they stand for. How full the piece gets is
-- left free, as there.
pub record Continued (log memory b b' text text' : List ℕ) (answer : ℕ) : Type 0 where
  pub played : Played
  pub does : PlayedOn log memory (player_in b) text text' played
  pub says : answer ≡ piece_packed played
  pub small : played.number < 2 ^ 8
  -- done, the bytes are those of the player behind the lines, and stand for it; refused, they stay
  pub keeps : b' ≡ player_after played.number played.player b
  pub fits : PlayerFits played.player

-- a refusal's text: "2^32 x bytes written"
abbrev pub refusal_packed : ℕ → ℕ → List ℕ → ℕ
refusal_packed number place text = 2 ^ 32 * placed text 0 (refusal_text number place)

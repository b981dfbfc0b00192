-- A player as bytes, low byte first in every number: phase 1, wait 4, time 4, last 2, the cursor's as the crate `c_recording` has them, and last
-- the state's as the crate `c_state` has them.
use Rattle.std.specs.Prelude.{ℕ, ◌+◌, ◌^◌, ◌<◌, Bool, List, [], ◌++◌, length, take, drop, eqb}
use Rattle.arith.specs.Pick.{pick}
use Rattle.text.specs.Key.{exactly}
use Rattle.c_state.specs.Bytes.{state_size, state_bytes, state_of, outside}
use Rattle.c_bytes.specs.Numbers.{wide_bytes, wide_of}
use Rattle.c_recording.specs.Cursors.{cursor_size, cursor_bytes, cursor_of, CursorFits}
use Rattle.play_rules.specs.declared.Player.{Player}

-- where the cursor and the state begin, and how many bytes a player is
abbrev pub cursor_place : ℕ
cursor_place = 11

abbrev pub state_place : ℕ
state_place = cursor_place + cursor_size

abbrev pub player_size : ℕ
player_size = state_place + state_size

-- WRITTEN
unfoldable pub player_bytes : Player → List ℕ
player_bytes p =
    wide_bytes 1 p.phase
    ++ (wide_bytes 4 p.wait
    ++ (wide_bytes 4 p.time ++ (wide_bytes 2 p.last ++ (cursor_bytes p.cursor ++ state_bytes p.state))))

-- READ: past the bytes' end everything is 0

-- the bytes of the cursor, and of the state
abbrev pub cursor_part : List ℕ → List ℕ
cursor_part b = take cursor_size (drop cursor_place b)

abbrev pub state_part : List ℕ → List ℕ
state_part b = drop state_place b

unfoldable pub player_at : List ℕ → Player
player_at b =
    record {
      phase = wide_of b 0 1;
      wait = wide_of b 1 4;
      time = wide_of b 5 4;
      last = wide_of b 9 2;
      state = state_of (state_part b);
      cursor = cursor_of (cursor_part b);
    }

-- these bytes are a player's: read and written back, they are as they were
unfoldable pub is_player : List ℕ → Bool
is_player b = exactly (player_bytes (player_at b)) b

-- a player whose state is out of range
unfoldable pub outside_player : Player
outside_player = record { phase = 0; wait = 0; time = 0; last = 0; state = outside; cursor = cursor_of [] }

-- THE PLAYER THAT BYTES STAND FOR; bytes that are no player's stand for one whose state is out of range
unfoldable pub player_in : List ℕ → Player
player_in b = pick (is_player b) (player_at b) outside_player

-- what writing a player to lent bytes leaves in them: the player's bytes; where other than so many bytes are lent, those as they were
unfoldable pub player_encoded : Player → List ℕ → List ℕ
player_encoded p old = pick (eqb (length old) player_size) (player_bytes p) old

-- the ranges of a player's types, which every player has: u8, u32, u16, and a cursor's
pub record PlayerFits (p : Player) : Type 0 where
  pub phase : p.phase < 256
  pub wait : p.wait < 2 ^ 32
  pub time : p.time < 2 ^ 32
  pub last : p.last < 2 ^ 16
  pub cursor : CursorFits p.cursor

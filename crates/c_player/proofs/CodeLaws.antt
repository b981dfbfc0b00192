-- A player written as bytes is read back, and what bytes stand for. Assumes nothing but the ranges of its types.
use mathlib.Core.Path.{◌≡◌, refl, sym, ap, ◌∙◌}
use mathlib.Core.Bool.{Bool, true, false, false≢true}
use mathlib.Core.List.{List, ◌++◌, append_assoc}
use Prim.Native.Nat.{ℕ, ◌+◌}
use lib.Dec.{eqb}
use lib.ListN.{length, take, drop}
use lib.Seq.{take_at, drop_at}
use borrow.Author.Tests.{eq-eqb, eqb-true}
use Rattle.arith.specs.Pick.{pick, both}
use Rattle.arith.proofs.PickLaws.{both_left}
use Rattle.text.proofs.KeyLaws.{exactly_is}
use Rattle.chip.specs.Range.{in_range}
use Rattle.c_state.specs.Bytes.{state_bytes, is_state}
use Rattle.c_state.proofs.CodeLaws.{exactly_same, outside_out, state_right, written_read as state-read}
use Rattle.c_bytes.specs.Numbers.{wide_bytes, wide_of}
use Rattle.c_recording.specs.Cursors.{cursor_size, cursor_bytes}
use Rattle.c_bytes.proofs.WideLaws.{wide_size}
use Rattle.c_bytes.proofs.NumberLaws.{wide_past, wide_read}
use Rattle.c_recording.proofs.PlaceLaws.{cursor_size_lem}
use Rattle.c_recording.proofs.CodeLaws.{read_starts, read_left, written_read as cursor-read}
use Rattle.play_rules.specs.declared.Player.{Player}
use Rattle.c_player.specs.Player.{cursor_place, state_place, player_size, player_bytes, cursor_part, state_part, player_at, is_player, outside_player, player_in, PlayerFits}
use Rattle.c_player.proofs.PlaceLaws.{numbers, numbers_size, front_size, whole, player_size_lem}

module _ (p : Player) (fits : PlayerFits p) where
  phase_read : wide_of (player_bytes p) 0 1 ≡ p.phase
  unfolding player_bytes
  phase_read = wide_read 1 p.phase _ fits.phase

  wait_read : wide_of (player_bytes p) 1 4 ≡ p.wait
  unfolding player_bytes
  wait_read = wide_past (wide_bytes 1 p.phase) _ 1 0 4 (wide_size 1 _) ∙ wide_read 4 p.wait _ fits.wait

  time_read : wide_of (player_bytes p) 5 4 ≡ p.time
  unfolding player_bytes
  time_read =
      wide_past (wide_bytes 1 p.phase) _ 1 4 4 (wide_size 1 _)
      ∙ wide_past (wide_bytes 4 p.wait) _ 4 0 4 (wide_size 4 _)
      ∙ wide_read 4 p.time _ fits.time

  last_read : wide_of (player_bytes p) 9 2 ≡ p.last
  unfolding player_bytes
  last_read =
      wide_past (wide_bytes 1 p.phase) _ 1 8 2 (wide_size 1 _)
      ∙ wide_past (wide_bytes 4 p.wait) _ 4 4 2 (wide_size 4 _)
      ∙ wide_past (wide_bytes 4 p.time) _ 4 0 2 (wide_size 4 _)
      ∙ wide_read 2 p.last _ fits.last

module _ (p : Player) (size : length (cursor_bytes p.cursor) ≡ cursor_size) where
  -- the bytes of the cursor
  cursor_part_lem : cursor_part (player_bytes p) ≡ cursor_bytes p.cursor
  cursor_part_lem =
      rw (← whole p)
      (ap (take cursor_size) (drop_at (numbers p.phase p.wait p.time p.last) _ cursor_place (numbers_size _ _ _ _))
      ∙ take_at (cursor_bytes p.cursor) (state_bytes p.state) cursor_size size)

  -- the bytes of the state
  state_part_lem : state_part (player_bytes p) ≡ state_bytes p.state
  state_part_lem =
      let n = numbers p.phase p.wait p.time p.last in
      ap (drop state_place) (sym (whole p) ∙ sym (append_assoc n (cursor_bytes p.cursor) (state_bytes p.state)))
      ∙ drop_at (n ++ cursor_bytes p.cursor) (state_bytes p.state) state_place (front_size p size)

-- what was written is read
pub written_read : (p : Player) → PlayerFits p → player_at (player_bytes p) ≡ p
unfolding player_at
written_read p fits =
    let size = cursor_size_lem p.cursor fits.cursor.log.starts.0 fits.cursor.log.left.0 in
    rw (
      phase_read p fits,
      wait_read p fits,
      time_read p fits,
      last_read p fits,
      state_part_lem p size,
      state-read p.state,
      cursor_part_lem p size,
      cursor-read p.cursor fits.cursor,
    )

-- its bytes are as many as a player is, and those of the state are a state's
pub player_told : (p : Player) → length p.cursor.log.starts ≡ 8 → length p.cursor.log.left ≡ 8
    → both (eqb (length (player_bytes p)) player_size) (is_state (state_part (player_bytes p))) ≡ true
player_told p s l = rw (eq-eqb _ _ (player_size_lem p s l), state_part_lem p (cursor_size_lem p.cursor s l)) (state_right p.state)

-- a player that was read has a player's bytes
pub read_told : (b : List ℕ) → both (eqb (length (player_bytes (player_at b))) player_size) (is_state (state_part (player_bytes (player_at b)))) ≡ true
unfolding player_at
read_told b = player_told (player_at b) (read_starts (cursor_part b)) (read_left (cursor_part b))

-- BYTES THAT ARE A PLAYER'S

-- a player's bytes are
player_right : (p : Player) → PlayerFits p → is_player (player_bytes p) ≡ true
unfolding is_player
player_right p fits = rw (written_read p fits) (exactly_same (player_bytes p))

-- they have a player's length
player_long : (b : List ℕ) → is_player b ≡ true → length b ≡ player_size
unfolding is_player
player_long b e =
    ap length (exactly_is (player_bytes (player_at b)) b e)
    ∙ eqb-true (length (player_bytes (player_at b))) player_size (both_left _ (is_state (state_part (player_bytes (player_at b)))) (read_told b))

-- WHAT BYTES STAND FOR

-- a player's bytes stand for it
pub written_in : (p : Player) → PlayerFits p → player_in (player_bytes p) ≡ p
unfolding player_in
written_in p fits = rw (player_right p fits) (written_read p fits)

-- bytes that stand for a player whose state is in range have a player's length
pub in_long : (b : List ℕ) → in_range (player_in b).state ≡ true → length b ≡ player_size
unfolding player_in outside_player
in_long b e = by (is_player b) refl e
  where
    by : (t : Bool) → is_player b ≡ t → in_range (pick t (player_at b) outside_player).state ≡ true → length b ≡ player_size
    by true f g = player_long b f
    by false f g = absurd (false≢true (sym outside_out ∙ g))

-- Bytes that are told by their number and by the state's bytes are those that are written back as they were, and a player that was read has the ranges of its
-- types. Assumes nothing.
use mathlib.Core.Path.{◌≡◌}
use mathlib.Core.Bool.{true}
use mathlib.Core.List.{List, [], ◌∷◌}
use Prim.Native.Nat.{ℕ, zero, suc, ◌+◌, ◌≤◌}
use native.Mathlib.Omega.{arith}
use lib.ListN.{length, get_or, take, drop, length-drop}
use lib.Seq.{get_or-drop, length-take-le}
use lib.Dec.{eqb}
use borrow.Author.Tests.{eqb-true}
use Rattle.arith.specs.Pick.{both}
use Rattle.arith.proofs.PickLaws.{both_left, both_right}
use Rattle.text.specs.Key.{exactly}
use Rattle.text.proofs.KeyLaws.{exactly_is}
use Rattle.c_bytes.specs.Fields.{byte_of}
use Rattle.c_state.specs.Bytes.{is_state}
use Rattle.c_state.proofs.BackLaws.{alike}
use Rattle.c_state.proofs.CodeLaws.{exactly_same, read_written as state_written}
use Rattle.c_recording.specs.Cursors.{cursor_size}
use Rattle.c_bytes.proofs.NumberLaws.{cut, wide_most, wide_kept}
use Rattle.c_recording.proofs.CodeLaws.{read_fits as cursor-fits, read_written as cursor_written}
use Rattle.c_player.specs.Player.{cursor_place, player_size, cursor_part, state_part, player_bytes, player_at, is_player, PlayerFits}
use Rattle.c_player.proofs.CodeLaws.{read_told}

taken : (n : ℕ) (l : List ℕ) → ((i : ℕ) → get_or l i 0 ≤ 255) → (i : ℕ) → get_or (take n l) i 0 ≤ 255
taken zero l h i = omega arith
taken (suc n) [] h i = omega arith
taken (suc n) (x ∷ l) h zero = h 0
taken (suc n) (x ∷ l) h (suc i) = taken n l (λ j. h (suc j)) i

module _ (b : List ℕ) (bytes : (i : ℕ) → byte_of b i ≤ 255) where
  dropped : (n i : ℕ) → byte_of (drop n b) i ≤ 255
  dropped n i = rw (get_or-drop n b i 0) (bytes (n + i))

  -- what was read has its types' ranges
  read_fits : PlayerFits (player_at b)
  unfolding player_at
  read_fits =
      record {
        phase = wide_most b bytes 0 1;
        wait = wide_most b bytes 1 4;
        time = wide_most b bytes 5 4;
        last = wide_most b bytes 9 2;
        cursor = cursor-fits (cursor_part b) (taken cursor_size (drop cursor_place b) (dropped cursor_place));
      }

  told_written : both (eqb (length b) player_size) (is_state (state_part b)) ≡ true → player_bytes (player_at b) ≡ b
  unfolding player_bytes player_at
  told_written e =
      let size : length b ≡ player_size = eqb-true (length b) player_size (both_left (eqb (length b) player_size) (is_state (state_part b)) e) in
      let state = state_written (state_part b) (both_right (eqb (length b) player_size) (is_state (state_part b)) e) in
      let long : length (cursor_part b) ≡ cursor_size = length-take-le cursor_size (drop cursor_place b) (simp length-drop (omega arith)) in
      let cursor = cursor_written (cursor_part b) (taken cursor_size (drop cursor_place b) (dropped cursor_place)) long in
      rw (
        wide_kept b bytes 0 1 (omega arith),
        wide_kept b bytes 1 4 (omega arith),
        wide_kept b bytes 5 4 (omega arith),
        wide_kept b bytes 9 2 (omega arith),
        state,
        cursor,
        ← cut b cursor_place cursor_size,
        ← cut b 9 2,
        ← cut b 5 4,
        ← cut b 1 4,
        ← cut b 0 1,
      )

  -- THE CODE TELLS THEM RIGHT
  pub told_right : both (eqb (length b) player_size) (is_state (state_part b)) ≡ is_player b
  unfolding is_player
  told_right =
      alike (both (eqb (length b) player_size) (is_state (state_part b))) (exactly (player_bytes (player_at b)) b)
      (λ e. rw (told_written e) (exactly_same b))
      (λ e. rw (exactly_is (player_bytes (player_at b)) b e) (read_told b))

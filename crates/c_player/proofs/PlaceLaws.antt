-- A player's parts written one behind the other are its bytes. Assumes nothing.
use mathlib.Core.Path.{◌≡◌, sym, ap, ◌∙◌}
use mathlib.Core.List.{List, ◌++◌, append_assoc}
use Prim.Native.Nat.{ℕ, ◌+◌}
use native.Mathlib.Omega.{arith}
use lib.ListN.{length, length-append}
use lib.Seq.{sets}
use Rattle.c_state.specs.Bytes.{state_bytes}
use Rattle.c_state.proofs.CodeLaws.{state_size_lem}
use Rattle.c_bytes.specs.Numbers.{wide_bytes}
use Rattle.c_recording.specs.Cursors.{cursor_size, cursor_bytes}
use Rattle.c_bytes.proofs.WideLaws.{wide_size}
use Rattle.c_bytes.proofs.PlaceLaws.{put_next, put_all}
use Rattle.c_recording.proofs.PlaceLaws.{cursor_size_lem}
use Rattle.play_rules.specs.declared.Player.{Player}
use Rattle.c_player.specs.Player.{cursor_place, state_place, player_size, player_bytes}

-- the four numbers
abbrev pub numbers : ℕ → ℕ → ℕ → ℕ → List ℕ
numbers phase wait time last = wide_bytes 1 phase ++ (wide_bytes 4 wait ++ (wide_bytes 4 time ++ wide_bytes 2 last))

pub put_numbers :
    (phase wait time last : ℕ) (old b₁ b₂ b₃ b₄ : List ℕ)
    → b₁ ≡ sets old 0 (wide_bytes 1 phase)
    → b₂ ≡ sets b₁ 1 (wide_bytes 4 wait)
    → b₃ ≡ sets b₂ 5 (wide_bytes 4 time)
    → b₄ ≡ sets b₃ 9 (wide_bytes 2 last)
    → b₄ ≡ sets old 0 (numbers phase wait time last)
put_numbers phase wait time last old b₁ b₂ b₃ b₄ e₁ e₂ e₃ e₄ =
    put_next (wide_bytes 1 phase) _ old b₁ b₄ 0 1 (omega (arith, wide_size 1 phase)) e₁
    (put_next (wide_bytes 4 wait) _ b₁ b₂ b₄ 1 5 (omega (arith, wide_size 4 wait)) e₂
    (put_next (wide_bytes 4 time) (wide_bytes 2 last) b₂ b₃ b₄ 5 9 (omega (arith, wide_size 4 time)) e₃ e₄))

pub numbers_size : (phase wait time last : ℕ) → length (numbers phase wait time last) ≡ cursor_place
numbers_size phase wait time last =
    simp length-append (omega (arith, wide_size 1 phase, wide_size 4 wait, wide_size 4 time, wide_size 2 last))

-- the whole
pub whole : (p : Player) → numbers p.phase p.wait p.time p.last ++ (cursor_bytes p.cursor ++ state_bytes p.state) ≡ player_bytes p
unfolding player_bytes
whole p = simp append_assoc

-- what stands before the state
pub front_size : (p : Player) → length (cursor_bytes p.cursor) ≡ cursor_size
    → length (numbers p.phase p.wait p.time p.last ++ cursor_bytes p.cursor) ≡ state_place
front_size p l =
    length-append (numbers p.phase p.wait p.time p.last) (cursor_bytes p.cursor)
    ∙ omega (arith, numbers_size p.phase p.wait p.time p.last)

whole_size : (p : Player) → length (cursor_bytes p.cursor) ≡ cursor_size → length (player_bytes p) ≡ player_size
unfolding player_bytes
whole_size p l =
    simp length-append
    (omega (arith, wide_size 1 p.phase, wide_size 4 p.wait, wide_size 4 p.time, wide_size 2 p.last, state_size_lem p.state))

pub put_player :
    (p : Player) (old b₁ b₂ b₃ : List ℕ)
    → length old ≡ player_size
    → length (cursor_bytes p.cursor) ≡ cursor_size
    → b₁ ≡ sets old 0 (numbers p.phase p.wait p.time p.last)
    → b₂ ≡ sets b₁ cursor_place (cursor_bytes p.cursor)
    → b₃ ≡ sets b₂ state_place (state_bytes p.state)
    → b₃ ≡ player_bytes p
put_player p old b₁ b₂ b₃ h l e₁ e₂ e₃ =
    let n = numbers p.phase p.wait p.time p.last in
    let s = state_bytes p.state in
    let c = cursor_bytes p.cursor in
    let behind = put_next c s b₁ b₂ b₃ cursor_place state_place (ap (λ (k : ℕ). cursor_place + k) l) e₂ e₃ in
    let all = put_next n (c ++ s) old b₁ b₃ 0 cursor_place (ap (λ (k : ℕ). 0 + k) (numbers_size p.phase p.wait p.time p.last)) e₁ behind in
    put_all (player_bytes p) old b₃ (whole_size p l ∙ sym h) (all ∙ ap (sets old 0) (whole p))

-- how many bytes a player is
pub player_size_lem : (p : Player) → length p.cursor.log.starts ≡ 8 → length p.cursor.log.left ≡ 8 → length (player_bytes p) ≡ player_size
player_size_lem p s l = whole_size p (cursor_size_lem p.cursor s l)

use borrow.Author.Tests.{eq-eqb, ne_eqb}
use Rattle.c_player.specs.Player.{player_encoded}
use Rattle.c_player.proofs.PlaceLaws.{put_player}
use Rattle.c_player.proofs.encode.Goals as goal

pub returns-then-b-eq-SIZE : goal.returns-then-b-eq-SIZE
unfolding player_encoded
returns-then-b-eq-SIZE c =
    let a = c.args in
    let size = c.if-b-eq-SIZE.true in
    let cursor = c.put_cursor.ensures in
    rw (eq-eqb _ _ size)
    (put_player a.p a.b.now _ _ _ size cursor.c_len c.put_numbers.ensures cursor.b_after c.put_state.ensures)

pub returns-else-b-eq-SIZE : goal.returns-else-b-eq-SIZE
unfolding player_encoded
returns-else-b-eq-SIZE c = simp (ne_eqb _ _ c.if-b-eq-SIZE.false)

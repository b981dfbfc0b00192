use borrow.Author.Tests.{eq-eqb, ne_eqb}
use Rattle.c_cursor.specs.Cursors.{cursor_encoded}
use Rattle.c_cursor.proofs.PlaceLaws.{put_cursor}
use Rattle.c_cursor.proofs.encode.Goals as goal

pub returns-then-b-eq-SIZE : goal.returns-then-b-eq-SIZE
unfolding cursor_encoded
returns-then-b-eq-SIZE c =
    let loops = c.put_loops.ensures in
    let a = c.args in
    rw (eq-eqb _ _ c.if-b-eq-SIZE.true)
    (put_cursor a.c a.b.now _ _ _ c.if-b-eq-SIZE.true loops.starts_len.0 loops.starts_len.1 c.put_wide.ensures c.put_wide-then-b-eq-SIZE.ensures loops.b_after)

pub returns-else-b-eq-SIZE : goal.returns-else-b-eq-SIZE
unfolding cursor_encoded
returns-else-b-eq-SIZE c = simp (ne_eqb _ _ c.if-b-eq-SIZE.false)

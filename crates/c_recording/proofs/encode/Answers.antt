use borrow.Author.Tests.{eq-eqb, ne_eqb}
use Rattle.c_recording.specs.Cursors.{cursor_encoded}
use Rattle.c_recording.proofs.PlaceLaws.{put_cursor}
use Rattle.c_recording.proofs.encode.Goals as goal

pub returns-then-b-eq-SIZE : goal.returns-then-b-eq-SIZE
unfolding cursor_encoded
returns-then-b-eq-SIZE c =
    let clock = rw c.from-then-b-eq-SIZE.ensures at c.put_wide-then-b-eq-SIZE.ensures in
    let samples = rw c.from.ensures at c.put_wide.ensures in
    let log = c.put_log.ensures in
    let a = c.args in
    rw (eq-eqb _ _ c.if-b-eq-SIZE.true) (put_cursor a.c a.b.now _ _ _ c.if-b-eq-SIZE.true log.c_len log.b_after samples clock)

pub returns-else-b-eq-SIZE : goal.returns-else-b-eq-SIZE
unfolding cursor_encoded
returns-else-b-eq-SIZE c = simp (ne_eqb _ _ c.if-b-eq-SIZE.false)

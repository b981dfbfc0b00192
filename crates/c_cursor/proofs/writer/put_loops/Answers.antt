use Rattle.c_cursor.proofs.PlaceLaws.{put_loops}
use Rattle.c_cursor.proofs.writer.put_loops.Goals as goal

pub returns : goal.returns
returns c =
    let a = c.args in
    let starts = c.put_starts-arg-2-1.given in
    let left = c.put_left-arg-2-1.given in record { b_after = put_loops a.starts.now a.left.now a.b.now _ _ starts c.put_starts.ensures c.put_left.ensures; starts_len = (starts, left) }

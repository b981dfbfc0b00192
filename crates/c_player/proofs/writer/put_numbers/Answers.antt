use Rattle.c_player.proofs.PlaceLaws.{put_numbers}
use Rattle.c_player.proofs.writer.put_numbers.Goals as goal

pub returns : goal.returns
returns c =
    let a = c.args in
    put_numbers a.phase a.wait a.time a.last a.b.now _ _ _ _ (rw c.from.ensures at c.put_wide.ensures) (rw c.from-2.ensures at c.put_wide-2.ensures) (rw c.from-3.ensures at c.put_wide-3.ensures) (rw c.from-4.ensures at c.put_wide-4.ensures)

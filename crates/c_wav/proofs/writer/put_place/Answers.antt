use Rattle.c_wav.proofs.PlaceLaws.{put_place}
use Rattle.c_wav.proofs.writer.put_place.Goals as goal

pub returns : goal.returns
returns c =
    let a = c.args in
    put_place a.p a.b.now _ _ _ _ c.put_wide.ensures c.put_wide-2.ensures c.put_wide-3.ensures c.put_wide-4.ensures

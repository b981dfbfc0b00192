use Rattle.play_wav.proofs.HeadLaws.{put_rate}
use Rattle.play_wav.proofs.head.put_rate.Goals as goal

pub returns : goal.returns
returns c =
    let a = c.args in
    put_rate a.rate a.out.now _ _ _ _ c.put_wide.ensures c.put_wide-2.ensures c.put_wide-3.ensures c.put_wide-4.ensures

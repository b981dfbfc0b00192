use Rattle.play_wav.proofs.HeadLaws.{put_head}
use Rattle.play_wav.proofs.head.put.Goals as goal

pub returns : goal.returns
returns c =
    let a = c.args in
    put_head a.rate a.count a.out.now _ _ _ _ c.put_riff.ensures c.put_form.ensures c.put_rate.ensures c.put_data.ensures

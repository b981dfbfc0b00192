use Rattle.play_wav.proofs.HeadLaws.{put_form}
use Rattle.play_wav.proofs.head.put_form.Goals as goal

pub returns : goal.returns
returns c =
    put_form c.args.out.now _ _ _ c.put_wide.ensures c.put_wide-2.ensures c.put_wide-3.ensures

use Rattle.play_wav.proofs.HeadLaws.{put_data}
use Rattle.play_wav.proofs.head.put_data.Goals as goal

pub returns : goal.returns
returns c =
    put_data c.args.count c.args.out.now _ _ c.requires c.fixed.ensures.out_after c.put_wide.ensures

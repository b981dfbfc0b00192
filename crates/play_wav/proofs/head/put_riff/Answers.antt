use Rattle.play_wav.proofs.HeadLaws.{put_riff}
use Rattle.play_wav.proofs.head.put_riff.Goals as goal

pub returns : goal.returns
returns c =
    put_riff c.args.count c.args.out.now _ _ _ c.requires c.fixed.ensures.out_after c.put_wide.ensures c.fixed-2.ensures.out_after

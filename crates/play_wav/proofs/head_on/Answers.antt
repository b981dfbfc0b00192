use Rattle.play_wav.proofs.HeadLaws.{headed_none, headed}
use Rattle.play_wav.proofs.head_on.Goals as goal

pub returns-then-out-lt44 : goal.returns-then-out-lt44
returns-then-out-lt44 c =
    let a = c.args in
    headed_none a.w a.out.now c.sounded_of.result c.if-out-lt44.true c.sounded_of.ensures

pub returns : goal.returns
returns c =
    let a = c.args in
    headed a.w a.out.now _ c.wav_of-v.result c.sounded_of-2.result c.if-out-lt44.false
    c.put.ensures c.wav_of-v.ensures c.sounded_of-2.ensures

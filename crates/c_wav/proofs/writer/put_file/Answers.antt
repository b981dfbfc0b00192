use Rattle.c_wav.proofs.PlaceLaws.{put_file}
use Rattle.c_wav.proofs.writer.put_file.Goals as goal

pub returns : goal.returns
returns c =
    let a = c.args in
    let flag = c.flag_byte in
    put_file a.begun flag.result a.rate a.count a.b.now _ _ _ flag.ensures c.put_wide.ensures c.put_wide-2.ensures c.put_wide-3.ensures

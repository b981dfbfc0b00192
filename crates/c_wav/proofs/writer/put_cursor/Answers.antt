use Rattle.c_wav.proofs.PartLaws.{cursor_written}
use Rattle.c_wav.proofs.writer.put_cursor.Goals as goal

pub returns : goal.returns
returns c =
    let went = c.encode in let pair = cursor_written c.args.c c.args.b.now went.new.b c.requires went.auto.b went.ensures in record { b_after = pair.0; c_len = pair.1 }

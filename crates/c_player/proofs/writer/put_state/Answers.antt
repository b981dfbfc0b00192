use Rattle.c_player.proofs.PartLaws.{state_written}
use Rattle.c_player.proofs.writer.put_state.Goals as goal

pub returns : goal.returns
returns c =
    let went = c.encode in
    state_written c.args.s c.args.b.now went.new.b c.requires went.ensures

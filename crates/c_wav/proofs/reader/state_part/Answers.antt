use Rattle.c_wav.proofs.PartLaws.{state_none, state_all}
use Rattle.c_wav.proofs.reader.state_part.Goals as goal

pub returns-then-b-lt-STATE : goal.returns-then-b-lt-STATE
returns-then-b-lt-STATE c = state_none c.args.b.now c.if-b-lt-STATE.true

pub returns : goal.returns
returns c = state_all c.args.b.now

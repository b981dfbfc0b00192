use Rattle.c_player.proofs.PartLaws.{cursor_none, cursor_short}
use Rattle.c_player.proofs.reader.cursor_part.Goals as goal

pub returns-then-b-lt-CURSOR : goal.returns-then-b-lt-CURSOR
returns-then-b-lt-CURSOR c = cursor_none c.args.b.now c.if-b-lt-CURSOR.true

pub returns-then-b-lt-STATE : goal.returns-then-b-lt-STATE
returns-then-b-lt-STATE c = cursor_short c.args.b.now c.if-b-lt-STATE.true

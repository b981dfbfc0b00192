use Rattle.play_text.proofs.line.Goals as goal

pub play_line-requires : goal.play_line-requires
play_line-requires c = c.requires

pub level_entry-requires : goal.level_entry-requires
level_entry-requires c = c.requires

pub read_line-requires : goal.read_line-requires
read_line-requires c = c.requires

pub stop_line-requires : goal.stop_line-requires
stop_line-requires c = c.requires

pub returns-in-Play : goal.returns-in-Play
returns-in-Play c = rw c.in-Play.is c.play_line.ensures

pub returns-in-Level : goal.returns-in-Level
returns-in-Level c = rw c.in-Level.is c.level_entry.ensures

pub returns-in-Read : goal.returns-in-Read
returns-in-Read c = rw c.in-Read.is (rw c.from.ensures at c.read_line.ensures)

pub returns-in-Stop : goal.returns-in-Stop
returns-in-Stop c = rw c.in-Stop.is (rw c.from-in-Stop.ensures at c.stop_line.ensures)

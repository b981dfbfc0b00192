use Rattle.recording_cursor.proofs.start.Goals as goal

pub returns : goal.returns
returns c = rw c.start.ensures

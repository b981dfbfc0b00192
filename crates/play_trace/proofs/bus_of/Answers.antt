use Rattle.chip_access.specs.Access.{access_byte}
use Rattle.play_trace.specs.Window.{bus_of}
use Rattle.play_trace.proofs.bus_of.Goals as goal

pub returns-in-Write : goal.returns-in-Write
unfolding bus_of
returns-in-Write c = rw c.in-Write.is

pub returns-in-Read : goal.returns-in-Read
unfolding bus_of access_byte
returns-in-Read c = rw (c.accessed-o.ensures.value, c.in-Read.is)

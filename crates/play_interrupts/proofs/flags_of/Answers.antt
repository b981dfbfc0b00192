use Rattle.play_interrupts.specs.Changes.{flags_of}
use Rattle.play_interrupts.proofs.flags_of.Goals as goal

pub returns : goal.returns
unfolding flags_of
returns c = rw c.asserts-line.ensures

-- The loop's invariant is `Going`: each read so far brought bytes; what ends it makes `Reads` of it. Assumes nothing.
use Rattle.std.proofs.Common.{◌≡◌, ◌-◌, length}
use Rattle.program_io.proofs.ReadsLaws.{Going}
use Rattle.program_io.proofs.read_by.Given as goal

abbrev pub invariant-loop-done : goal.invariant-loop-done
invariant-loop-done g l = Going l.initial.buffer l.buffer l.done × (length l.chunk ≡ length l.initial.chunk)

abbrev pub decreases-loop-done : goal.decreases-loop-done
decreases-loop-done g l = length l.buffer - l.done

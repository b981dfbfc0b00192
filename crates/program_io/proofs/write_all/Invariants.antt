-- The loop's invariant is `Going`: each write so far took bytes; what ends it makes `Writes` of it. Assumes nothing.
use Rattle.std.proofs.Common.{◌-◌, length}
use Rattle.program_io.proofs.ReadsLaws.{Going}
use Rattle.program_io.proofs.write_all.Given as goal

abbrev pub invariant-loop-done : goal.invariant-loop-done
invariant-loop-done g l = Going l.text l.text l.done

abbrev pub decreases-loop-done : goal.decreases-loop-done
decreases-loop-done g l = length l.text - l.done

use Rattle.play_trace.proofs.UntilLaws.{Along}
use Rattle.play_trace.proofs.until_seen.Given as goal

abbrev pub invariant-loop-k : goal.invariant-loop-k
invariant-loop-k l = Along l.memory l.n l.initial.state l.k l.state

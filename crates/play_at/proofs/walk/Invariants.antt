-- The loop's invariant: the acts still to come, from the moment so far, lead to the answer (`Walking`). Assumes nothing.
use Prim.Native.Nat.{◌-◌}
use Rattle.play_at.specs.Walking.{Walking}
use Rattle.play_at.proofs.walk.Given as goal

abbrev pub invariant-loop : goal.invariant-loop
invariant-loop l = Walking l.log l.memory l.clock l.m (2000002 - l.counter)

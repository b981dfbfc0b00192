-- The loop's invariant: the acts still to come, from the moment so far, come to the meter of all (`MeterWalking`). Assumes nothing.
use Prim.Native.Nat.{◌-◌}
use Rattle.play_meter.specs.Walking.{MeterWalking}
use Rattle.play_meter.proofs.walk.Given as goal

abbrev pub invariant-loop : goal.invariant-loop
invariant-loop l = MeterWalking l.log l.memory l.m l.span (2000002 - l.counter)

-- The loop's invariant: the acts still to come, from the moment and the counts so far, come to the counts of all (`DwellWalking`). Assumes nothing.
use Prim.Native.Nat.{◌-◌}
use mathlib.Core.Path.{◌≡◌}
use lib.ListN.{length}
use Rattle.play_dwell.specs.Walking.{DwellWalking}
use Rattle.play_dwell.proofs.walk.Given as goal

abbrev pub invariant-loop : goal.invariant-loop
invariant-loop l = DwellWalking l.log l.memory l.m l.table (2000002 - l.counter) × (length l.words ≡ length l.initial.words)

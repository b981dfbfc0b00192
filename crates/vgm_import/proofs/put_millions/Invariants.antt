use mathlib.Core.Path.{◌≡◌}
use Prim.Native.Nat.{◌+◌, ◌-◌}
use lib.ListN.{length}
use lib.Seq.{sets}
use Rattle.vgm_measure.specs.Measure.{millions}
use Rattle.vgm_import.proofs.put_millions.Given as goal

abbrev pub invariant-loop : goal.invariant-loop
invariant-loop l = (length l.out ≡ length l.initial.out) × (l.place + length (millions (l.m - l.counter)) ≡ l.at + length (millions l.m)) × (sets l.out l.place (millions (l.m - l.counter)) ≡ sets l.initial.out l.at (millions l.m))

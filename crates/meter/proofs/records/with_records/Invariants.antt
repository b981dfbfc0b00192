-- The loop's invariant: the records' levels from i on, with the lowest and highest so far, make those of all. Assumes nothing.
use mathlib.Core.Path.{◌≡◌}
use lib.ListN.{drop}
use Rattle.meter.specs.Levels.{lowest, highest}
use Rattle.meter.proofs.Steps.{there}
use Rattle.meter.proofs.records.with_records.Given as goal

abbrev pub invariant-loop-i : goal.invariant-loop-i
invariant-loop-i l = record {
  low : lowest l.low (drop l.i (there l.start l.count l.words)) ≡ lowest l.initial.low (drop l.start (there l.start l.count l.words));
  high : highest l.high (drop l.i (there l.start l.count l.words)) ≡ highest l.initial.high (drop l.start (there l.start l.count l.words));
}

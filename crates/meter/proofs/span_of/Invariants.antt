-- The loop's invariant: the levels from the next on, with the lowest and highest so far, make those of all. Assumes nothing.
use mathlib.Core.Path.{◌≡◌}
use lib.ListN.{drop}
use Rattle.meter.specs.Levels.{lowest, highest}
use Rattle.meter.proofs.span_of.Given as goal

abbrev pub invariant-loop-y : goal.invariant-loop-y
invariant-loop-y l = record {
  low : lowest l.low (drop l.y-index l.levels) ≡ lowest l.x l.levels;
  high : highest l.high (drop l.y-index l.levels) ≡ highest l.x l.levels;
}

use mathlib.Core.Path.{◌≡◌}
use lib.ListN.{drop}
use Rattle.vgm_stream.specs.Stream.{stream_from}
use Rattle.vgm_measure.specs.Measure.{Counted, sum_from, sum_of}
use Rattle.vgm_measure.proofs.sum_of.Given as goal

abbrev pub invariant-loop-i : goal.invariant-loop-i
invariant-loop-i l = Counted l.pal l.k × (sum_from l.pal l.k (stream_from l.w l.i (drop l.i l.stream)) ≡ sum_of l.pal l.stream)

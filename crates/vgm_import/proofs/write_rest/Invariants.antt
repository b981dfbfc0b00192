use mathlib.Core.Path.{◌≡◌}
use Prim.Native.Nat.{◌+◌}
use lib.ListN.{length, drop}
use lib.Seq.{sets}
use Rattle.vgm_stream.specs.Stream.{stream_from, stream_of}
use Rattle.vgm_import.specs.Write.{Writing, tail_of}
use Rattle.vgm_import.proofs.write_rest.Given as goal

abbrev pub invariant-loop-b : goal.invariant-loop-b
invariant-loop-b l = (length l.out ≡ length l.initial.out) × Writing l.pal (sets l.initial.out l.first (tail_of l.pal (stream_of l.stream))) (l.first + length (tail_of l.pal (stream_of l.stream))) l.p.samples l.p.clock l.p.place (stream_from l.w l.b-index (drop l.b-index l.stream)) l.out

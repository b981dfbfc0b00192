-- The loop's invariant: the buffer keeps its length; its turns are counted; each piece so far was taken whole. Assumes nothing.
use mathlib.Core.Path.{◌≡◌}
use lib.ListN.{length}
use Rattle.wav_stdout.proofs.PourLaws.{Pouring}
use Rattle.wav_stdout.proofs.pour.Given as goal

abbrev pub invariant-loop : goal.invariant-loop
invariant-loop l = (length l.out ≡ length l.initial.out) × Pouring l.log l.memory l.initial.v.rate l.v l.counter l.out

-- The loop's invariant: what is left to be stored makes the whole. Assumes nothing.
use mathlib.Core.Path.{◌≡◌}
use lib.Seq.{sets}
use Rattle.vcd_text.specs.Lines.{binary_text}
use Rattle.vcd_text.proofs.bits.Given as goal

abbrev pub invariant-loop-i : goal.invariant-loop-i
invariant-loop-i l =
    sets l.out l.at (binary_text l.i l.left) ≡ sets l.initial.out l.at (binary_text l.w l.n)

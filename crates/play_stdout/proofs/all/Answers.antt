-- The buffer has room for a line. Assumes nothing.
use native.Mathlib.Omega.{arith}
use Rattle.play_stdout.proofs.all.Goals as goal

pub pour-requires : goal.pour-requires
pour-requires c = let p = c.requires in record { memory_value = p.memory_value; p_value = p.p_value; in_bounds = omega arith }

pub returns : goal.returns
returns c = c.pour.ensures

-- The buffer has room for the head. Assumes nothing.
use native.Mathlib.Omega.{arith}
use Rattle.wav_stdout.proofs.all.Goals as goal

pub pour-requires : goal.pour-requires
pour-requires c = let p = c.requires in record { rate_value = p.rate_value; w_value = p.w_value; in_bounds = omega arith }

pub returns : goal.returns
returns c = c.pour.ensures

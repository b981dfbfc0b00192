use mathlib.Core.Path.{refl, sym}
use native.Mathlib.Nat.{add-zero}
use native.Mathlib.Omega.{arith}
use Rattle.vgm_import.specs.Write.{step_text, step_samples, step_clock}
use Rattle.vgm_import.proofs.pen_said.Goals as goal

pub overflow_add-result : goal.overflow_add-result
unfolding step_samples
overflow_add-result c = let h = rw c.in-Wait.is at c.requires.samples in record { fits = omega arith }

pub pen_write-requires : goal.pen_write-requires
pen_write-requires c = rw c.in-Write.is at c.requires

pub returns-in-Wait : goal.returns-in-Wait
unfolding step_text step_samples step_clock
returns-in-Wait c = rw c.in-Wait.is (record { samples = refl; clock = refl; place = sym (add-zero _); bytes = refl })

pub returns-in-Write : goal.returns-in-Write
returns-in-Write c = rw c.in-Write.is c.pen_write.ensures

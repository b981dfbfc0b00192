use native.Mathlib.Omega.{arith}
use Rattle.vgm_import.specs.Write.{step_samples}
use Rattle.vgm_import.proofs.WriteLaws.{write_gap, write_penned}
use Rattle.vgm_import.proofs.pen_write.Goals as goal

pub overflow_cast-p : goal.overflow_cast-p
unfolding step_samples
overflow_cast-p c = let h = c.requires.samples in record { fits = omega arith }

pub put_gap-a-requires : goal.put_gap-a-requires
put_gap-a-requires c = write_gap c.args.pal c.args.p c.args.register c.args.value c.args.out.now c.requires c.clocks_of-stands.result c.clocks_of-stands.ensures

pub returns : goal.returns
returns c = write_penned c.args.pal c.args.p c.args.register c.args.value c.args.out.now c.requires c.clocks_of-stands.result c.clocks_of-stands.ensures c.put_gap-a.new.out c.put_gap-a.result c.put_gap-a.ensures c.put_line-b.new.out c.put_line-b.result c.put_line-b.ensures.value c.put_line-b.ensures.out_after

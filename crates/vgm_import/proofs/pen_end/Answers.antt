use native.Mathlib.Omega.{arith}
use Rattle.vgm_measure.proofs.BoundLaws.{stood_most}
use Rattle.vgm_import.proofs.WriteLaws.{end_gap, end_written}
use Rattle.vgm_import.proofs.pen_end.Goals as goal

pub put_gap-a-requires : goal.put_gap-a-requires
put_gap-a-requires c = end_gap c.args.pal c.args.p c.args.out.now c.requires c.clocks_of-c.result c.clocks_of-c.ensures

pub overflow_cast-c : goal.overflow_cast-c
overflow_cast-c c = let b = stood_most c.args.pal c.args.p.samples c.requires.samples in let e = c.clocks_of-c.ensures in record { fits = omega arith }

pub returns : goal.returns
returns c = end_written c.args.pal c.args.p c.args.out.now c.requires c.clocks_of-c.result c.clocks_of-c.ensures c.put_gap-a.new.out c.put_gap-a.result c.put_gap-a.ensures c.put_line.new.out c.put_line.ensures.out_after

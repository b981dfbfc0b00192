use native.Mathlib.Omega.{arith}
use Rattle.vgm_measure.proofs.BoundLaws.{stood_most}
use Rattle.vgm_measure.proofs.GapLaws.{closed_count}
use Rattle.vgm_measure.proofs.closed.Goals as goal

pub gap_turns-t-requires : goal.gap_turns-t-requires
gap_turns-t-requires c = let b = stood_most c.args.pal c.args.k.samples c.requires.samples in let e = c.clocks_of-c.ensures in omega arith

pub gap_length-n-requires : goal.gap_length-n-requires
gap_length-n-requires c = let b = stood_most c.args.pal c.args.k.samples c.requires.samples in let e = c.clocks_of-c.ensures in omega arith

pub overflow_cast-c : goal.overflow_cast-c
overflow_cast-c c = let b = stood_most c.args.pal c.args.k.samples c.requires.samples in let e = c.clocks_of-c.ensures in record { fits = omega arith }

pub returns : goal.returns
returns c = closed_count c.args.pal c.args.k c.clocks_of-c.result c.clocks_of-c.ensures c.gap_turns-t.result c.gap_turns-t.ensures.0 c.gap_length-n.result c.gap_length-n.ensures.0 c.line_length-e.result c.line_length-e.ensures.0 c.weigh.result c.weigh.ensures

use Prim.Native.Nat.{◌/◌, ◌%◌}
use native.Mathlib.Omega.{arith}
use Rattle.text_print.proofs.PieceLaws.{put_two, put_size}
use Rattle.vgm_measure.specs.Measure.{gap_text, millions, rest_text}
use Rattle.vgm_measure.proofs.GapLaws.{gap_long, millions_long}
use Rattle.vgm_import.proofs.put_gap.Goals as goal

pub put_millions-a-requires : goal.put_millions-a-requires
put_millions-a-requires c = omega (arith, gap_long c.args.g, millions_long (c.args.g / 1000000), c.requires)

pub put_rest-requires : goal.put_rest-requires
put_rest-requires c = let p = c.put_millions-a.ensures in let q = c.put_millions-a.ensures.place in (omega arith, omega (arith, gap_long c.args.g, millions_long (c.args.g / 1000000), c.requires, put_size p))

pub returns : goal.returns
unfolding gap_text
returns c = let a = c.args in put_two a.out.now a.at (millions (a.g / 1000000)) (rest_text (a.g % 1000000)) c.put_millions-a.new.out c.put_millions-a.result c.put_rest.new.out c.put_rest.result c.put_millions-a.ensures c.put_rest.ensures

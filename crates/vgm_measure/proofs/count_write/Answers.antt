use Rattle.vgm_measure.proofs.GapLaws.{count_write_fits}
use Rattle.vgm_measure.proofs.count_write.Goals as goal

pub returns : goal.returns
returns c = let k = c.args.k in
    let e = c.clocks_of-c.ensures in
    let t = c.gap_turns-t.ensures in
    let n = c.gap_length-n.ensures in
    count_write_fits c.args.pal k c.requires.0 c.requires.1 c.clocks_of-c.result e c.gap_turns-t.result t.0 c.gap_length-n.result n.0 n.1

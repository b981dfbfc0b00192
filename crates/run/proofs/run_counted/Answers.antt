use native.Mathlib.Omega.{arith}
use Rattle.run_walk.proofs.SettleLaws.{roomy_open}
use Rattle.run_walk.proofs.WalkLaws.{opened}
use Rattle.run.proofs.run_counted.Goals as goal

pub open_clocks-most-requires : goal.open_clocks-most-requires
open_clocks-most-requires c = let p = c.requires in record { s_value = p.s_value; count_bound = p.count_bound; counts_value = p.counts_value }

pub run_on-ran-requires : goal.run_on-ran-requires
run_on-ran-requires c =
    let a = c.args in
    let p = c.requires in record { s_value = p.s_value; count_bound = omega (arith, p.count_bound, c.open_clocks-most.ensures.most); roomy = roomy_open a.memory.now a.s a.counts a.count c.open_clocks-most.result (omega (arith, c.well_formed.1.1.0.1.0.1)) p.counts_value c.open_clocks-most.ensures }

pub returns : goal.returns
returns c =
    let a = c.args in let pair = opened a.memory.now a.s a.counts a.count a.words.now c.open_clocks-most.result c.open_clocks-most.ensures _ _ c.run_on-ran.ensures.value c.run_on-ran.ensures.words_after
    _ c.run_on-ran.ensures.table_after in record { value = pair.0; words_after = pair.1 }

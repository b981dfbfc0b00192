use native.Mathlib.Omega.{arith}
use Rattle.play_dwell.specs.Walking.{met_clocks}
use Rattle.play_dwell.proofs.met_on.Goals as goal

pub clocks_on-requires : goal.clocks_on-requires
unfolding met_clocks
clocks_on-requires c =
    let p = c.requires in
    let few = rw c.in-Wait.is at p.counts_len.1 in record { memory_len = p.memory_len; counts_len = (p.counts_len.0, omega (arith, c.from.ensures, few)); in_bounds = p.in_bounds }

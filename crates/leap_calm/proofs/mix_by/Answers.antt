use native.Mathlib.Omega.{arith}
use Rattle.leap_calm.proofs.LevelLaws.{summed_most, summed_alone}
use Rattle.leap_calm.proofs.mix_by.Goals as goal

-- A and B are the level
pub returns : goal.returns
returns c =
    let a = c.args in
    rw (c.squares-a.ensures, c.mix_by-b.ensures) (summed_alone a.sum a.t a.others)

pub overflow_add-result : goal.overflow_add-result
overflow_add-result c =
    let a = c.args in
    omega (arith, returns c, summed_most a.sum a.t a.others)

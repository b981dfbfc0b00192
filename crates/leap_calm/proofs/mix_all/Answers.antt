use native.Mathlib.Omega.{arith}
use Rattle.chip_mixer.specs.Parts.{triangle_weight, others_weight}
use Rattle.leap_calm.proofs.LevelLaws.{summed_most, summed_all}
use Rattle.leap_calm.proofs.mix_all.Goals as goal

-- A and B are the level
pub returns : goal.returns
returns c =
    let a = c.args in
    rw (c.squares-a.ensures, c.mix-b.ensures) (summed_all a.sum a.t a.n a.d)

pub overflow_add-result : goal.overflow_add-result
overflow_add-result c =
    let a = c.args in
    omega (arith, returns c, summed_most a.sum (triangle_weight a.t) (others_weight a.n a.d))

use native.Mathlib.Omega.{arith}
use Rattle.chip_mixer.specs.Parts.{triangle_weight, others_weight}
use Rattle.chip_triangle.specs.Triangle.{triangle_at}
use Rattle.leap_calm.proofs.LevelLaws.{summed_most, summed_calm}
use Rattle.leap_calm.proofs.mix.Goals as goal

-- A and B are the level
pub returns : goal.returns
returns c =
    let a = c.args in
    rw (c.squares-a.ensures, c.rest_entry-b.ensures) (summed_calm a.sum a.position a.n)

pub overflow_add-result : goal.overflow_add-result
overflow_add-result c =
    let a = c.args in
    omega (arith, returns c, summed_most a.sum (triangle_weight (triangle_at a.position)) (others_weight a.n 0))

use Prim.Native.Nat.{◌%◌, ◌+◌, ◌≤◌}
use native.Mathlib.Omega.{arith}
use Rattle.chip_mixer.specs.Parts.{mixed_by}
use Rattle.chip_mixer.proofs.LevelLaws.{squares_most}
use Rattle.chip_mixer.proofs.PartsLaws.{rest_by_most}
use Rattle.chip_mixer.proofs.mix_by.Goals as goal

most : (c : goal.After-rest-r) → c.squares-s.result + c.rest-r.result ≤ 60828
most c =
    let a = c.args in
    omega (arith, c.squares-s.ensures, c.rest-r.ensures, squares_most (a.a % 16 + a.b % 16) (omega arith), rest_by_most (a.t + a.others % 17179869184))

pub overflow_add-result : goal.overflow_add-result
overflow_add-result c = omega (arith, most c)

pub overflow_cast-result : goal.overflow_cast-result
overflow_cast-result c = omega (arith, most c)

pub returns : goal.returns
unfolding mixed_by
returns c = rw (c.squares-s.ensures, c.rest-r.ensures)

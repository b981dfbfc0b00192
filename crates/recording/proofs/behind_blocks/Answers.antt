use native.Mathlib.Omega.{arith}
use Rattle.text.proofs.KeyLaws.{take_rest}
use Rattle.recording.proofs.FileLaws.{blocks_within}
use Rattle.recording.proofs.behind_blocks.Goals as goal

pub overflow_add-result : goal.overflow_add-result
overflow_add-result c =
    let e = rw (take_rest c.args.p c.args.b.now) at c.front_end.ensures in
    omega (arith, e, blocks_within c.args.b.now c.args.p c.requires)

pub returns : goal.returns
returns c =
    let a = c.args in
    rw (c.front_end.ensures, take_rest a.p a.b.now)

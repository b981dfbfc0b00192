use native.Mathlib.Omega.{arith}
use Rattle.play_wav.proofs.LentLaws.{step_fits, step_took}
use Rattle.play_wav.proofs.step_on.Goals as goal

pub taken_by-requires : goal.taken_by-requires
taken_by-requires c =
    let a = c.args in
    let s = c.step-s in
    let f = step_fits a.log.now a.memory.now a.rate a.t a.out.now _ c.requires s.result s.ensures.value s.ensures.out_after s.auto.out in
    omega (arith, f, c.well_formed.1.1.1.1.0.0)

pub returns : goal.returns
returns c =
    let a = c.args in
    let s = c.step-s in
    step_took a.log.now a.memory.now a.rate a.t a.out.now _ c.requires s.result s.ensures.value s.ensures.out_after s.auto.out c.taken_by.result
    c.taken_by.ensures

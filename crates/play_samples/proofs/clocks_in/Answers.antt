use Prim.Native.Nat.{◌-◌}
use mathlib.Core.Path.{◌∙◌}
use native.Mathlib.Omega.{arith}
use Rattle.play_samples.specs.Stepping.{sampler_at, clocks_in}
use Rattle.play_samples.proofs.RoomLaws.{fit_few, clocks_few}
use Rattle.play_samples.proofs.clocks_in.Goals as goal

pub overflow_add-p : goal.overflow_add-p
overflow_add-p c =
    let a = c.args in
    let f = fit_few a.p.moment.state.pal a.rate (sampler_at a.p) a.p.left c.requires in
    omega (arith, f, c.min-few.ensures)

pub clocks_before-end-requires : goal.clocks_before-end-requires
clocks_before-end-requires c =
    let a = c.args in
    let f = fit_few a.p.moment.state.pal a.rate (sampler_at a.p) a.p.left c.requires in
    (rw c.from.ensures c.requires.right, omega (arith, f, c.min-few.ensures))

pub returns : goal.returns
unfolding clocks_in
returns c =
    let a = c.args in
    c.min.ensures
    ∙ (rw (c.reach.ensures, c.from-2.ensures, c.clocks_before-end.ensures, c.from.ensures, c.min-few.ensures)
    (clocks_few a.p.moment.state.pal a.rate (sampler_at a.p) a.p.left a.room c.requires))

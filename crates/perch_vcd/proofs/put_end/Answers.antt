use native.Mathlib.Omega.{arith}
use borrow.Author.Tests.{eq-eqb, ne_eqb}
use Rattle.perch_vcd.specs.Text.{time_on}
use Rattle.perch_vcd.proofs.Sizes.{placed_none, printed_none}
use Rattle.perch_vcd.proofs.put_end.Goals as goal

pub returns-then-told-time : goal.returns-then-told-time
unfolding time_on
returns-then-told-time c =
    let a = c.args in rw (eq-eqb a.told a.time c.if-told-time.true) (record { value = placed_none a.out.now a.at; out_after = printed_none a.out.now a.at })

pub returns : goal.returns
unfolding time_on
returns c = let a = c.args in rw (ne_eqb a.told a.time c.if-told-time.false) (record { value = c.put_time.ensures.value; out_after = c.put_time.ensures.out_after })

pub shape_of-out : goal.shape_of-out
shape_of-out c = omega (arith, c.out-1.given)

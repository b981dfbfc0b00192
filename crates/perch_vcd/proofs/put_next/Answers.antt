use native.Mathlib.Omega.{arith}
use Rattle.perch_vcd.specs.Text.{next_text}
use Rattle.perch_vcd.proofs.Sizes.{placed_none, printed_none}
use Rattle.perch_vcd.proofs.put_next.Goals as goal

pub returns-in-Over : goal.returns-in-Over
unfolding next_text
returns-in-Over c = rw c.in-Over.is (record { value = c.put_end.ensures.value; out_after = c.put_end.ensures.out_after })

pub returns-in-Moved : goal.returns-in-Moved
unfolding next_text
returns-in-Moved c =
    let a = c.args in rw c.in-Moved.is (record { value = placed_none a.out.now a.at; out_after = printed_none a.out.now a.at })

pub returns-in-Shown : goal.returns-in-Shown
unfolding next_text
returns-in-Shown c = rw c.in-Shown.is (record { value = c.put_event.ensures.value; out_after = c.put_event.ensures.out_after })

pub returns-in-Refused : goal.returns-in-Refused
unfolding next_text
returns-in-Refused c = rw c.in-Refused.is (record { value = c.refused_line.ensures.value; out_after = c.refused_line.ensures.out_after })

pub shape_of-out-in-Over : goal.shape_of-out-in-Over
shape_of-out-in-Over c = omega (arith, c.out-1.given)

pub shape_of-out-in-Shown : goal.shape_of-out-in-Shown
shape_of-out-in-Shown c = omega (arith, c.out-in-Shown-1.given)

pub shape_of-out-in-Refused : goal.shape_of-out-in-Refused
shape_of-out-in-Refused c = omega (arith, c.out-in-Refused-1.given)

use Rattle.perch_meter.specs.Text.{next_text}
use Rattle.perch_meter.proofs.Sizes.{placed_none, printed_none}
use Rattle.perch_meter.proofs.put_next.Goals as goal

pub returns-in-Over : goal.returns-in-Over
unfolding next_text
returns-in-Over c =
    let a = c.args in rw c.in-Over.is (record { value = placed_none a.out.now a.at; out_after = printed_none a.out.now a.at })

pub returns-in-Moved : goal.returns-in-Moved
unfolding next_text
returns-in-Moved c =
    let a = c.args in rw c.in-Moved.is (record { value = placed_none a.out.now a.at; out_after = printed_none a.out.now a.at })

pub returns-in-Wait : goal.returns-in-Wait
unfolding next_text
returns-in-Wait c = rw c.in-Wait.is (record { value = c.put_wait.ensures.value; out_after = c.put_wait.ensures.out_after })

pub returns-in-Refused : goal.returns-in-Refused
unfolding next_text
returns-in-Refused c =
    let a = c.args in rw c.in-Refused.is (record { value = placed_none a.out.now a.at; out_after = printed_none a.out.now a.at })

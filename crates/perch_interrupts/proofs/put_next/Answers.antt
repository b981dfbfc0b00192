use Rattle.perch_interrupts.specs.Text.{next_text}
use Rattle.perch_interrupts.proofs.Sizes.{placed_none, printed_none}
use Rattle.perch_interrupts.proofs.put_next.Goals as goal

pub returns-in-Over : goal.returns-in-Over
unfolding next_text
returns-in-Over c = rw c.in-Over.is (record { value = c.keyed_line.ensures.value; out_after = c.keyed_line.ensures.out_after })

pub returns-in-Moved : goal.returns-in-Moved
unfolding next_text
returns-in-Moved c =
    let a = c.args in rw c.in-Moved.is (record { value = placed_none a.out.now a.at; out_after = printed_none a.out.now a.at })

pub returns-in-Changed : goal.returns-in-Changed
unfolding next_text
returns-in-Changed c = rw c.in-Changed.is (record { value = c.put_change.ensures.value; out_after = c.put_change.ensures.out_after })

pub returns-in-Refused : goal.returns-in-Refused
unfolding next_text
returns-in-Refused c = rw c.in-Refused.is (record { value = c.refused_line.ensures.value; out_after = c.refused_line.ensures.out_after })

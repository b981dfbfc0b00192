use native.Mathlib.Omega.{arith}
use Rattle.c_log.proofs.TotalLaws.{place_is}
use Rattle.c_cursor.proofs.found.pack.Goals as goal

pub overflow_cast-act_value : goal.overflow_cast-act_value
overflow_cast-act_value c =
    let within = rw c.in-Act.is at c.requires in
    omega (arith, c.act_value.ensures.1 within)

pub returns-in-Act : goal.returns-in-Act
returns-in-Act c = rw c.in-Act.is (rw (c.pack.ensures, c.act_value.ensures.0))

pub returns-in-Moved : goal.returns-in-Moved
returns-in-Moved c = rw c.in-Moved.is c.pack-in-Moved.ensures

pub returns-in-End : goal.returns-in-End
returns-in-End c = rw c.in-End.is

pub returns-in-Refused : goal.returns-in-Refused
returns-in-Refused c =
    let within = rw c.in-Refused.is at c.requires in
    rw c.in-Refused.is (rw (c.pack-in-Refused.ensures, place_is _ within))

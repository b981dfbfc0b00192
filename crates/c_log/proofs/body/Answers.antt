use native.Mathlib.Omega.{arith}
use Rattle.log_body.proofs.Limits.{body_answer}
use Rattle.c_log.proofs.TotalLaws.{place_is}
use Rattle.c_log.proofs.body.Goals as goal

pub body_value-requires : goal.body_value-requires
body_value-requires c = rw c.body_check-a.ensures

pub overflow_cast-body_value : goal.overflow_cast-body_value
overflow_cast-body_value c = omega (arith, c.body_value.ensures.1)

pub returns : goal.returns
returns c =
    let start = c.args in
    rw (c.pack.ensures, c.body_value.ensures.0, c.body_check-a.ensures, place_is _ (body_answer start.log.now start.offset).1)

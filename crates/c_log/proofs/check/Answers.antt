use native.Mathlib.Omega.{arith}
use Rattle.log_rules.proofs.Limits.{check_limits}
use Rattle.c_log.proofs.TotalLaws.{place_is}
use Rattle.c_log.proofs.check.Goals as goal

pub check_value-requires : goal.check_value-requires
check_value-requires c = rw c.check-c.ensures (check_limits c.args.log.now).clocks

pub overflow_cast-check_value : goal.overflow_cast-check_value
overflow_cast-check_value c = omega (arith, c.check_value.ensures.1)

pub returns : goal.returns
returns c =
    let log = c.args.log.now in
    rw (c.pack.ensures, c.check_value.ensures.0, c.check-c.ensures, place_is _ (check_limits log).place)

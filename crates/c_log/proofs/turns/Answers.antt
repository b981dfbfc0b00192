use native.Mathlib.Omega.{arith}
use Rattle.log_rules.proofs.Limits.{check_limits}
use Rattle.c_log.proofs.TotalLaws.{place_is, counted}
use Rattle.c_log.proofs.turns.Goals as goal

pub overflow_cast-c : goal.overflow_cast-c
overflow_cast-c c =
    let h = counted c.args.log.now in
    rw c.check-c.ensures (omega (arith, h.turns, h.items))

pub returns : goal.returns
returns c =
    let log = c.args.log.now in
    rw (c.pack.ensures, c.check-c.ensures, place_is _ (check_limits log).place)

use native.Mathlib.Omega.{arith}
use mathlib.Core.Path.{sym, ◌∙◌}
use Rattle.log_item.proofs.Limits.{item_waits, item_place_lem}
use Rattle.c_log.proofs.TotalLaws.{place_is}
use Rattle.c_log.proofs.item.Goals as goal

pub overflow_cast-act_value : goal.overflow_cast-act_value
overflow_cast-act_value c =
    let waits = item_waits c.args.log.now c.args.k _ (sym c.item.ensures.value ∙ c.in-Ok.is) in
    omega (arith, c.act_value.ensures.1 waits)

pub returns-in-Ok : goal.returns-in-Ok
returns-in-Ok c =
    rw (← c.item.ensures.value, c.in-Ok.is, c.pack.ensures, c.act_value.ensures.0)

pub returns-in-Err : goal.returns-in-Err
returns-in-Err c =
    let item = c.item.ensures.value in
    let found = c.in-Err.is in
    rw (← item, found, c.pack-in-Err.ensures, place_is _ (item_place_lem c.args.log.now c.args.k c.in-Err.e.number c.in-Err.e.place (sym item ∙ found)))

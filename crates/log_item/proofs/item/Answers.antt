use Rattle.log_item.proofs.Listed.{item_numbers, item_refused, item_past, item_at, item_asks}
use Rattle.log_item.proofs.item.Goals as goal

pub returns-then-c-ne0 : goal.returns-then-c-ne0
returns-then-c-ne0 c =
    let log = c.args.log.now in
    let k = c.args.k in
    let e = c.check-c.ensures in let pair = item_numbers log k _ (rw e (item_refused log k (rw e at c.if-c-ne0.true))) in record { value = pair.0; result_value = pair.1.0; result_value_2 = pair.1.1.0; result_value_3 = pair.1.1.1 }

pub returns-then-c-k : goal.returns-then-c-k
returns-then-c-k c =
    let log = c.args.log.now in
    let k = c.args.k in
    let e = c.check-c.ensures in let pair = item_numbers log k _ (item_past log k (rw e at c.if-c-ne0.false) (rw e at c.if-c-k.true)) in record { value = pair.0; result_value = pair.1.0; result_value_2 = pair.1.1.0; result_value_3 = pair.1.1.1 }

pub find-requires : goal.find-requires
find-requires c =
    let log = c.args.log.now in
    let k = c.args.k in
    let e = c.check-c.ensures in
    rw c.start.ensures (item_asks log k (rw e at c.if-c-ne0.false) (rw e at c.if-c-k.false))

pub returns : goal.returns
returns c =
    let log = c.args.log.now in
    let k = c.args.k in
    let e = c.check-c.ensures in let pair = item_numbers log k _
    (rw (c.find.ensures, c.start.ensures)
    (item_at log k (rw e at c.if-c-ne0.false) (rw e at c.if-c-k.false))) in record { value = pair.0; result_value = pair.1.0; result_value_2 = pair.1.1.0; result_value_3 = pair.1.1.1 }

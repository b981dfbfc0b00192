use Rattle.text_lines.proofs.Pieces.{front}
use Rattle.perch_dwell.proofs.Sizes.{dwell_size}
use Rattle.perch_dwell.proofs.answer.Goals as goal

pub slice_bounds-text-end : goal.slice_bounds-text-end
slice_bounds-text-end c =
    let a = c.args in
    (front _ (dwell_size a.log.now a.memory.now) c.whole-n.ensures).0

pub slice_bounds-fixed-end : goal.slice_bounds-fixed-end
slice_bounds-fixed-end c =
    let a = c.args in
    (front _ (dwell_size a.log.now a.memory.now) c.whole-n.ensures).1

pub returns : goal.returns
returns c =
    let a = c.args in
    let f = (front _ (dwell_size a.log.now a.memory.now) c.whole-n.ensures).2 in record { value = rw f at c.fixed.ensures.value; out_after = rw f at c.fixed.ensures.out_after }

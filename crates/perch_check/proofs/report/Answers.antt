use Rattle.text_lines.proofs.Pieces.{front}
use Rattle.perch_check.proofs.Sizes.{check_size}
use Rattle.perch_check.proofs.report.Goals as goal

pub slice_bounds-text-end : goal.slice_bounds-text-end
slice_bounds-text-end c = let a = c.args in (front _ (check_size a.log.now) c.whole-n.ensures).0

pub slice_bounds-fixed-end : goal.slice_bounds-fixed-end
slice_bounds-fixed-end c = let a = c.args in (front _ (check_size a.log.now) c.whole-n.ensures).1

pub returns : goal.returns
returns c = let a = c.args in record { value = rw (front _ (check_size a.log.now) c.whole-n.ensures).2 at c.fixed.ensures.value; out_after = rw (front _ (check_size a.log.now) c.whole-n.ensures).2 at c.fixed.ensures.out_after }

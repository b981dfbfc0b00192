use Rattle.text_lines.proofs.Pieces.{front}
use Rattle.perch_interrupts.proofs.Sizes.{change_size}
use Rattle.perch_interrupts.proofs.put_change.Goals as goal

pub slice_bounds-text-end : goal.slice_bounds-text-end
slice_bounds-text-end c =
    let a = c.args in
    (front _ (change_size a.c) c.change_lines-n.ensures).0

pub slice_bounds-fixed-end : goal.slice_bounds-fixed-end
slice_bounds-fixed-end c =
    let a = c.args in
    (front _ (change_size a.c) c.change_lines-n.ensures).1

pub returns : goal.returns
returns c = record { value = rw (front _ (change_size c.args.c) c.change_lines-n.ensures).2 at c.fixed.ensures.value; out_after = rw (front _ (change_size c.args.c) c.change_lines-n.ensures).2 at c.fixed.ensures.out_after }

use Rattle.text_lines.proofs.Pieces.{front}
use Rattle.chip_text.proofs.Sizes.{state_size_lem}
use Rattle.chip_text.proofs.put.Goals as goal

pub slice_bounds-text-end : goal.slice_bounds-text-end
slice_bounds-text-end c =
    let a = c.args in
    (front _ (state_size_lem a.s) c.fields-n.ensures).0

pub slice_bounds-fixed-end : goal.slice_bounds-fixed-end
slice_bounds-fixed-end c =
    let a = c.args in
    (front _ (state_size_lem a.s) c.fields-n.ensures).1

pub returns : goal.returns
returns c = record { value = rw (front _ (state_size_lem c.args.s) c.fields-n.ensures).2 at c.fixed.ensures.value; out_after = rw (front _ (state_size_lem c.args.s) c.fields-n.ensures).2 at c.fixed.ensures.out_after }

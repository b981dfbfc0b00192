use Rattle.text_lines.proofs.Pieces.{front}
use Rattle.text_place.proofs.Sizes.{line_size}
use Rattle.text_place.proofs.shown.shown_line.Goals as goal

pub slice_bounds-text-end : goal.slice_bounds-text-end
slice_bounds-text-end c =
    let a = c.args in
    (front _ (line_size a.log.now a.place) (λ h. c.line_in-n.ensures)).0

pub slice_bounds-fixed-end : goal.slice_bounds-fixed-end
slice_bounds-fixed-end c =
    let a = c.args in
    (front _ (line_size a.log.now a.place) (λ h. c.line_in-n.ensures)).1

pub returns : goal.returns
returns c =
    let a = c.args in record { value = rw (front _ (line_size a.log.now a.place) (λ h. c.line_in-n.ensures)).2 at c.fixed.ensures.value; out_after = rw (front _ (line_size a.log.now a.place) (λ h. c.line_in-n.ensures)).2 at c.fixed.ensures.out_after }

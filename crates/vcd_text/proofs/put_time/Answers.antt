use native.Mathlib.Omega.{arith}
use Rattle.text_lines.proofs.Pieces.{front}
use Rattle.vcd_text.proofs.Sizes.{time_size}
use Rattle.vcd_text.proofs.put_time.Goals as goal

pub slice_bounds-text-end : goal.slice_bounds-text-end
slice_bounds-text-end c =
    let a = c.args in
    (front _ (time_size a.time) c.time_line-n.ensures).0

pub slice_bounds-fixed-end : goal.slice_bounds-fixed-end
slice_bounds-fixed-end c =
    let a = c.args in
    (front _ (time_size a.time) c.time_line-n.ensures).1

pub returns : goal.returns
returns c =
    let a = c.args in record { value = rw (front _ (time_size a.time) c.time_line-n.ensures).2 at c.fixed.ensures.value; out_after = rw (front _ (time_size a.time) c.time_line-n.ensures).2 at c.fixed.ensures.out_after }

pub shape_of-out : goal.shape_of-out
shape_of-out c = omega (arith, c.out-1.given)

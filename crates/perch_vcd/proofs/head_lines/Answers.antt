use native.Mathlib.Omega.{arith}
use Rattle.text_lines.proofs.Pieces.{puts, puts_then}
use Rattle.perch_vcd.specs.Text.{head_text}
use Rattle.perch_vcd.proofs.head_lines.Goals as goal

pub shape_of-out : goal.shape_of-out
shape_of-out c = omega (arith, c.out-5-1.given, c.out-4-1.given, c.out-3-1.given, c.out-2-1.given, c.out-1.given)

pub returns : goal.returns
unfolding head_text
returns c =
    let all =
    puts_then _ _ (puts _ (c.fixed-a.ensures.value, c.fixed-a.ensures.out_after))
    (puts_then _ _ (puts _ (c.fixed-b.ensures.value, c.fixed-b.ensures.out_after))
    (puts_then _ _ (puts _ (c.fixed-c.ensures.value, c.fixed-c.ensures.out_after)) (puts_then _ _ (puts _ (c.fixed-d.ensures.value, c.fixed-d.ensures.out_after)) (puts _ (c.fixed.ensures.value, c.fixed.ensures.out_after)))))
    in
    all

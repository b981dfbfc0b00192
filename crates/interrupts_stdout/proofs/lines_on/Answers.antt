use native.Mathlib.Omega.{arith}
use Rattle.text_print.proofs.PieceLaws.{put_last}
use Rattle.perch_interrupts.specs.Text.{next_text}
use Rattle.perch_interrupts.proofs.Sizes.{next_size}
use Rattle.interrupts_stdout.proofs.lines_on.Goals as goal

pub returns : goal.returns
returns c =
    let a = c.args in
    let w = c.put_next in
    put_last a.out.now a.at (next_text a.n) _ _ (omega (arith, c.requires, next_size a.n)) w.ensures.value w.ensures.out_after

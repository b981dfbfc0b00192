use native.Mathlib.Omega.{arith}
use Rattle.text_print.proofs.PieceLaws.{put_last}
use Rattle.perch_vcd.specs.Text.{next_text}
use Rattle.perch_vcd.proofs.Sizes.{next_size}
use Rattle.vcd_stdout.proofs.lines_on.Goals as goal

pub returns : goal.returns
returns c =
    let a = c.args in
    let w = c.put_next in
    put_last a.out.now a.at (next_text a.told a.n) _ _ (omega (arith, c.requires, next_size a.told a.n)) w.ensures.value w.ensures.out_after

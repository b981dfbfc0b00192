-- The head is no longer than the buffer. Assumes nothing.
use native.Mathlib.Omega.{arith}
use Rattle.perch_vcd.specs.Text.{head_text}
use Rattle.perch_vcd.proofs.Sizes.{head_size}
use Rattle.lines_stdout.proofs.PourLaws.{written}
use Rattle.vcd_stdout.proofs.head.Goals as goal

pub returns : goal.returns
returns c =
    let h = c.head-n in
    written _ _ head_text h.result c.write_front.result (omega (arith, head_size)) h.ensures.value h.ensures.out_after c.write_front.ensures

-- The line of a refusal is no longer than the buffer. Assumes nothing.
use native.Mathlib.Omega.{arith}
use Rattle.text.specs.Ascii.{bytes}
use Rattle.text_lines.specs.Lines.{refused_line}
use Rattle.text_lines.proofs.Sizes.{pair_size}
use Rattle.lines_stdout.proofs.PourLaws.{written}
use Rattle.lines_stdout.proofs.refused.Goals as goal

pub returns : goal.returns
returns c =
    let a = c.args in
    let t = c.refused_line-n in
    let size = pair_size (bytes "refused=") a.number a.place in
    written _ _ (refused_line a.number a.place) t.result c.write_front.result (omega (arith, size)) t.ensures.value t.ensures.out_after c.write_front.ensures

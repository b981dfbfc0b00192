use mathlib.Core.Path.{refl, ◌∙◌}
use Prim.Native.Nat.{◌+◌, ◌<◌}
use native.Mathlib.Omega.{arith}
use lib.ListN.{length}
use Rattle.log_line.specs.Printed.{line_text}
use Rattle.text_print.proofs.StoreLaws.{written, kept}
use Rattle.log_writer.proofs.put_line.Goals as goal
use Rattle.log_writer.proofs.put_line.Goals.{else-at-size-via-then-at-size+else-line_length-size, else-at-size-via-else-at-size}

pub returns-else-at-size : goal.returns-else-at-size
returns-else-at-size c =
    let a = c.args in
    let t = line_text a.l in
    let far : length a.out.now < a.at + length t =
    elim c.else-at-size.branch [
      | else-at-size-via-then-at-size+else-line_length-size w ↦ omega (arith, w.line_length.ensures.0)
      | else-at-size-via-else-at-size w ↦ omega arith
    ] in
    let pair = kept a.out.now a.at t (length t) refl far in
    record { value = pair.0; out_after = pair.1 }

pub returns-then-line_length-size : goal.returns-then-line_length-size
returns-then-line_length-size c =
    let a = c.args in
    let t = line_text a.l in
    let n = c.line_length.ensures.0 in
    let p = c.any_line.ensures in
    let w = written a.out.now a.at t (length t) refl (omega (arith, n)) c.any_line.new.out p.bytes in
    record { value = p.place ∙ w.0; out_after = w.1 }

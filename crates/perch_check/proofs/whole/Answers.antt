-- Passed or refused, the text is `check=1` and a rest (`text_passed`, `text_refused`), joined by `puts_then`. Assumes nothing.
use mathlib.Core.Path.{sym}
use Rattle.text.specs.Ascii.{bytes}
use Rattle.text_lines.proofs.Pieces.{puts, puts_then}
use Rattle.perch_check.proofs.Sizes.{text_passed, text_refused}
use Rattle.perch_check.proofs.whole.Goals as goal

pub returns-then-c-eq0 : goal.returns-then-c-eq0
returns-then-c-eq0 c =
    let k = c.check-c in
    rw (text_passed _ k.result (sym k.ensures) c.if-c-eq0.true) (puts_then (bytes "check=1\n") _ (puts _ (c.fixed-a.ensures.value, c.fixed-a.ensures.out_after)) c.passed.ensures)

pub returns : goal.returns
returns c =
    let k = c.check-c in
    rw (text_refused _ k.result (sym k.ensures) c.if-c-eq0.false)
    (puts_then (bytes "check=1\n") _ (puts _ (c.fixed-a.ensures.value, c.fixed-a.ensures.out_after)) c.failed.ensures)

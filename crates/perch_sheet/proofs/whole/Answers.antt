-- Drawn or refused, the text is a first line and a rest (`text_drawn`, `text_refused`), joined by `puts_then`. Assumes nothing.
use mathlib.Core.Path.{refl}
use native.Mathlib.Omega.{arith}
use Rattle.text.specs.Ascii.{bytes}
use Rattle.text_lines.proofs.Pieces.{puts, puts_then}
use Rattle.perch_sheet.proofs.Texts.{text_refused, text_drawn, levels_taken, length_most, address_most}
use Rattle.perch_sheet.proofs.whole.Goals as goal

pub overflow_cast-address : goal.overflow_cast-address
overflow_cast-address c =
    let a = c.args in
    let w = c.sheet-w in
    omega (arith, address_most a.memory.now a.level a.address a.size _ refl w.result w.ensures.value c.if-w-eq0.true)

pub slice_bounds-levels-end : goal.slice_bounds-levels-end
slice_bounds-levels-end c =
    let a = c.args in
    let w = c.sheet-w in
    omega (arith, length_most a.memory.now a.level a.address a.size _ refl w.result w.ensures.value c.if-w-eq0.true)

pub slice_bounds-level_lines-end : goal.slice_bounds-level_lines-end
slice_bounds-level_lines-end c =
    let a = c.args in
    let w = c.sheet-w in
    levels_taken a.memory.now a.level a.address a.size _ refl w.result w.ensures.value c.if-w-eq0.true w.new.buffer w.ensures.buffer_after

pub returns-then-w-eq0 : goal.returns-then-w-eq0
returns-then-w-eq0 c =
    let w = c.sheet-w in
    let a = c.args in
    rw (text_drawn a.memory.now a.level a.address a.size _ refl w.result w.ensures.value c.if-w-eq0.true w.new.buffer w.ensures.buffer_after)
    (puts_then (bytes "sheet=1\n") _ (puts _ (c.fixed-a.ensures.value, c.fixed-a.ensures.out_after)) c.level_lines.ensures)

pub returns : goal.returns
returns c =
    let w = c.sheet-w in
    let a = c.args in
    rw (text_refused a.memory.now a.level a.address a.size _ refl w.result w.ensures.value c.if-w-eq0.false)
    (puts_then (bytes "sheet=1\n") _ (puts _ (c.fixed-a.ensures.value, c.fixed-a.ensures.out_after)) (puts _ (rw c.from.ensures at c.keyed_line.ensures.value, rw c.from.ensures at c.keyed_line.ensures.out_after)))

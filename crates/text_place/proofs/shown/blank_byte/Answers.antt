use mathlib.Core.Path.{sym, ◌∙◌}
use Rattle.text.specs.Ascii.{bytes}
use Rattle.text_print.proofs.PieceLaws.{put_last}
use Rattle.text_place.proofs.Spelled.{blank_one, blank_four}
use Rattle.text_place.proofs.shown.blank_byte.Goals as goal

pub returns-then-visible : goal.returns-then-visible
returns-then-visible c =
    let a = c.args in
    let e = blank_one a.c (sym c.visible.ensures ∙ c.if-visible.true) in
    let q = put_last a.out.now a.at (bytes " ") _ _ (rw e at c.requires) c.fixed.ensures.value c.fixed.ensures.out_after in rw e (record { value = q.place; out_after = q.bytes })

pub returns : goal.returns
returns c =
    let a = c.args in
    let e = blank_four a.c (sym c.visible.ensures ∙ c.if-visible.false) in
    let q = put_last a.out.now a.at (bytes "    ") _ _ (rw e at c.requires) c.fixed-2.ensures.value c.fixed-2.ensures.out_after in rw e (record { value = q.place; out_after = q.bytes })

-- A byte shown as itself is one text, an escaped one two, joined by `put_more`. Assumes nothing.
use mathlib.Core.Path.{sym, ◌∙◌}
use mathlib.Core.List.{[], ◌∷◌}
use Rattle.text.specs.Ascii.{bytes}
use Rattle.text.specs.Hex.{hex_text}
use Rattle.text_print.proofs.PieceLaws.{put_last, put_more}
use Rattle.text_place.proofs.Spelled.{shown_itself, shown_escaped}
use Rattle.text_place.proofs.shown.shown_byte.Goals as goal

pub returns-then-visible : goal.returns-then-visible
returns-then-visible c =
    let a = c.args in
    let e = shown_itself a.c (sym c.visible.ensures ∙ c.if-visible.true) in
    let q = put_last a.out.now a.at (a.c ∷ []) _ _ (rw e at c.requires) c.fixed.ensures.value c.fixed.ensures.out_after in rw e (record { value = q.place; out_after = q.bytes })

pub returns : goal.returns
returns c =
    let a = c.args in
    let e = shown_escaped a.c (sym c.visible.ensures ∙ c.if-visible.false) in
    let q =
    put_more a.out.now a.at (bytes "\\x") (hex_text 2 a.c) _ _ _ _ (rw e at c.requires) c.fixed-a.ensures.value c.fixed-a.ensures.out_after
    (λ h. put_last _ _ (hex_text 2 a.c) _ _ h c.hex.ensures.value c.hex.ensures.out_after) in rw e (record { value = q.place; out_after = q.bytes })

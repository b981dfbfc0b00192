-- The shown bytes and a line feed, joined by `puts_then`; the room is `line_size`. Assumes nothing.
use mathlib.Core.Path.{◌≡◌, ap, ◌∙◌}
use native.Mathlib.Omega.{arith}
use lib.ListN.{take, length-append}
use Rattle.text.specs.Ascii.{bytes}
use Rattle.text_lines.proofs.Pieces.{puts, puts_then}
use Rattle.text_place.specs.Place.{line_at}
use Rattle.text_place.specs.Shown.{shown, shown_line}
use Rattle.text_place.proofs.Sizes.{line_size}
use Rattle.text_place.proofs.shown.line_in.Goals as goal

pub shown-a-requires : goal.shown-a-requires
unfolding shown_line
shown-a-requires c =
    let a = c.args in
    let t = shown (take 60 (line_at a.log.now a.place)) in
    let e : shown c.first.result.now ≡ t = ap shown (c.first.ensures ∙ ap (take 60) c.line_at.ensures) in
    rw e (omega (arith, length-append t (bytes "\n"), line_size a.log.now a.place, c.requires))

pub returns : goal.returns
unfolding shown_line
returns c =
    let a = c.args in
    let t = shown (take 60 (line_at a.log.now a.place)) in
    let e : shown c.first.result.now ≡ t = ap shown (c.first.ensures ∙ ap (take 60) c.line_at.ensures) in
    let w = c.shown-a.ensures in
    puts_then t (bytes "\n") (λ h. record { place = rw e at w.value; bytes = rw e at w.out_after }) (puts _ (c.fixed.ensures.value, c.fixed.ensures.out_after))
    (omega (arith, line_size a.log.now a.place, c.requires))

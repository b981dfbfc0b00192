-- The blanks and the mark, joined by `puts_then`; the room is `mark_size`. Assumes nothing.
use mathlib.Core.Path.{◌≡◌, ap, ◌∙◌}
use native.Mathlib.Omega.{arith}
use lib.ListN.{take, length-append}
use Rattle.text.specs.Ascii.{bytes}
use Rattle.text_lines.proofs.Pieces.{puts, puts_then}
use Rattle.text_place.specs.Place.{front_at}
use Rattle.text_place.specs.Shown.{blank, mark_line}
use Rattle.text_place.proofs.Sizes.{mark_size}
use Rattle.text_place.proofs.shown.mark_in.Goals as goal

pub blank-a-requires : goal.blank-a-requires
unfolding mark_line
blank-a-requires c =
    let a = c.args in
    let t = blank (take 60 (front_at a.log.now a.place)) in
    let e : blank c.first.result.now ≡ t = ap blank (c.first.ensures ∙ ap (take 60) c.front_at.ensures) in
    rw e (omega (arith, length-append t (bytes "^\n"), mark_size a.log.now a.place, c.requires))

pub returns : goal.returns
unfolding mark_line
returns c =
    let a = c.args in
    let t = blank (take 60 (front_at a.log.now a.place)) in
    let e : blank c.first.result.now ≡ t = ap blank (c.first.ensures ∙ ap (take 60) c.front_at.ensures) in
    let w = c.blank-a.ensures in
    puts_then t (bytes "^\n") (λ h. record { place = rw e at w.value; bytes = rw e at w.out_after }) (puts _ (c.fixed.ensures.value, c.fixed.ensures.out_after))
    (omega (arith, mark_size a.log.now a.place, c.requires))

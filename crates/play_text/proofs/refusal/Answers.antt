use mathlib.Core.Path.{sym, ap, ◌∙◌}
use lib.ListN.{length, take}
use Rattle.text_print.specs.Printed.{printed, placed}
use Rattle.play_text.proofs.TextLaws.{refusal_taken}
use Rattle.play_text.proofs.refusal.Goals as goal

pub slice_bounds-fixed-end : goal.slice_bounds-fixed-end
slice_bounds-fixed-end c =
    let a = c.args in
    let r = c.refusal_lines-n in
    r.ensures.value.0 ∙ sym (ap length (ap (take r.result) r.ensures.out_after ∙ refusal_taken _ a.number a.place r.result r.ensures.value.0 r.ensures.value.1))

pub returns : goal.returns
returns c =
    let a = c.args in
    let r = c.refusal_lines-n in
    let f = c.fixed in
    let e = ap (take r.result) r.ensures.out_after ∙ refusal_taken _ a.number a.place r.result r.ensures.value.0 r.ensures.value.1 in record { value = f.ensures.value ∙ ap (placed a.out.now 0) e; out_after = f.ensures.out_after ∙ ap (printed a.out.now 0) e }

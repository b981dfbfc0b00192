use mathlib.Core.Path.{sym, ap, ◌∙◌}
use Rattle.text_print.specs.Printed.{placed, printed}
use Rattle.perch_reasons.proofs.Others.{above}
use Rattle.perch_reasons.specs.Reasons.{reason_text}
use Rattle.perch_reasons.proofs.last.Goals as goal

pub returns-in-32 : goal.returns-in-32
unfolding reason_text
returns-in-32 c = rw c.in-32.is (record { value = c.fixed.ensures.value; out_after = c.fixed.ensures.out_after })

pub returns-in-33 : goal.returns-in-33
unfolding reason_text
returns-in-33 c = rw c.in-33.is (record { value = c.fixed-in-33.ensures.value; out_after = c.fixed-in-33.ensures.out_after })

pub returns-in-34 : goal.returns-in-34
unfolding reason_text
returns-in-34 c = rw c.in-34.is (record { value = c.fixed-in-34.ensures.value; out_after = c.fixed-in-34.ensures.out_after })

pub returns-in-35 : goal.returns-in-35
unfolding reason_text
returns-in-35 c = rw c.in-35.is (record { value = c.fixed-in-35.ensures.value; out_after = c.fixed-in-35.ensures.out_after })

pub returns-in-36 : goal.returns-in-36
unfolding reason_text
returns-in-36 c = rw c.in-36.is (record { value = c.fixed-in-36.ensures.value; out_after = c.fixed-in-36.ensures.out_after })

pub returns-in_default : goal.returns-in_default
returns-in_default c =
    let r = c.in_default.in_default-own.rest in
    let w = c.fixed-in_default.ensures in
    let e = above c.args.number c.requires r.0.0.0.0.1 r.0.0.0.1 r.0.0.1 r.0.1 r.1 in record { value = w.value ∙ ap (placed c.args.out.now c.args.at) (sym e); out_after = w.out_after ∙ ap (printed c.args.out.now c.args.at) (sym e) }

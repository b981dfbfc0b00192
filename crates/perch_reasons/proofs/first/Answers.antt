use mathlib.Core.Path.{sym, ap, ◌∙◌}
use Rattle.text_print.specs.Printed.{placed, printed}
use Rattle.perch_reasons.proofs.Others.{below}
use Rattle.perch_reasons.specs.Reasons.{reason_text}
use Rattle.perch_reasons.proofs.first.Goals as goal

pub returns-in-1 : goal.returns-in-1
unfolding reason_text
returns-in-1 c = rw c.in-1.is (record { value = c.fixed.ensures.value; out_after = c.fixed.ensures.out_after })

pub returns-in-2 : goal.returns-in-2
unfolding reason_text
returns-in-2 c = rw c.in-2.is (record { value = c.fixed-in-2.ensures.value; out_after = c.fixed-in-2.ensures.out_after })

pub returns-in-3 : goal.returns-in-3
unfolding reason_text
returns-in-3 c = rw c.in-3.is (record { value = c.fixed-in-3.ensures.value; out_after = c.fixed-in-3.ensures.out_after })

pub returns-in-4 : goal.returns-in-4
unfolding reason_text
returns-in-4 c = rw c.in-4.is (record { value = c.fixed-in-4.ensures.value; out_after = c.fixed-in-4.ensures.out_after })

pub returns-in-5 : goal.returns-in-5
unfolding reason_text
returns-in-5 c = rw c.in-5.is (record { value = c.fixed-in-5.ensures.value; out_after = c.fixed-in-5.ensures.out_after })

pub returns-in-7 : goal.returns-in-7
unfolding reason_text
returns-in-7 c = rw c.in-7.is (record { value = c.fixed-in-7.ensures.value; out_after = c.fixed-in-7.ensures.out_after })

pub returns-in_default : goal.returns-in_default
returns-in_default c =
    let r = c.in_default.in_default-own.rest in
    let w = c.fixed-in_default.ensures in
    let e = below c.args.number c.requires r.0.0.0.0.0.1 r.0.0.0.0.1 r.0.0.0.1 r.0.0.1 r.0.1 r.1 in record { value = w.value ∙ ap (placed c.args.out.now c.args.at) (sym e); out_after = w.out_after ∙ ap (printed c.args.out.now c.args.at) (sym e) }

use mathlib.Core.Path.{◌≡◌}
use Rattle.perch_reasons.proofs.Others.{next, only}
use Rattle.perch_reasons.specs.Reasons.{reason_text}
use Rattle.perch_reasons.proofs.fourth.Goals as goal

pub returns-in-24 : goal.returns-in-24
unfolding reason_text
returns-in-24 c = rw c.in-24.is (record { value = c.fixed.ensures.value; out_after = c.fixed.ensures.out_after })

pub returns-in-25 : goal.returns-in-25
unfolding reason_text
returns-in-25 c = rw c.in-25.is (record { value = c.fixed-in-25.ensures.value; out_after = c.fixed-in-25.ensures.out_after })

pub returns-in-26 : goal.returns-in-26
unfolding reason_text
returns-in-26 c = rw c.in-26.is (record { value = c.fixed-in-26.ensures.value; out_after = c.fixed-in-26.ensures.out_after })

pub returns-in-27 : goal.returns-in-27
unfolding reason_text
returns-in-27 c = rw c.in-27.is (record { value = c.fixed-in-27.ensures.value; out_after = c.fixed-in-27.ensures.out_after })

pub returns-in-28 : goal.returns-in-28
unfolding reason_text
returns-in-28 c = rw c.in-28.is (record { value = c.fixed-in-28.ensures.value; out_after = c.fixed-in-28.ensures.out_after })

pub returns-in-29 : goal.returns-in-29
unfolding reason_text
returns-in-29 c = rw c.in-29.is (record { value = c.fixed-in-29.ensures.value; out_after = c.fixed-in-29.ensures.out_after })

pub returns-in-30 : goal.returns-in-30
unfolding reason_text
returns-in-30 c = rw c.in-30.is (record { value = c.fixed-in-30.ensures.value; out_after = c.fixed-in-30.ensures.out_after })

pub returns-in_default : goal.returns-in_default
unfolding reason_text
returns-in_default c =
    let r = c.in_default.in_default-own.rest in
    let n = c.args.number in
    let least = next 24 n c.requires.0 r.0.0.0.0.0.0.1 in
    let least = next 25 n least r.0.0.0.0.0.1 in
    let least = next 26 n least r.0.0.0.0.1 in
    let least = next 27 n least r.0.0.0.1 in
    let least = next 28 n least r.0.0.1 in
    let least = next 29 n least r.0.1 in
    let least = next 30 n least r.1 in
    let e : n ≡ 31 = only 31 n least c.requires.1 in rw e (record { value = c.fixed-in_default.ensures.value; out_after = c.fixed-in_default.ensures.out_after })

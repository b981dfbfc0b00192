use mathlib.Core.Path.{◌≡◌}
use Rattle.perch_reasons.proofs.Others.{next, only}
use Rattle.perch_reasons.specs.Reasons.{reason_text}
use Rattle.perch_reasons.proofs.third.Goals as goal

pub returns-in-16 : goal.returns-in-16
unfolding reason_text
returns-in-16 c = rw c.in-16.is (record { value = c.fixed.ensures.value; out_after = c.fixed.ensures.out_after })

pub returns-in-17 : goal.returns-in-17
unfolding reason_text
returns-in-17 c = rw c.in-17.is (record { value = c.fixed-in-17.ensures.value; out_after = c.fixed-in-17.ensures.out_after })

pub returns-in-18 : goal.returns-in-18
unfolding reason_text
returns-in-18 c = rw c.in-18.is (record { value = c.fixed-in-18.ensures.value; out_after = c.fixed-in-18.ensures.out_after })

pub returns-in-19 : goal.returns-in-19
unfolding reason_text
returns-in-19 c = rw c.in-19.is (record { value = c.fixed-in-19.ensures.value; out_after = c.fixed-in-19.ensures.out_after })

pub returns-in-20 : goal.returns-in-20
unfolding reason_text
returns-in-20 c = rw c.in-20.is (record { value = c.fixed-in-20.ensures.value; out_after = c.fixed-in-20.ensures.out_after })

pub returns-in-21 : goal.returns-in-21
unfolding reason_text
returns-in-21 c = rw c.in-21.is (record { value = c.fixed-in-21.ensures.value; out_after = c.fixed-in-21.ensures.out_after })

pub returns-in-22 : goal.returns-in-22
unfolding reason_text
returns-in-22 c = rw c.in-22.is (record { value = c.fixed-in-22.ensures.value; out_after = c.fixed-in-22.ensures.out_after })

pub returns-in_default : goal.returns-in_default
unfolding reason_text
returns-in_default c =
    let r = c.in_default.in_default-own.rest in
    let n = c.args.number in
    let least = next 16 n c.requires.0 r.0.0.0.0.0.0.1 in
    let least = next 17 n least r.0.0.0.0.0.1 in
    let least = next 18 n least r.0.0.0.0.1 in
    let least = next 19 n least r.0.0.0.1 in
    let least = next 20 n least r.0.0.1 in
    let least = next 21 n least r.0.1 in
    let least = next 22 n least r.1 in
    let e : n ≡ 23 = only 23 n least c.requires.1 in rw e (record { value = c.fixed-in_default.ensures.value; out_after = c.fixed-in_default.ensures.out_after })

use mathlib.Core.Path.{◌≡◌}
use Rattle.perch_reasons.proofs.Others.{next, only}
use Rattle.perch_reasons.specs.Reasons.{reason_text}
use Rattle.perch_reasons.proofs.second.Goals as goal

pub returns-in-8 : goal.returns-in-8
unfolding reason_text
returns-in-8 c = rw c.in-8.is (record { value = c.fixed.ensures.value; out_after = c.fixed.ensures.out_after })

pub returns-in-9 : goal.returns-in-9
unfolding reason_text
returns-in-9 c = rw c.in-9.is (record { value = c.fixed-in-9.ensures.value; out_after = c.fixed-in-9.ensures.out_after })

pub returns-in-10 : goal.returns-in-10
unfolding reason_text
returns-in-10 c = rw c.in-10.is (record { value = c.fixed-in-10.ensures.value; out_after = c.fixed-in-10.ensures.out_after })

pub returns-in-11 : goal.returns-in-11
unfolding reason_text
returns-in-11 c = rw c.in-11.is (record { value = c.fixed-in-11.ensures.value; out_after = c.fixed-in-11.ensures.out_after })

pub returns-in-12 : goal.returns-in-12
unfolding reason_text
returns-in-12 c = rw c.in-12.is (record { value = c.fixed-in-12.ensures.value; out_after = c.fixed-in-12.ensures.out_after })

pub returns-in-13 : goal.returns-in-13
unfolding reason_text
returns-in-13 c = rw c.in-13.is (record { value = c.fixed-in-13.ensures.value; out_after = c.fixed-in-13.ensures.out_after })

pub returns-in-14 : goal.returns-in-14
unfolding reason_text
returns-in-14 c = rw c.in-14.is (record { value = c.fixed-in-14.ensures.value; out_after = c.fixed-in-14.ensures.out_after })

pub returns-in_default : goal.returns-in_default
unfolding reason_text
returns-in_default c =
    let r = c.in_default.in_default-own.rest in
    let n = c.args.number in
    let least = next 8 n c.requires.0 r.0.0.0.0.0.0.1 in
    let least = next 9 n least r.0.0.0.0.0.1 in
    let least = next 10 n least r.0.0.0.0.1 in
    let least = next 11 n least r.0.0.0.1 in
    let least = next 12 n least r.0.0.1 in
    let least = next 13 n least r.0.1 in
    let least = next 14 n least r.1 in
    let e : n ≡ 15 = only 15 n least c.requires.1 in rw e (record { value = c.fixed-in_default.ensures.value; out_after = c.fixed-in_default.ensures.out_after })

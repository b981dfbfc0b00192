use mathlib.Core.Path.{◌≡◌, sym, ap, ◌∙◌}
use mathlib.Core.Bool.{true, false}
use native.Mathlib.Omega.{arith}
use Rattle.chip.specs.Range.{in_range}
use Rattle.play_walk.proofs.WalkLaws.{step_time}
use Rattle.play_meter.specs.Passing.{pass_of, passed}
use Rattle.play_meter.proofs.NumberLaws.{with_numbers}
use Rattle.play_meter.proofs.PassLaws.{pass_one, pass_two, pass_nine, pass_some}
use Rattle.play_meter.proofs.waits.pass.Goals as goal

pub returns-then-memory-ne32768 : goal.returns-then-memory-ne32768
returns-then-memory-ne32768 c =
    let a = c.args in let pair = with_numbers c.passed_of.result (pass_of a.log.now a.memory.now a.m)
    (c.passed_of.ensures ∙ ap passed (pass_one a.log.now a.memory.now a.m c.if-memory-ne32768.true)) in record { value = pair.0; next_is = pair.1 }

pub returns-then-not-in_range : goal.returns-then-not-in_range
returns-then-not-in_range c =
    let a = c.args in
    let e : in_range a.m.state ≡ false = sym c.in_range.ensures ∙ c.if-not-in_range.true in let pair = with_numbers c.passed_of-then-not-in_range.result (pass_of a.log.now a.memory.now a.m)
    (c.passed_of-then-not-in_range.ensures ∙ ap passed (pass_two a.log.now a.memory.now a.m c.if-memory-ne32768.false e)) in record { value = pair.0; next_is = pair.1 }

pub returns-then-m-gt2000000000 : goal.returns-then-m-gt2000000000
returns-then-m-gt2000000000 c =
    let a = c.args in
    let e : in_range a.m.state ≡ true = sym c.in_range.ensures ∙ c.if-not-in_range.false in let pair = with_numbers c.passed_of-then-m-gt2000000000.result (pass_of a.log.now a.memory.now a.m)
    (c.passed_of-then-m-gt2000000000.ensures ∙ ap passed (pass_nine a.log.now a.memory.now a.m c.if-memory-ne32768.false e c.if-m-gt2000000000.true)) in record { value = pair.0; next_is = pair.1 }

pub pass_met-requires : goal.pass_met-requires
pass_met-requires c =
    let a = c.args in
    let p = c.step-w in
    let e : in_range a.m.state ≡ true = sym c.in_range.ensures ∙ c.if-not-in_range.false in record { memory_len = (c.if-memory-ne32768.false, p.ensures.state_value e, omega (arith, step_time a.log.now a.m p.result p.ensures.value, c.if-m-gt2000000000.false)); in_bounds = omega arith }

pub returns : goal.returns
returns c =
    let a = c.args in
    let e : in_range a.m.state ≡ true = sym c.in_range.ensures ∙ c.if-not-in_range.false in let pair = with_numbers c.pass_met.result (pass_of a.log.now a.memory.now a.m)
    (c.pass_met.ensures ∙ rw c.step-w.ensures.value (ap passed (pass_some a.log.now a.memory.now a.m c.if-memory-ne32768.false e c.if-m-gt2000000000.false))) in record { value = pair.0; next_is = pair.1 }

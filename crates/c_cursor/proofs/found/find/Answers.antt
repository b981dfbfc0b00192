use Rattle.std.proofs.Common.{◌≡◌, ℕ, ◌+◌, ◌-◌, refl, ap, sym, ◌∙◌, arith}
use Rattle.log_cursor.specs.Stepping.{stepped_of, step_of}
use Rattle.c_cursor.specs.Next.{next_in, next_of}
use Rattle.c_cursor.proofs.NextLaws.{turn_none, find_on, find_said}
use Rattle.c_cursor.proofs.found.find.Goals as goal

pub loop-init : goal.loop-init
unfolding next_of
loop-init c = refl

pub returns-in_default : goal.returns-in_default
returns-in_default c =
    let l = c.loop in
    find_said c.args.log.now l.c (2000002 - l.counter) c.step-s.result (omega arith) c.step-s.ensures.value c.in_default.not-Moved ∙ sym l.invariant

pub loop-preserved : goal.loop-preserved
loop-preserved c =
    let l = c.loop in
    let e : 2000002 - l.counter - 1 ≡ 2000002 - (l.counter + 1) = omega arith in
    l.invariant
    ∙ ap stepped_of
    (find_on c.args.log.now l.c (2000002 - l.counter) c.step-s.result (omega arith) c.step-s.ensures.value c.in-Moved.is
    ∙ ap (λ (n : ℕ). next_in (step_of c.args.log.now) n c.step-s.result.cursor) e)

pub returns : goal.returns
returns c =
    let l = c.loop in
    sym (l.invariant ∙ ap stepped_of (turn_none (step_of c.args.log.now) l.c (2000002 - l.counter) (omega arith)))

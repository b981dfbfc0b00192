use Rattle.std.proofs.Common.{◌≡◌, refl, sym, ◌∙◌, rules}
use Rattle.program_io.specs.Answers.{answer_of}
use Rattle.program_io.specs.Reads.{got}
use Rattle.program_io.proofs.ReadsLaws.{going_start, going_on, stopped, full}
use Rattle.program_io.proofs.read_by.Goals as goal

pub loop-done-init : goal.loop-done-init
loop-done-init g c = (going_start _, refl)

pub returns-then-more-eq0 : goal.returns-then-more-eq0
returns-then-more-eq0 g c =
    let l = c.loop-done in
    let r = c.read_to-answer in
    let none : got (answer_of r.result) ≡ 0 = sym c.got-more.ensures ∙ c.if-more-eq0.true in
    rw (c.taken.ensures.0, c.taken.ensures.1) (stopped _ l.buffer _ _ l.done (answer_of r.result) _ l.invariant.0 r.ensures.buffer_after none c.is_failure.ensures)

pub loop-done-preserved : goal.loop-done-preserved
loop-done-preserved g c =
    let l = c.loop-done in
    let r = c.read_to-answer in (
      rw (c.got-more.ensures) (going_on _ l.buffer _ _ l.done (answer_of r.result) l.invariant.0 r.ensures.buffer_after r.ensures.result_in_bounds_2 r.ensures.result_in_bounds (λ e. c.if-more-eq0.false (c.got-more.ensures ∙ e))),
      search rules,
    )

pub returns : goal.returns
returns g c =
    let l = c.loop-done in
    rw (c.taken-2.ensures.0, c.taken-2.ensures.1) (full _ l.buffer l.done l.invariant.0 c.loop-done-test.false)

use Rattle.std.proofs.Common.{sym, ◌∙◌}
use Rattle.program_io.specs.Answers.{answer_of}
use Rattle.program_io.proofs.ReadsLaws.{going_start, sent_on, sent_stopped, sent_all}
use Rattle.program_io.proofs.write_all.Goals as goal

pub loop-done-init : goal.loop-done-init
loop-done-init g c = going_start _

pub returns-then-more-eq0 : goal.returns-then-more-eq0
returns-then-more-eq0 g c =
    let l = c.loop-done in
    sent_stopped _ l.done (answer_of c.write_from-answer.result) l.invariant (sym c.got-more.ensures ∙ c.if-more-eq0.true) c.loop-done-test.true

pub loop-done-preserved : goal.loop-done-preserved
loop-done-preserved g c =
    let l = c.loop-done in
    let r = c.write_from-answer in
    rw (c.got-more.ensures) (sent_on _ l.done (answer_of r.result) l.invariant r.ensures (λ e. c.if-more-eq0.false (c.got-more.ensures ∙ e)))

pub returns : goal.returns
returns g c =
    let l = c.loop-done in
    sent_all _ l.done l.invariant c.loop-done-test.false

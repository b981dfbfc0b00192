use mathlib.Core.Path.{◌≡◌, refl, sym, ◌∙◌}
use mathlib.Core.Bool.{true, false}
use Rattle.chip_seen.specs.Seen.{seen_of, same_seen}
use Rattle.play_trace.specs.Window.{shown_at}
use Rattle.play_trace.proofs.StepLaws.{next_none, next_some}
use Rattle.play_trace.proofs.clock_next.Goals as goal

pub returns-then-same_seen : goal.returns-then-same_seen
unfolding shown_at
returns-then-same_seen c =
    let a = c.args in
    let e : same_seen (seen_of a.s) (seen_of a.next) ≡ true =
    sym (c.same_seen.ensures ∙ rw (c.shown_at-point.ensures, c.seen_of-before.ensures) refl) ∙ c.if-same_seen.true in
    next_none a.clock a.s a.next e

pub returns : goal.returns
unfolding shown_at
returns c =
    let a = c.args in
    let e : same_seen (seen_of a.s) (seen_of a.next) ≡ false =
    sym (c.same_seen.ensures ∙ rw (c.shown_at-point.ensures, c.seen_of-before.ensures) refl) ∙ c.if-same_seen.false in
    rw (c.shown_at-point.ensures, c.seen_of-before.ensures) (next_some a.clock a.s a.next e)

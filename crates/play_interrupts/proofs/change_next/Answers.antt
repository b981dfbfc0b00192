use mathlib.Core.Path.{◌≡◌, refl, sym, ◌∙◌}
use mathlib.Core.Bool.{true, false}
use Rattle.play_interrupts.specs.Changes.{flags_of, same_flags}
use Rattle.play_interrupts.proofs.StepLaws.{next_none, next_some}
use Rattle.play_interrupts.proofs.change_next.Goals as goal

pub returns-then-same_flags : goal.returns-then-same_flags
returns-then-same_flags c =
    let a = c.args in
    let e : same_flags (flags_of a.s) (flags_of a.next) ≡ true =
    sym (c.same_flags.ensures ∙ rw (c.flags_of-after.ensures, c.flags_of-before.ensures) refl) ∙ c.if-same_flags.true in
    next_none a.time a.s a.next e

pub returns : goal.returns
returns c =
    let a = c.args in
    let e : same_flags (flags_of a.s) (flags_of a.next) ≡ false =
    sym (c.same_flags.ensures ∙ rw (c.flags_of-after.ensures, c.flags_of-before.ensures) refl) ∙ c.if-same_flags.false in
    rw (c.flags_of-after.ensures, c.flags_of-before.ensures) (next_some a.time a.s a.next e)

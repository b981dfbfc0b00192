use mathlib.Core.Path.{◌∙◌}
use borrow.Author.Tests.{ne_eqb}
use Rattle.play_begin.specs.Whole.{begun_of, play_number, play_place}
use Rattle.play_begin.proofs.MachineLaws.{begun_is}
use Rattle.play_begin.proofs.begin.Goals as goal

pub returns-then-memory-ne32768 : goal.returns-then-memory-ne32768
unfolding begun_of play_number play_place
returns-then-memory-ne32768 c = c.opening.ensures ∙ rw (ne_eqb _ _ c.if-memory-ne32768.true)

pub returns : goal.returns
returns c =
    let a = c.args in
    let k = c.check-k in
    c.opening-2.ensures ∙ begun_is a.log.now a.memory.now c.if-memory-ne32768.false k.result k.ensures

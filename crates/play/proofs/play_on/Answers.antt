use mathlib.Core.Path.{refl, sym, ◌∙◌}
use borrow.Author.Tests.{eq-eqb, ne_eqb}
use Rattle.play.specs.Playing.{PlayedOn}
use Rattle.play.proofs.play_on.Goals as goal

pub returns-then-memory-ne32768 : goal.returns-then-memory-ne32768
unfolding PlayedOn
returns-then-memory-ne32768 c = rw (ne_eqb _ _ c.if-memory-ne32768.true, c.refuse.ensures) (record { answer = refl; stays = refl })

pub returns-then-not-in_range : goal.returns-then-not-in_range
unfolding PlayedOn
returns-then-not-in_range c = rw (eq-eqb _ _ c.if-memory-ne32768.false, sym c.in_range.ensures ∙ c.if-not-in_range.true, c.refuse-then-not-in_range.ensures) (record { answer = refl; stays = refl })

pub play_lines-requires : goal.play_lines-requires
play_lines-requires c = (c.if-memory-ne32768.false, sym c.in_range.ensures ∙ c.if-not-in_range.false)

pub returns : goal.returns
unfolding PlayedOn
returns c = rw (eq-eqb _ _ c.if-memory-ne32768.false, sym c.in_range.ensures ∙ c.if-not-in_range.false) c.play_lines.ensures

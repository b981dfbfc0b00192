use mathlib.Core.Path.{sym, ◌∙◌}
use Rattle.arith.proofs.PickLaws.{pick_true, pick_false}
use Rattle.run_plain.proofs.free_until.Goals as goal

pub returns-then-within : goal.returns-then-within
returns-then-within c = sym (pick_true _ _ _ (sym c.within.ensures ∙ c.if-within.true))

pub returns : goal.returns
returns c = sym (pick_false _ _ _ (sym c.within.ensures ∙ c.if-within.false))

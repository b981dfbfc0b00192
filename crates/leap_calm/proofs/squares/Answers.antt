use mathlib.Core.Path.{◌∙◌}
use Rattle.leap_calm.proofs.TableLaws.{squares_is}
use Rattle.leap_calm.proofs.squares.Goals as goal

pub returns : goal.returns
returns c = c.squares_entry.ensures ∙ squares_is c.args.sum

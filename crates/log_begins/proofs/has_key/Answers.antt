use Rattle.log_begins.proofs.ValueLaws.{keyed_is}
use mathlib.Core.Path.{◌∙◌}
use Rattle.log_begins.proofs.has_key.Goals as goal

pub returns : goal.returns
returns c = c.contains.ensures.value ∙ keyed_is c.args.s.now

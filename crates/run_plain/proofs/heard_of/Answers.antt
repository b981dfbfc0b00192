use mathlib.Core.Path.{sym, ◌∙◌}
use Rattle.std.proofs.Common.{rules}
use Rattle.run_plain.proofs.HeardLaws.{heard_same}
use Rattle.run_plain.proofs.heard_of.Goals as goal

pub returns-then-eq : goal.returns-then-eq
returns-then-eq c = heard_same c.args.h c.args.s c.requires (sym c.given_of-given.ensures ∙ search (rules, c.if-eq.ensures))

use Rattle.std.proofs.Common.{rules}
use Rattle.run_dwell.proofs.WithinLaws.{within_by}
use Rattle.run_dwell.proofs.within.Goals as goal

pub returns : goal.returns
returns c = within_by c.args.limit c.args.counts c.all.result (search rules)

use mathlib.Core.Path.{sym, ◌∙◌}
use Rattle.recording.proofs.KindLaws.{file_check_lem, log_check}
use Rattle.recording.proofs.check.Goals as goal

pub returns-then-is_file : goal.returns-then-is_file
returns-then-is_file c = c.check_file.ensures ∙ sym (file_check_lem c.args.b.now (sym c.is_file.ensures ∙ c.if-is_file.true))

pub returns : goal.returns
returns c = c.check.ensures ∙ sym (log_check c.args.b.now (sym c.is_file.ensures ∙ c.if-is_file.false))

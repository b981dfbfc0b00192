use mathlib.Core.Path.{sym, ◌∙◌}
use Rattle.recording.proofs.KindLaws.{file_machine, log_machine}
use Rattle.recording.proofs.is_pal.Goals as goal

pub returns-then-is_file : goal.returns-then-is_file
returns-then-is_file c = c.is_pal.ensures ∙ sym (file_machine c.args.b.now (sym c.is_file.ensures ∙ c.if-is_file.true))

pub returns : goal.returns
returns c = c.is_pal-2.ensures ∙ sym (log_machine c.args.b.now (sym c.is_file.ensures ∙ c.if-is_file.false))

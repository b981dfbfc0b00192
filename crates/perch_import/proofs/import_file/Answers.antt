use mathlib.Core.Path.{sym, ◌∙◌}
use Rattle.vgm_file.proofs.HeaderLaws.{from_inside}
use Rattle.perch_import.proofs.import_file.Goals as goal

pub import_from-requires : goal.import_from-requires
import_from-requires c = from_inside c.args.file.now _ (sym c.start.ensures ∙ c.in_ok-at.was)

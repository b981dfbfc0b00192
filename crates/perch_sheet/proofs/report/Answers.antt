use borrow.Author.Rules.{rules}
use Rattle.perch_sheet.proofs.Texts.{whole_text}
use Rattle.perch_sheet.proofs.report.Goals as goal

pub returns : goal.returns
returns c =
    let a = c.args in let pair = whole_text a.memory.now a.level a.address a.size a.out.now (search rules) _ c.whole.result c.whole.ensures in record { value = pair.0; out_after = pair.1 }

use borrow.Author.Rules.{rules}
use Rattle.program_io.proofs.ReadsLaws.{prefix_len_of_le}
use Rattle.perch_check.proofs.Sizes.{whole_text}
use Rattle.perch.proofs.check.answer.Goals as goal

pub returns : goal.returns
returns c =
    let a = c.args in
    let w = whole_text a.log.now a.out.now (search rules) c.report.result c.report.new.out c.report.ensures.value c.report.ensures.out_after in record { prefix_len = prefix_len_of_le _ _ w.0; out_after = w.1 }

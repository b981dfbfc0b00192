use Rattle.program_io.proofs.ReadsLaws.{prefix_len_of_le}
use Rattle.perch_sheet.proofs.Texts.{front_is}
use Rattle.perch.proofs.sheet.answer.Goals as goal

pub returns : goal.returns
returns c =
    let w = front_is _ _ _ c.report.result c.report.ensures.value c.report.ensures.out_after in record { prefix_len = prefix_len_of_le _ _ w.0; out_after = w.1 }

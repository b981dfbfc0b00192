use Rattle.c_run.proofs.AnswerLaws.{table_ran, table_refused}
use Rattle.c_run.proofs.leaping_on.Goals as goal

pub returns-then-counts-eq128 : goal.returns-then-counts-eq128
returns-then-counts-eq128 c =
    let a = c.args in let pair = table_ran a.memory.now a.s a.counts.now a.count a.words.now c.if-counts-eq128.true _ c.decode-table.ensures _ _
    c.run-r.ensures.value c.run-r.ensures.words_after _ c.store.ensures in record { value = pair.0; words_after = pair.1.0; counts_after = pair.1.1 }

pub returns : goal.returns
returns c =
    let a = c.args in let pair = table_refused a.memory.now a.s a.counts.now a.count a.words.now c.if-counts-eq128.false _ c.no_table-number.ensures _ c.refuse.ensures in record { value = pair.0; words_after = pair.1.0; counts_after = pair.1.1 }

use Rattle.c_run.proofs.AnswerLaws.{table_most, run_stored}
use Rattle.c_run.proofs.run.Goals as goal

pub pack_run-requires : goal.pack_run-requires
pack_run-requires c = rw c.leaping_on-r.ensures.value (table_most _ _ _ _ _)

pub returns : goal.returns
returns c =
    let a = c.args in
    let ran = rw c.state_in-s.ensures at c.leaping_on-r.ensures.value in
    let words = rw c.state_in-s.ensures at c.leaping_on-r.ensures.words_after in
    let counts = rw c.state_in-s.ensures at c.leaping_on-r.ensures.counts_after in
    record {
      value = rw ran at c.pack_run.ensures;
      state_after = run_stored a.memory.now a.state.now a.count a.words.now a.counts.now _ _ ran c.store.ensures;
      words_after = words;
      counts_after = counts;
    }

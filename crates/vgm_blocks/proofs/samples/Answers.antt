use mathlib.Core.Path.{sym, ap, ◌∙◌}
use Rattle.vgm_blocks.specs.declared.Filled.{Filled}
use Rattle.vgm_blocks.proofs.AnswerLaws.{other_size, at_fault, all_right}
use Rattle.vgm_blocks.proofs.samples.Goals as goal

pub returns-then-memory-ne32768 : goal.returns-then-memory-ne32768
returns-then-memory-ne32768 c = let pair = other_size c.args.stream.now c.args.memory.now c.if-memory-ne32768.true in record { value = pair.0; memory_after = pair.1 }

pub put_all-requires : goal.put_all-requires
put_all-requires c = record { stream_value = sym (ap (λ (r : Filled). r.number) c.judge-answer.ensures) ∙ c.if-answer-eq0.true; memory_len = c.memory-1.given ∙ c.if-memory-ne32768.false }

pub returns-then-answer-eq0 : goal.returns-then-answer-eq0
returns-then-answer-eq0 c =
    let a = c.args in let pair = all_right a.stream.now a.memory.now c.if-memory-ne32768.false c.judge-answer.result c.judge-answer.ensures _ _ c.if-answer-eq0.true (c.fill.ensures.after (λ y e. e)) c.put_all.ensures in record { value = pair.0; memory_after = pair.1 }

pub returns-else-answer-eq0 : goal.returns-else-answer-eq0
returns-else-answer-eq0 c =
    let a = c.args in let pair = at_fault a.stream.now a.memory.now c.if-memory-ne32768.false c.judge-answer.result c.judge-answer.ensures c.if-answer-eq0.false in record { value = pair.0; memory_after = pair.1 }

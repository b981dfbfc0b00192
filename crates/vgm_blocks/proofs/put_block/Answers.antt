use mathlib.Core.Path.{sym, ◌∙◌}
use Rattle.vgm_blocks.proofs.FillLaws.{fill_other}
use Rattle.vgm_blocks.proofs.put_block.Goals as goal

pub put_held-requires : goal.put_held-requires
put_held-requires c =
    let p = c.requires in
    record { at_value = p.at_value; at_value_2 = sym c.is_sample.ensures ∙ c.if-is_sample.true; at_value_3 = p.at_value_2; memory_len = p.memory_len }

pub returns-then-is_sample : goal.returns-then-is_sample
returns-then-is_sample c = c.put_held.ensures

pub returns-else-is_sample : goal.returns-else-is_sample
returns-else-is_sample c = fill_other _ _ (sym c.is_sample.ensures ∙ c.if-is_sample.false)

use mathlib.Core.Path.{◌∙◌}
use Rattle.c_at.proofs.AtLaws.{at_limits, other_length_lem, right_length}
use Rattle.c_at.proofs.state_at.Goals as goal

pub returns-then-state-ne-SIZE : goal.returns-then-state-ne-SIZE
returns-then-state-ne-SIZE c =
    let start = c.args in
    let o = other_length_lem start.log.now start.memory.now start.clock start.state.now c.if-state-ne-SIZE.true in record { value = c.from.ensures ∙ (c.other_length.ensures ∙ o.0); state_after = o.1 }

pub pack_at-requires : goal.pack_at-requires
pack_at-requires c =
    let start = c.args in
    let h = at_limits start.log.now start.memory.now start.clock in
    rw c.state_at-a.ensures.value (h.place, h.clock)

pub returns : goal.returns
returns c =
    let start = c.args in let pair = right_length start.log.now start.memory.now start.clock start.state.now c.if-state-ne-SIZE.false c.state_at-a.result
    c.state_at-a.ensures.value _ c.pack_at.ensures _ c.store.ensures in record { value = pair.0; state_after = pair.1 }

use Rattle.c_interrupt.proofs.next_interrupt.Goals as goal

pub returns : goal.returns
returns c = simp (c.pack_rise.ensures, c.next_interrupt-r.ensures.value, c.asked_of-asked.ensures, c.state_in-s.ensures)

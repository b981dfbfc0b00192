use Rattle.play_interrupts.specs.Closed.{least_rise}
use Rattle.play_interrupts.proofs.until.Goals as goal

pub returns : goal.returns
unfolding least_rise
returns c =
    let n = c.from-n.ensures in
    rw (c.min-2.ensures, c.min.ensures, c.rise_or-line.ensures, c.rise_or-dmc.ensures, c.rise_or-frame.ensures)
    (rw (c.next_interrupt-3.ensures.value, c.next_interrupt-2.ensures.value, c.next_interrupt.ensures.value, n))

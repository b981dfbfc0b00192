use Rattle.text.specs.Ascii.{bytes}
use Rattle.text_lines.proofs.Pieces.{puts, puts_then}
use Rattle.perch_vcd.specs.Text.{begin_text}
use Rattle.perch_vcd.proofs.begin_lines.Goals as goal

pub returns : goal.returns
unfolding begin_text
returns c =
    puts_then _ _ (puts _ (c.put_time-a.ensures.value, c.put_time-a.ensures.out_after))
    (puts_then (bytes "$dumpvars\n") _ (puts _ (c.fixed-b.ensures.value, c.fixed-b.ensures.out_after))
    (puts_then _ _ (puts _ (c.put_value-c.ensures.value, c.put_value-c.ensures.out_after))
    (puts_then _ _ c.seen_lines-d.ensures (puts_then _ _ c.bus_lines-e.ensures (puts (bytes "$end\n") (c.fixed.ensures.value, c.fixed.ensures.out_after))))))

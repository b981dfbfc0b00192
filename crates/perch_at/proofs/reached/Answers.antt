-- The clock, what is seen, the fields: joined by `puts_then`. Assumes nothing.
use Rattle.text_lines.proofs.Pieces.{puts, puts_then}
use Rattle.chip_access.specs.Access.{access_byte}
use Rattle.perch_at.specs.Text.{reached_text}
use Rattle.perch_at.proofs.reached.Goals as goal

pub returns : goal.returns
unfolding reached_text access_byte
returns c =
    puts_then _ _ (puts _ (c.keyed_line-a.ensures.value, c.keyed_line-a.ensures.out_after))
    (puts_then _ _ (rw (c.asserts-line.ensures, c.level-level.ensures, c.accessed-o.ensures.value) at c.seen_lines-b.ensures) (puts _ (c.put.ensures.value, c.put.ensures.out_after)))

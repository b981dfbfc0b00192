-- Four lines one behind the other, joined by `puts_then`. Assumes nothing.
use Rattle.arith.proofs.PickLaws.{flag_number}
use Rattle.text_lines.proofs.Pieces.{puts, puts_then}
use Rattle.perch_at.specs.Text.{seen_lines}
use Rattle.perch_at.proofs.seen_lines.Goals as goal

pub returns : goal.returns
unfolding seen_lines
returns c =
    puts_then _ _ c.machine_line-a.ensures
    (puts_then _ _ (puts _ (rw c.from.ensures at c.keyed_line-b.ensures.value, rw c.from.ensures at c.keyed_line-b.ensures.out_after))
    (puts_then _ _ c.status_line-c.ensures (puts _ (rw (c.from-2.ensures, flag_number c.args.line) at c.keyed_line.ensures.value, rw (c.from-2.ensures, flag_number c.args.line) at c.keyed_line.ensures.out_after))))

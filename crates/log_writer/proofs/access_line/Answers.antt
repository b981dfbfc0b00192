use Rattle.text.specs.Ascii.{bytes}
use Rattle.log_line.specs.Printed.{line_text, act_text, ended}
use Rattle.text_print.proofs.PieceLaws.{put_last}
use Rattle.log_writer.proofs.access_line.Goals as goal

pub returns-in-Read : goal.returns-in-Read
unfolding line_text act_text ended
returns-in-Read c = rw c.in-Read.is (put_last c.args.out.now c.args.at (bytes "read=4015\n") _ _ (rw c.in-Read.is at c.requires) c.fixed.ensures.value c.fixed.ensures.out_after)

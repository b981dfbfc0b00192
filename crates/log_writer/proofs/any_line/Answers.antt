use Rattle.text.specs.Ascii.{bytes}
use Rattle.log_line.specs.Printed.{line_text, ended}
use Rattle.text_print.proofs.PieceLaws.{put_last}
use Rattle.log_writer.proofs.any_line.Goals as goal

pub returns-in-Header : goal.returns-in-Header
unfolding line_text ended
returns-in-Header c = rw c.in-Header.is (put_last c.args.out.now c.args.at (bytes "log=1\n") _ _ (rw c.in-Header.is at c.requires) c.fixed.ensures.value c.fixed.ensures.out_after)

pub returns-in-Machine : goal.returns-in-Machine
unfolding line_text ended
returns-in-Machine c = rw c.in-Machine.is (put_last c.args.out.now c.args.at (bytes "machine=pal\n") _ _ (rw c.in-Machine.is at c.requires) c.fixed-in-Machine.ensures.value c.fixed-in-Machine.ensures.out_after)

pub returns-in-Done : goal.returns-in-Done
unfolding line_text ended
returns-in-Done c = rw c.in-Done.is (put_last c.args.out.now c.args.at (bytes "done=loop\n") _ _ (rw c.in-Done.is at c.requires) c.fixed-in-Done.ensures.value c.fixed-in-Done.ensures.out_after)

use Rattle.text_lines.proofs.Pieces.{front}
use Rattle.perch_import.proofs.Sizes.{clock_size}
use Rattle.perch_import.proofs.clock_line.Goals as goal

pub slice_bounds-text-end : goal.slice_bounds-text-end
slice_bounds-text-end c = (front _ (clock_size c.args.clock) c.clock_words-n.ensures).0

pub slice_bounds-fixed-end : goal.slice_bounds-fixed-end
slice_bounds-fixed-end c = (front _ (clock_size c.args.clock) c.clock_words-n.ensures).1

pub returns : goal.returns
returns c = record { value = rw (front _ (clock_size c.args.clock) c.clock_words-n.ensures).2 at c.fixed.ensures.value; out_after = rw (front _ (clock_size c.args.clock) c.clock_words-n.ensures).2 at c.fixed.ensures.out_after }

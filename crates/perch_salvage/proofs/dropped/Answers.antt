-- The words stand at the front of the 60 bytes, by `reason_front`. Assumes nothing.
use Rattle.perch_salvage.proofs.VerbLaws.{reason_front}
use mathlib.Core.Path.{sym}
use lib.Dec.{lit≤}
use lib.Seq.{length-take-le}
use Rattle.perch_salvage.proofs.dropped.Goals as goal

pub slice_bounds-words-end : goal.slice_bounds-words-end
slice_bounds-words-end c = let w = c.reason-n in (reason_front _ _ _ _ (lit≤ tt) w.ensures.value w.ensures.out_after).0

pub slice_bounds-keyed-end-2 : goal.slice_bounds-keyed-end-2
slice_bounds-keyed-end-2 c = let w = c.reason-n in sym (length-take-le _ _ (reason_front _ _ _ _ (lit≤ tt) w.ensures.value w.ensures.out_after).0)

pub returns : goal.returns
returns c =
    let w = c.reason-n in
    let e = (reason_front _ _ _ _ (lit≤ tt) w.ensures.value w.ensures.out_after).1 in rw (← c.line_number-line.ensures, ← e) (record { value = c.keyed.ensures.value; out_after = c.keyed.ensures.out_after })

use mathlib.Core.Path.{sym}
use native.Mathlib.Omega.{arith}
use lib.Seq.{length-take-le, take_all}
use Rattle.text_place.proofs.place.first.Goals as goal

pub slice_bounds-result-end : goal.slice_bounds-result-end
slice_bounds-result-end c = sym (length-take-le c.args.k c.args.s.now (omega arith))

pub returns-else-k-s : goal.returns-else-k-s
returns-else-k-s c = sym (take_all c.args.k c.args.s.now (omega arith))

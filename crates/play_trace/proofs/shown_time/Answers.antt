use native.Mathlib.Omega.{arith}
use Rattle.play_trace.specs.Window.{shown_at}
use Rattle.play_trace.proofs.SeenLaws.{time_most}
use Rattle.play_trace.proofs.shown_time.Goals as goal

pub overflow_add-result : goal.overflow_add-result
overflow_add-result c =
    let t = time_most c.args.s.pal c.args.clock c.requires in
    omega (arith, t, c.min.ensures, c.clock_time.ensures)

pub returns : goal.returns
unfolding shown_at
returns c = rw (c.min.ensures, c.clock_time.ensures)

use Prim.Native.Nat.{◌+◌}
use native.Mathlib.Omega.{arith}
use Rattle.wav_sample.proofs.FitLaws.{mean_fits}
use Rattle.play_samples.proofs.ended.Goals as goal

pub overflow_cast-m : goal.overflow_cast-m
overflow_cast-m c =
    let own = c.weighed-own in
    let m = mean_fits (c.args.p.sum + own.result) c.args.p.whole (omega (arith, own.ensures.upper_bound, c.requires.0)) in
    omega (arith, m, c.mean-m.ensures)

pub returns : goal.returns
returns c = record { value = c.next_pen.ensures; out_after = rw (c.mean-m.ensures, c.weighed-own.ensures.value) at c.put_sample.ensures }

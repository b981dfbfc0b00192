use Prim.Native.Nat.{◌-◌}
use Rattle.play_wav.proofs.LoopLaws.{Standing}
use Rattle.play_wav.proofs.samples_on.Given as goal

abbrev pub invariant-loop-out : goal.invariant-loop-out
invariant-loop-out l = Standing l.log l.memory l.w l.initial.out l.t l.count l.out

abbrev pub decreases-loop-out : goal.decreases-loop-out
decreases-loop-out l = 4000010 - l.count

use Prim.Native.Nat.{◌-◌}
use Rattle.play.proofs.LoopLaws.{Standing}
use Rattle.play.proofs.play_lines.Given as goal

abbrev pub invariant-loop-q : goal.invariant-loop-q
invariant-loop-q l = Standing l.log l.memory l.p l.initial.out l.t l.count l.out

abbrev pub decreases-loop-q : goal.decreases-loop-q
decreases-loop-q l = 4000010 - l.count

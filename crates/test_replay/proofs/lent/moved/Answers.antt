use Rattle.std.proofs.Common.{◌*◌, ◌≤◌, mul-le-mul, arith}
use Rattle.test_replay.proofs.lent.moved.Reads as reads
use Rattle.test_replay.proofs.lent.moved.Lts as lts
use Rattle.test_replay.proofs.lent.moved.Goals as goal

-- a product of two numbers below 65,536
most : (c : lts.Start reads.Pre reads.Post) → c.args.x * c.args.times ≤ 65535 * 65535
most c = mul-le-mul {n₂ = 65535} {m₂ = 65535} (omega arith) (omega arith)

pub overflow_mul-result : goal.overflow_mul-result
overflow_mul-result c = omega (arith, most c)

pub overflow_add-result : goal.overflow_add-result
overflow_add-result c = omega (arith, most c)

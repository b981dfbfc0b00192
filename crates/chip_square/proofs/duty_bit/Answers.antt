-- Every entry of the table is its bit of the number: one computed test.
use Prim.Native.Nat.{ℕ, ◌+◌, ◌*◌, ◌/◌, ◌%◌, ◌^◌}
use mathlib.Core.Bool.{Bool}
use native.Mathlib.Omega.{arith}
use lib.Dec.{T, eqb, eqb→eq}
use lib.ListN.{get_or}
use Rattle.arith.specs.Table.{every}
use Rattle.arith.proofs.TableLaws.{at}
use Rattle.chip_square.specs.Sequencer.{duties, duty_bit}
use Rattle.chip_square.proofs.duty_bit.Goals as goal

abbrev right : ℕ → ℕ → Bool
right i bit = eqb (0xF91E0602 / 2 ^ i % 2) bit

test : T (every right 0 duties)
test = tt

pub returns : goal.returns
unfolding duty_bit
returns c =
    let i : ℕ = c.args.duty % 4 * 8 + c.args.position % 8 in
    eqb→eq (0xF91E0602 / 2 ^ i % 2) (get_or duties i 0) (at right duties test i (omega arith))

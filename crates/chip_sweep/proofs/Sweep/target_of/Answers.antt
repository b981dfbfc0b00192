-- Each number on the way is read as a signed one with its bound (`Reads`): no sum overflows by `plus_fits`, and each `returns` is the sum's value. Assumes nothing.
use Prim.Native.Nat.{◌<◌}
use native.Mathlib.Omega.{arith}
use lib.IntN.{pos}
use Rattle.arith.proofs.Signed32.{Reads, of, inverted, plus_fits, plus}
use Rattle.chip_sweep.specs.Sweep.{target}
use Rattle.chip_sweep.proofs.Sweep.target_of.Goals as goal

one : Reads 2 1 (pos 1)
one = of 1 (omega arith) tt

pub overflow_add-result : goal.overflow_add-result
overflow_add-result c =
    let x = c.args.period in
    let y = c.shifted.result in
    let small : x < 65536 = omega arith in
    let low : y < 65536 = omega arith in
    rw c.from-s.ensures (plus_fits (inverted y low tt) one tt)

pub overflow_add-result-then-second : goal.overflow_add-result-then-second
overflow_add-result-then-second c =
    let x = c.args.period in
    let y = c.shifted.result in
    let small : x < 65536 = omega arith in
    let low : y < 65536 = omega arith in
    rw (c.from-p.ensures, c.from-s.ensures) (plus_fits (of x small tt) (plus (inverted y low tt) one tt) tt)

pub overflow_add-result-else-second : goal.overflow_add-result-else-second
overflow_add-result-else-second c =
    let x = c.args.period in
    let y = c.shifted.result in
    let small : x < 65536 = omega arith in
    let low : y < 65536 = omega arith in
    rw (c.from-p.ensures, c.from-s.ensures) (plus_fits (of x small tt) (inverted y low tt) tt)

pub overflow_add-result-else-self : goal.overflow_add-result-else-self
overflow_add-result-else-self c =
    let x = c.args.period in
    let y = c.shifted.result in
    let small : x < 65536 = omega arith in
    let low : y < 65536 = omega arith in
    rw (c.from-p.ensures, c.from-s.ensures) (plus_fits (of x small tt) (of y low tt) tt)

pub returns-then-second : goal.returns-then-second
unfolding target
returns-then-second c =
    let x = c.args.period in
    let y = c.shifted.result in
    let small : x < 65536 = omega arith in
    let low : y < 65536 = omega arith in
    rw (c.from-p.ensures, c.from-s.ensures, c.if-self.true, c.if-second.true, ← c.shifted.ensures) (plus (of x small tt) (plus (inverted y low tt) one tt) tt).is

pub returns-else-second : goal.returns-else-second
unfolding target
returns-else-second c =
    let x = c.args.period in
    let y = c.shifted.result in
    let small : x < 65536 = omega arith in
    let low : y < 65536 = omega arith in
    rw (c.from-p.ensures, c.from-s.ensures, c.if-self.true, c.if-second.false, ← c.shifted.ensures) (plus (of x small tt) (inverted y low tt) tt).is

pub returns-else-self : goal.returns-else-self
unfolding target
returns-else-self c =
    let x = c.args.period in
    let y = c.shifted.result in
    let small : x < 65536 = omega arith in
    let low : y < 65536 = omega arith in
    rw (c.from-p.ensures, c.from-s.ensures, c.if-self.false, ← c.shifted.ensures) (plus (of x small tt) (of y low tt) tt).is

use Prim.Native.Nat.{ℕ, suc, ◌+◌, ◌-◌, ◌*◌, ◌<◌}
use mathlib.Core.Path.{◌≡◌, sym, ap, ◌∙◌}
use native.Mathlib.Omega.{arith}
use Rattle.c_bytes.specs.Fields.{byte_of}
use Rattle.c_bytes.proofs.WideLaws.{wide_more, wide_none, room, room_more}
use Rattle.c_bytes.proofs.number.wide_at.Goals as goal

pub loop-i-init : goal.loop-i-init
loop-i-init c =
    let a = c.args in
    let none : a.n - a.n ≡ 0 = omega arith in
    (sym (wide_none _ _ a.n), rw none (omega arith))

-- a number of at most seven bytes, and another byte
pub overflow_mul-r : goal.overflow_mul-r
overflow_mul-r c =
    let l = c.loop-i in
    let a = c.args in
    let low : c.from.result < 256 = omega arith in
    let f = room _ _ (a.n - l.i) low (omega arith) l.invariant.1 in
    omega arith

pub overflow_add-r : goal.overflow_add-r
overflow_add-r c =
    let l = c.loop-i in
    let a = c.args in
    let low : c.from.result < 256 = omega arith in
    let f = room _ _ (a.n - l.i) low (omega arith) l.invariant.1 in
    omega arith

pub loop-i-preserved : goal.loop-i-preserved
loop-i-preserved c =
    let l = c.loop-i in
    let a = c.args in
    let more : a.n - (l.i - 1) ≡ suc (a.n - l.i) = omega arith in
    let low : c.from.result < 256 = omega arith in (
      ap (λ (x : ℕ). x + 256 * l.r) (c.from.ensures ∙ c.byte_after.ensures)
          ∙ ap (λ (r : ℕ). byte_of a.b.now (a.at + (l.i - 1)) + 256 * r) l.invariant.0
          ∙ wide_more a.b.now a.at l.i a.n c.loop-i-test.true (omega arith),
      rw more (room_more _ _ (a.n - l.i) low l.invariant.1),
    )

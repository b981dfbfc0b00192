use Prim.Native.Nat.{ℕ, ◌-◌, ◌+◌}
use mathlib.Core.Path.{◌≡◌, ap}
use native.Mathlib.Omega.{arith}
use native.Mathlib.Nat.{sub-zero}
use Rattle.log_line.specs.Printed.{line_text, ended}
use Rattle.log_salvage_rules.specs.Mending.{closed_by}
use Rattle.log_salvage.proofs.EndLaws.{closing_step, closing_end}
use Rattle.log_salvage.proofs.close.Goals as goal

pub loop-init : goal.loop-init
loop-init c = let h = c.requires in (omega arith, omega arith, λ o l k w. record { state = k; written = w; rest = ap (λ (d : ℕ). closed_by d k) (sub-zero _) })

pub add-p-requires : goal.add-p-requires
add-p-requires c = let i = c.loop.invariant in (omega (arith, i.0, c.loop-test.true), omega (arith, i.1, c.loop-test.true))

pub loop-preserved : goal.loop-preserved
unfolding line_text ended
loop-preserved c =
    let l = c.loop in
    let h = c.loop-test.true in
    let a = c.add-p.ensures in
    let d : c.args.depth - l.counter - 1 ≡ c.args.depth - (l.counter + 1) = omega arith in (
      omega (arith, l.invariant.0, a.bytes, h),
      omega (arith, l.invariant.1, a.entries, h),
      λ o q k w. rw d at (closing_step (l.invariant.2 o q k w) (omega arith) _ _ _ a),
    )

pub returns : goal.returns
returns c =
    let l = c.loop in
    record { bytes_bound = (omega (arith, l.invariant.0), omega (arith, l.invariant.1)); by_index = λ o q k w. closing_end (l.invariant.2 o q k w) (omega arith) }

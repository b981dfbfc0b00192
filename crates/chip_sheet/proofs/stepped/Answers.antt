use Prim.Native.Nat.{ℕ, suc, ◌+◌, ◌-◌, ◌/◌, ◌^◌}
use mathlib.Core.Path.{◌≡◌, sym, ap, ◌∙◌}
use native.Mathlib.Nat.{div-one, div-div-eq-div-mul, pow-suc}
use native.Mathlib.Numerals.{add-one}
use native.Mathlib.Omega.{arith}
use Rattle.chip_sheet.specs.Byte.{low_steps}
use Rattle.chip_sheet.proofs.Steps.{steps_on, steps_none}
use Rattle.chip_sheet.proofs.stepped.Goals as goal

-- one place further is a half
further : (byte i : ℕ) → byte / 2 ^ (i + 1) ≡ byte / 2 ^ i / 2
further byte i = rw (add-one, pow-suc 2 i) (sym (div-div-eq-div-mul byte (2 ^ i) 2))

pub loop-i-init : goal.loop-i-init
loop-i-init c = (omega arith, rw (div-one c.args.byte))

pub loop-i-preserved : goal.loop-i-preserved
loop-i-preserved c =
    let l = c.loop-i in
    let b = c.args.byte in
    let e : suc (8 - (l.i + 1)) ≡ 8 - l.i = omega (arith, c.before) in (
      omega (arith, c.before),
      rw (c.level_moved-l.ensures, further b l.i)
          (sym (steps_on (8 - (l.i + 1)) (b / 2 ^ l.i) l.l) ∙ ap (λ (k : ℕ). low_steps k (b / 2 ^ l.i) l.l) e ∙ l.invariant.1),
    )

pub returns : goal.returns
returns c =
    let l = c.loop-i in
    let b = c.args.byte in
    let e : 0 ≡ 8 - l.i = omega (arith, c.before) in
    sym (steps_none (b / 2 ^ l.i) l.l) ∙ ap (λ (k : ℕ). low_steps k (b / 2 ^ l.i) l.l) e ∙ l.invariant.1

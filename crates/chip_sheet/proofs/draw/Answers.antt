use Prim.Native.Nat.{◌-◌}
use mathlib.Core.Path.{◌≡◌, refl, sym, ◌∙◌}
use native.Mathlib.Omega.{arith}
use lib.ListN.{length-set}
use Rattle.chip_sheet.proofs.Levels.{draw_step, draw_end, drawn}
use Rattle.chip_sheet.proofs.draw.Goals as goal

pub loop-i-init : goal.loop-i-init
loop-i-init c = let e : c.args.n - 0 ≡ c.args.n = omega arith in (omega arith, refl, rw e)

pub bounds-buffer-i : goal.bounds-buffer-i
bounds-buffer-i c = omega (arith, c.loop-i.invariant.0, c.loop-i.invariant.1, c.requires)

pub loop-i-preserved : goal.loop-i-preserved
loop-i-preserved c =
    let l = c.loop-i in
    let m = c.args.memory.now in (
      omega (arith, c.loop-i-test),
      length-set l.buffer _ _ ∙ l.invariant.1,
      rw (c.address_after-a.ensures, c.level_after-l.ensures, c.byte_of.ensures)
          (draw_step m l.buffer l.i _ l.a l.l (omega (arith, c.loop-i-test)) ∙ l.invariant.2),
    )

pub returns : goal.returns
returns c =
    let l = c.loop-i in
    let a = c.args in
    sym (draw_end a.memory.now l.buffer l.i a.n l.a l.l (omega arith))
    ∙ l.invariant.2
    ∙ drawn a.memory.now a.buffer.now a.n a.address a.level c.requires

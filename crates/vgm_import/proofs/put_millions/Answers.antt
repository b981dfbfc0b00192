use mathlib.Core.Path.{refl, ap, ◌∙◌}
use Prim.Native.Nat.{◌+◌}
use native.Mathlib.Omega.{arith}
use lib.ListN.{length}
use lib.Seq.{sets}
use Rattle.vgm_import.proofs.PenLaws.{million_all, million_step, millions_done}
use Rattle.vgm_import.proofs.put_millions.Goals as goal

pub loop-init : goal.loop-init
loop-init c = let a = c.args in (refl, ap (λ (x : _). a.at + length x) (million_all a.m), ap (sets a.out.now a.at) (million_all a.m))

pub loop-preserved : goal.loop-preserved
loop-preserved c = let a = c.args in
    let l = c.loop in
    let s = million_step a.m l.counter (omega arith) l.out l.place _ _ l.invariant.1 l.invariant.2 (omega (arith, l.invariant.0, c.requires)) c.put_line-place.new.out c.put_line-place.result c.put_line-place.ensures.value c.put_line-place.ensures.out_after in
    (s.0 ∙ l.invariant.0, s.1, s.2)

pub shape_of-out : goal.shape_of-out
shape_of-out c = c.loop.invariant.0

pub returns : goal.returns
returns c = let a = c.args in let l = c.loop in millions_done a.m l.counter (omega arith) a.out.now a.at l.out l.place l.invariant.1 l.invariant.2

use mathlib.Core.Path.{sym}
use native.Mathlib.Omega.{arith}
use Rattle.text.proofs.HexLaws.{hex_sound}
use Rattle.log_line.proofs.fields.Goals as goal

pub overflow_cast-r : goal.overflow_cast-r
overflow_cast-r c =
    let w = hex_sound 4 _ c.in-Some-Some.r (sym c.in-Some-Some.ensures) in
    omega (arith, w.fits)

pub overflow_cast-v : goal.overflow_cast-v
overflow_cast-v c =
    let w = hex_sound 2 _ c.in-Some-Some.v (sym c.in-Some-Some.ensures') in
    omega (arith, w.fits)

use Prim.Native.Nat.{◌/◌, ◌%◌}
use mathlib.Core.Path.{◌≡◌}
use native.Mathlib.Omega.{arith}
use native.Mathlib.Numerals.{add-one}
use lib.ListN.{length-set}
use Rattle.text.specs.Hex.{hex_text}
use Rattle.text_print.proofs.two.Goals as goal

pub bounds-out-at-2 : goal.bounds-out-at-2
bounds-out-at-2 c = simp length-set (omega arith)

pub returns : goal.returns
unfolding hex_text
returns c =
    let a = c.args in
    let high : a.v / 16 % 16 ≡ a.v / 16 = omega arith in
    rw (add-one, high, c.hex_digit-2.ensures, c.hex_digit.ensures)

-- Muting is said once by the sweep (`muted`) and once by what a square gives, test by test: both are the same. Assumes nothing.
use Prim.Native.Nat.{ℕ}
use mathlib.Core.Path.{◌≡◌, refl}
use mathlib.Core.Bool.{Bool, true, false, not}
use lib.Dec.{eqb}
use Rattle.arith.specs.Pick.{pick, both, either}
use Rattle.chip_envelope.specs.Envelope.{volume}
use Rattle.chip_sweep.specs.Sweep.{low_period, high_target, muted}
use Rattle.chip_square.specs.Sequencer.{duty_bit}
use Rattle.chip_square.specs.Square.{square_amount, square_output}
use Rattle.chip_square.specs.declared.Square.{Square}

by_tests : (duty short low high : Bool) (v : ℕ)
    → pick duty (pick short 0 (pick low 0 (pick high 0 v))) 0 ≡ pick (both duty (both (not short) (not (either low high)))) v 0
by_tests true true low high v = refl
by_tests true false true high v = refl
by_tests true false false true v = refl
by_tests true false false false v = refl
by_tests false short low high v = refl

-- A SQUARE "gives volume if the duty bit is 1, length above 0 and not muted; else 0", muted as the sweep is
pub gives : (second : Bool) (s : Square)
    → square_output second s
    ≡ pick (both (eqb (duty_bit s.duty s.sequencer.position) 1) (both (not (eqb s.length.count 0)) (not (muted second s.sweep s.sequencer.timer.period)))) (volume s.envelope) 0
unfolding square_output square_amount muted
gives second s =
    let p = s.sequencer.timer.period in
    by_tests (eqb (duty_bit s.duty s.sequencer.position) 1) (eqb s.length.count 0) (low_period p) (high_target second s.sweep p) (volume s.envelope)

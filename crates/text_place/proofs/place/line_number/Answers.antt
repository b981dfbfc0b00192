use Prim.Native.Nat.{ℕ, ◌+◌}
use mathlib.Core.Path.{ap, ◌∙◌}
use native.Mathlib.Omega.{arith}
use Rattle.text_place.specs.Place.{feeds, line_number}
use Rattle.text_place.proofs.Fronts.{feeds_low}
use Rattle.text_place.proofs.place.line_number.Goals as goal

pub overflow_add-result : goal.overflow_add-result
overflow_add-result c =
    omega (arith, c.feeds.ensures, feeds_low c.first.result.now)

pub returns : goal.returns
unfolding line_number
returns c =
    ap (λ (n : ℕ). 1 + n) (c.feeds.ensures ∙ ap feeds c.first.ensures)

use Prim.Native.Nat.{ℕ, ◌-◌}
use mathlib.Core.Path.{ap, ◌∙◌}
use native.Mathlib.Omega.{arith}
use lib.ListN.{length, drop}
use Rattle.text_place.specs.Place.{line_front, front_at}
use Rattle.text_place.proofs.Fronts.{front_low, front_drop}
use Rattle.text_place.proofs.place.front_at.Goals as goal

pub overflow_sub-s : goal.overflow_sub-s
overflow_sub-s c =
    omega (arith, c.front_length.ensures, front_low c.first-s.result.now)

pub returns : goal.returns
unfolding front_at
returns c =
    let f = c.first-s in
    let s = c.first-s.result.now in
    c.behind.ensures
    ∙ (ap (λ (k : ℕ). drop (length s - k) s) c.front_length.ensures
    ∙ (front_drop s ∙ ap line_front f.ensures))

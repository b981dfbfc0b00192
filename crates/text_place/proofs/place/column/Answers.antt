use Prim.Native.Nat.{ℕ, ◌+◌}
use mathlib.Core.Path.{ap}
use mathlib.Core.List.{List}
use lib.ListN.{length}
use Rattle.text_place.specs.Place.{column}
use Rattle.text_place.proofs.place.column.Goals as goal

pub returns : goal.returns
unfolding column
returns c =
    ap (λ (s : List ℕ). 1 + length s) c.front_at.ensures

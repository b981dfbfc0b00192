-- The part of a file from a start on. Assumes nothing.
use Prim.Native.Nat.{ℕ, ◌+◌, ◌-◌, ◌≤◌}
use mathlib.Core.Path.{◌≡◌, sym, ap, ◌∙◌}
use mathlib.Core.Bool.{Bool}
use mathlib.Core.List.{List}
use native.Mathlib.Omega.{arith}
use lib.ListN.{length, take, drop, length-drop}
use lib.Seq.{take-length}
use Rattle.vgm_measure.specs.Import.{import_for}
use Rattle.vgm_measure.proofs.FaultLaws.{answer_limits}

-- the part from a start on
pub part_is : (f : List ℕ) (s : ℕ) → take (length f - s) (drop s f) ≡ drop s f
part_is f s = ap (λ (n : ℕ). take n (drop s f)) (sym (length-drop s f)) ∙ take-length (drop s f)

-- a place in the part is one in the file
pub place_in : (pal : Bool) (f : List ℕ) (s : ℕ) → s ≤ length f → (room : ℕ) → s + (import_for pal (drop s f) room).place ≤ length f
place_in pal f s h room =
    let p = (answer_limits pal (drop s f) room).1 in
    let l = length-drop s f in
    omega arith

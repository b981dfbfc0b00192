-- The number, byte and value of an answer, from the answer. Assumes nothing.
use Rattle.std.specs.Prelude.{Result}
use mathlib.Core.Path.{◌≡◌, refl}
use mathlib.Core.List.{List}
use Prim.Native.Nat.{ℕ}
use Rattle.refusal.specs.declared.Refusal.{Refusal}
use Rattle.log_line.specs.declared.Line.{Line}
use Rattle.log_fault.specs.declared.Stand.{Stand}
use Rattle.log_fault.specs.Fault.{spot_of}
use Rattle.log_fault.specs.Numbers.{SpottedIs}

pub spot_numbers : (st : Stand) (s : List ℕ) (r : Result Line Refusal) → r ≡ spot_of st s → (r ≡ spot_of st s) × SpottedIs st s r
spot_numbers st s r e = (e, rw e (refl, refl, refl))

-- What each case of a line's definition comes to. Assumes nothing.
use Rattle.std.specs.Prelude.{Option, Some, None}
use mathlib.Core.Path.{◌≡◌}
use mathlib.Core.List.{List}
use Prim.Native.Nat.{ℕ, ◌-◌}
use borrow.Author.Tests.{eq-eqb, ne_eqb}
use lib.ListN.{length, get_or, take}
use Rattle.log_line.specs.declared.Line.{Line}
use Rattle.log_line.specs.declared.Line.TheVariants.{NoForm}
use Rattle.log_line.specs.Said.{counted, unfed_line, line_of}

pub counted_is : (f : ℕ → Line) (d : Option ℕ) (n : ℕ) → d ≡ Some n → counted f d ≡ f n
unfolding counted
counted_is f d n e = rw e

pub counted_none : (f : ℕ → Line) (d : Option ℕ) → d ≡ None → counted f d ≡ NoForm
unfolding counted
counted_none f d e = rw e

module _ (s : List ℕ) where
  pub line_feed : get_or s (length s - 1) 0 ≡ 10 → line_of s ≡ unfed_line (take (length s - 1) s)
  unfolding line_of
  line_feed e = rw (eq-eqb _ _ e)

  pub line_other : (get_or s (length s - 1) 0 ≡ 10 → ⊥) → line_of s ≡ NoForm
  unfolding line_of
  line_other e = rw (ne_eqb _ _ e)

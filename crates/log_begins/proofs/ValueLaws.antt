-- The tests for `=` and for digits, a decimal's shape, and a line without its line feed. Assumes nothing.
use Rattle.std.specs.Prelude.{None}
use mathlib.Core.Path.{◌≡◌, refl}
use mathlib.Core.List.{List, [], ◌∷◌}
use mathlib.Core.Bool.{Bool, true, false}
use Prim.Native.Nat.{ℕ, ◌+◌, ◌-◌, ◌*◌}
use native.Mathlib.Omega.{arith}
use borrow.Author.Tests.{eq-eqb}
use lib.ListN.{length, get_or, take}
use Rattle.arith.specs.Pick.{pick, both}
use Rattle.text.specs.Decimal.{digit, digits, formed, decimal}
use Rattle.std.specs.List.{list_any, list_all}
use Rattle.std.proofs.lemmas.Grind.{common_steps}
use lib.Dec.{eqb}
use Rattle.log_begins.specs.Counts.{keyed, unfed, said}
use Rattle.log_begins.specs.Digits.{all_digits}

-- `=`, AND DIGITS

pub keyed_is : (s : List ℕ) → list_any (λ y. eqb y 61) s ≡ keyed s
unfolding keyed
keyed_is [] = refl
keyed_is (c ∷ s) = grind (arith, common_steps, keyed_is s)

pub all_is : (s : List ℕ) → list_all digit s ≡ all_digits s
unfolding all_digits
all_is [] = refl
all_is (c ∷ s) = grind (arith, common_steps, all_is s)

-- A DECIMAL OF RIGHT SHAPE

said_digits : (s : List ℕ) (n : ℕ) → said (digits n s) ≡ all_digits s
unfolding said digits all_digits
said_digits [] n = refl
said_digits (c ∷ s) n = go (digit c) (said_digits s (n * 10 + (c - 48)))
  where
    go : (b : Bool) → said (digits (n * 10 + (c - 48)) s) ≡ all_digits s → said (pick b (digits (n * 10 + (c - 48)) s) None) ≡ both b (all_digits s)
    go true r = r
    go false r = refl

module _ (s : List ℕ) where
  decimal_shape : (b : Bool) → formed s ≡ b → said (decimal s) ≡ both b (all_digits s)
  unfolding decimal said
  decimal_shape true e = rw e (said_digits s 0)
  decimal_shape false e = rw e

  pub decimal_is : said (decimal s) ≡ both (formed s) (list_all digit s)
  decimal_is = rw (all_is s) (decimal_shape (formed s) refl)

  -- WITHOUT ITS LINE FEED

  pub unfed_feed : get_or s (length s - 1) 0 ≡ 10 → take (length s - 1) s ≡ unfed s
  unfolding unfed
  unfed_feed e = rw (eq-eqb (get_or s (length s - 1) 0) 10 e)

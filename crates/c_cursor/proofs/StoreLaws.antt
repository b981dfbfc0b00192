-- The bytes and the answer of `next`, from what the code finds and stores; and a refused call leaves the bytes. Assumes nothing.
use mathlib.Core.Path.{◌≡◌, refl}
use mathlib.Core.List.{List}
use Prim.Native.Nat.{ℕ, ◌%◌, ◌^◌}
use mathlib.Core.Bool.{Bool, true, false}
use native.Mathlib.Omega.{arith}
use borrow.Author.Tests.{eq-eqb, ne_eqb}
use lib.ListN.{length}
use lib.Dec.{eqb}
use Rattle.arith.specs.Pick.{pick}
use Rattle.log_cursor.specs.declared.Given.{Given}
use Rattle.log_cursor.specs.declared.Stepped.{Stepped}
use Rattle.log_cursor.specs.Stepping.{is_refused}
use Rattle.c_cursor.specs.Cursors.{cursor_size, cursor_of, cursor_encoded}
use Rattle.c_cursor.specs.Next.{next_of, next_found, cursor_moved, next_packed, next_bytes}

module _ (log b : List ℕ) where
  pub next_not : (length b ≡ cursor_size → ⊥) → (2 ≡ next_packed log b) × (b ≡ next_bytes log b)
  unfolding next_packed next_bytes
  next_not h = rw (ne_eqb (length b) cursor_size h) (refl, refl)

  pub next_is : length b ≡ cursor_size → (s : Stepped) → s ≡ next_of log (cursor_of b)
      → (b' : List ℕ) → b' ≡ pick (is_refused s.found) b (cursor_encoded s.cursor b)
      → (r : ℕ) → r ≡ next_found s.found
      → (r ≡ next_packed log b) × (b' ≡ next_bytes log b)
  unfolding next_packed next_bytes cursor_encoded
  next_is h s e b' f r g = rw (eq-eqb (length b) cursor_size h, ← e) (g, rw (eq-eqb (length b) cursor_size h) at f)

-- A REFUSED CALL LEAVES THE BYTES: where an answer's number isn't 0
found_stays : (s : Stepped) (f : Given) → s.found ≡ f → (b : List ℕ) → (next_found f % 2 ^ 8 ≡ 0 → ⊥) → cursor_moved s b ≡ b
found_stays s (Given.Act a) e b h = absurd (h (omega arith))
found_stays s Given.Moved e b h = absurd (h (omega arith))
found_stays s Given.End e b h = absurd (h (omega arith))
found_stays s (Given.Refused k p) e b h = rw e

pub refused_stays : (log b : List ℕ) → (next_packed log b % 2 ^ 8 ≡ 0 → ⊥) → next_bytes log b ≡ b
unfolding next_packed next_bytes
refused_stays log b h = go (eqb (length b) cursor_size) h
  where
    go : (t : Bool) → (pick t (next_found (next_of log (cursor_of b)).found) 2 % 2 ^ 8 ≡ 0 → ⊥) → pick t (cursor_moved (next_of log (cursor_of b)) b) b ≡ b
    go true k = found_stays (next_of log (cursor_of b)) (next_of log (cursor_of b)).found refl b k
    go false k = refl

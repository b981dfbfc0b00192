-- Numbers that are bytes. Assumes nothing.
use Prim.Native.Nat.{ℕ, zero, suc, ◌≤◌}
use mathlib.Core.Path.{◌≡◌, refl, ap, sym, ◌∙◌}
use mathlib.Core.Bool.{Bool, true, false}
use mathlib.Core.List.{List, [], ◌∷◌, ◌++◌}
use borrow.Author.Tests.{le-leb, leb-true}
use lib.Dec.{leb}
use lib.ListN.{get_or, drop}
use Rattle.arith.specs.Pick.{both}
use Rattle.arith.proofs.PickLaws.{both_left, both_right, both_true}
use Rattle.vgm_import.proofs.ImportLaws.{Bytes}
use Rattle.recording.specs.Whole.{are_bytes}

-- what is lent is bytes
pub all_bytes : (l : List ℕ) → ((k : ℕ) → get_or l k 0 ≤ 255) → are_bytes l ≡ true
unfolding are_bytes
all_bytes [] h = refl
all_bytes (x ∷ l) h = both_true (leb x 255) (are_bytes l) (le-leb x 255 (h 0)) (all_bytes l (λ k. h (suc k)))

pub bytes_of : (l : List ℕ) → are_bytes l ≡ true → Bytes l
unfolding are_bytes
bytes_of [] e = tt
bytes_of (x ∷ l) e = (leb-true x 255 (both_left (leb x 255) (are_bytes l) e), bytes_of l (both_right (leb x 255) (are_bytes l) e))

pub bytes_drop : (n : ℕ) (l : List ℕ) → are_bytes l ≡ true → are_bytes (drop n l) ≡ true
unfolding are_bytes
bytes_drop zero l e = e
bytes_drop (suc n) [] e = e
bytes_drop (suc n) (x ∷ l) e = bytes_drop n l (both_right (leb x 255) (are_bytes l) e)

both_assoc : (a b c : Bool) → both (both a b) c ≡ both a (both b c)
both_assoc true b c = refl
both_assoc false b c = refl

both_swap : (a b c : Bool) → both a (both b c) ≡ both b (both a c)
both_swap true b c = refl
both_swap false true c = refl
both_swap false false c = refl

pub bytes_append : (k l : List ℕ) → are_bytes (k ++ l) ≡ both (are_bytes k) (are_bytes l)
unfolding are_bytes
bytes_append [] l = refl
bytes_append (x ∷ k) l = ap (both (leb x 255)) (bytes_append k l) ∙ sym (both_assoc (leb x 255) (are_bytes k) (are_bytes l))

-- in either order
pub bytes_swap : (j k l : List ℕ) → are_bytes (j ++ (k ++ l)) ≡ are_bytes (k ++ (j ++ l))
bytes_swap j k l =
    rw (bytes_append j (k ++ l), bytes_append k l, bytes_append k (j ++ l), bytes_append j l) (both_swap (are_bytes j) (are_bytes k) (are_bytes l))

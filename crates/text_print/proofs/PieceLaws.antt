-- Texts put one behind the other. Assumes nothing.
use Prim.Native.Nat.{ℕ, ◌+◌, ◌≤◌}
use mathlib.Core.Path.{◌≡◌, ap, ◌∙◌}
use mathlib.Core.List.{List, ◌++◌}
use native.Mathlib.Omega.{arith}
use lib.ListN.{length, length-append}
use lib.Seq.{length-sets}
use Rattle.text_print.specs.Printed.{printed, placed, Put}
use Rattle.text_print.proofs.StoreLaws.{sets_append, placed_in, printed_in}

pub put_last : (l : List ℕ) (at : ℕ) (a l' : List ℕ) (r : ℕ) → at + length a ≤ length l → r ≡ placed l at a → l' ≡ printed l at a → Put l at a l' r
put_last l at a l' r h p b = record { place = p ∙ placed_in l at a h; bytes = b ∙ printed_in l at a h }

pub put_size : {l : List ℕ} {at : ℕ} {a l' : List ℕ} {r : ℕ} → Put l at a l' r → length l' ≡ length l
put_size {l} {at} {a} p = ap length p.bytes ∙ length-sets l at a

-- one text and another
pub put_two : (l : List ℕ) (at : ℕ) (a b l' : List ℕ) (r : ℕ) (l'' : List ℕ) (r'' : ℕ) → Put l at a l' r → Put l' r b l'' r'' → Put l at (a ++ b) l'' r''
put_two l at a b l' r l'' r'' p q =
    let i = p.place in
    let j = q.place in
    record {
      place = j ∙ omega (arith, length-append a b);
      bytes = q.bytes ∙ (rw (p.bytes, p.place) (sets_append a b l at));
    }

-- a piece, and the rest behind it
pub put_more : (l : List ℕ) (at : ℕ) (a rest l' : List ℕ) (r : ℕ) (l'' : List ℕ) (r'' : ℕ) → at + length (a ++ rest) ≤ length l → r ≡ placed l at a → l' ≡ printed l at a
    → (r + length rest ≤ length l' → Put l' r rest l'' r'') → Put l at (a ++ rest) l'' r''
put_more l at a rest l' r l'' r'' h p b more =
    let s = length-append a rest in
    let one = put_last l at a l' r (omega arith) p b in
    let i = one.place in
    let two = more (omega (arith, put_size one)) in
    put_two l at a rest l' r l'' r'' one two

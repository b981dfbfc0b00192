-- Texts one behind the other, where there is room for all, and a text at the front of a buffer. Assumes nothing.
use Prim.Native.Nat.{ℕ, ◌+◌, ◌≤◌}
use mathlib.Core.Path.{◌≡◌, refl, sym, ap, ◌∙◌}
use mathlib.Core.Bool.{Bool, true, false}
use mathlib.Core.List.{List, [], ◌++◌}
use native.Mathlib.Omega.{arith}
use borrow.Author.Tests.{leb-true, leb-false}
use lib.Dec.{leb}
use lib.ListN.{length, take, drop, length-append}
use lib.Seq.{sets-eq, take_at}
use Rattle.text_print.proofs.StoreLaws.{kept, placed_in, printed_in}
use Rattle.text_print.proofs.PieceLaws.{put_last, put_size, put_two}
use Rattle.text_print.specs.Printed.{placed, printed, Put}
use Rattle.text_lines.specs.Puts.{Puts}

-- what a total function says
pub puts : {l : List ℕ} {at : ℕ} (a : List ℕ) {l' : List ℕ} {r : ℕ} → (r ≡ placed l at a) × (l' ≡ printed l at a) → Puts l at a l' r
puts {l} {at} a {l'} {r} e room = put_last l at a l' r room e.0 e.1

pub puts_none : {l : List ℕ} {at : ℕ} → Puts l at [] l at
puts_none room = record { place = omega arith; bytes = refl }

-- a text and the rest behind it
pub puts_then : {l : List ℕ} {at : ℕ} (a rest : List ℕ) {l' : List ℕ} {r : ℕ} {l'' : List ℕ} {r'' : ℕ} → Puts l at a l' r → Puts l' r rest l'' r'' → Puts l at (a ++ rest) l'' r''
puts_then {l} {at} a rest {l'} {r} {l''} {r''} one two room =
    let s = length-append a rest in
    let p = one (omega arith) in
    let i = p.place in
    put_two l at a rest l' r l'' r'' p (two (omega (arith, put_size p)))

-- what a test of the room for its k bytes tells
module _ (l : List ℕ) (at : ℕ) (a : List ℕ) (k : ℕ) (long : length a ≡ k) (t : Bool) (e : t ≡ leb (at + k) (length l)) where
  pub fits_room : t ≡ true → at + length a ≤ length l
  fits_room h = let r = leb-true (at + k) (length l) (sym e ∙ h) in omega arith

  pub fits_put : t ≡ true → (l' : List ℕ) (r : ℕ) → Put l at a l' r → (r ≡ placed l at a) × (l' ≡ printed l at a)
  fits_put h l' r p = (p.place ∙ sym (placed_in l at a (fits_room h)), p.bytes ∙ sym (printed_in l at a (fits_room h)))

  pub fits_not : t ≡ false → (at ≡ placed l at a) × (l ≡ printed l at a)
  fits_not h = kept l at a k long (leb-false (at + k) (length l) (sym e ∙ h))

-- a text at the front of a buffer that holds it
pub front : {l : List ℕ} (t : List ℕ) {l' : List ℕ} {n : ℕ} → length t ≤ length l → Puts l 0 t l' n → (n ≤ length l') × (n ≡ length (take n l')) × (take n l' ≡ t)
front {l} t {l'} {n} h w =
    let room : 0 + length t ≤ length l = omega arith in
    let p = w room in
    let i = p.place in
    let e : length t ≡ n = omega arith in
    let is : take n l' ≡ t = ap (take n) (p.bytes ∙ sets-eq t l 0 room) ∙ take_at t (drop (0 + length t) l) n e in
    (omega (arith, put_size p), sym e ∙ sym (ap length is), is)

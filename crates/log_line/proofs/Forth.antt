-- What a line is read as, it is the text of; or it is a write to no register (4) or not of the form (0). Assumes nothing.
use Rattle.std.specs.Prelude.{Option, Some, None}
use mathlib.Core.Path.{◌≡◌, refl, ap, ap₂, sym, ◌∙◌, subst}
use mathlib.Core.List.{List, [], ◌∷◌, ◌++◌}
use mathlib.Core.Bool.{true}
use mathlib.Core.Logic.{◌⊎◌, inl, inr}
use Prim.Native.Nat.{ℕ, suc, ◌-◌, ◌^◌, ◌≤◌, ◌<◌}
use native.Mathlib.Omega.{arith}
use borrow.Author.Tests.{eqb-true}
use lib.ListN.{length, get_or, take, drop, drop_of_length-le}
use lib.Seq.{split_at}
use lib.Dec.{eqb}
use Rattle.arith.specs.Pick.{both}
use Rattle.arith.proofs.PickLaws.{pick_each, both_left, both_right}
use Rattle.bus.specs.Register.{is_register}
use Rattle.bus.specs.declared.Access.TheVariants.{Read}
use Rattle.text.specs.Ascii.{bytes}
use Rattle.text.specs.Key.{starts_with, exactly}
use Rattle.text.specs.Numbers.{within}
use Rattle.text.specs.Decimal.{decimal, decimal_text}
use Rattle.text.specs.Hex.{hex, hex_text}
use Rattle.text.proofs.NumberLaws.{within_let}
use Rattle.text.proofs.DecimalLaws.{decimal_sound}
use Rattle.text.proofs.HexLaws.{hex_sound}
use Rattle.text.proofs.KeyLaws.{starts_split, exactly_is}
use Rattle.log_line.specs.declared.Act.TheVariants.{Wait, Access}
use Rattle.log_line.specs.declared.Line.{Line}
use Rattle.log_line.specs.declared.Line.TheVariants.{Header, Machine, One, Loop, Done, Stop, NoForm, NoRegister}
use Rattle.log_line.specs.Said.{counted, written, write_of, wait_of, loop_of, stop_of, unfed_line, line_of}
use Rattle.log_line.specs.Printed.{act_text, ended, line_text, Printable}

-- a line that is not right by itself: a write to no register, or one not of the form
abbrev pub AtFault : Line → Type 0
AtFault l = (l ≡ NoRegister) ⊎ (l ≡ NoForm)

pub data Found (s : List ℕ) (l : Line) : Type 0 where
  right : s ≡ line_text l → Printable l → Found s l
  fault : AtFault l → Found s l

formless : (s : List ℕ) → Found s NoForm
formless s = fault (inr refl)

four : (s : List ℕ) → Found s NoRegister
four s = fault (inl refl)

-- a number behind a key
number_found : (s v : List ℕ) (lo hi : ℕ) (f : ℕ → Line) → hi < 10 ^ 10
    → ((n : ℕ) → lo ≤ n → n ≤ hi → v ≡ decimal_text n → Found s (f n)) → (d : Option ℕ) → within lo hi (decimal v) ≡ d → Found s (counted f d)
unfolding counted
number_found s v lo hi f h g (Some n) e =
    let w = within_let lo hi n (decimal v) e in
    let a = w.low in
    let b = w.high in
    g n a b (decimal_sound v n w.is (omega arith))
number_found s v lo hi f h g None e = formless s

module _ (s : List ℕ) where
  wait_found : starts_with (bytes "wait=") s ≡ true → Found (ended s) (wait_of (drop 5 s))
  unfolding wait_of line_text act_text
  wait_found e =
      number_found (ended s) (drop 5 s) 1 1000000 (λ n. One (Wait n)) (omega arith)
      (λ n a b q. right (ap ended (starts_split (bytes "wait=") s e ∙ ap (λ (x : List ℕ). bytes "wait=" ++ x) q)) (a, b))
      (within 1 1000000 (decimal (drop 5 s))) refl

  loop_found : starts_with (bytes "loop=") s ≡ true → Found (ended s) (loop_of (drop 5 s))
  unfolding loop_of line_text
  loop_found e =
      number_found (ended s) (drop 5 s) 2 255 Loop (omega arith)
      (λ n a b q. right (ap ended (starts_split (bytes "loop=") s e ∙ ap (λ (x : List ℕ). bytes "loop=" ++ x) q)) (a, b))
      (within 2 255 (decimal (drop 5 s))) refl

  stop_found : starts_with (bytes "stop=") s ≡ true → Found (ended s) (stop_of (drop 5 s))
  unfolding stop_of line_text
  stop_found e =
      number_found (ended s) (drop 5 s) 0 2000000000 Stop (omega arith)
      (λ n a b q. right (ap ended (starts_split (bytes "stop=") s e ∙ ap (λ (x : List ℕ). bytes "stop=" ++ x) q)) b)
      (within 0 2000000000 (decimal (drop 5 s))) refl

-- the register and the value of a write
written_found : (s v : List ℕ) → length v ≡ 7 → get_or v 4 0 ≡ 58 → s ≡ ended (bytes "write=" ++ v)
    → (a b : Option ℕ) → hex 4 (take 4 v) ≡ a → hex 2 (drop 5 v) ≡ b → Found s (written a b)
unfolding written line_text act_text
written_found s v h c q None b e f = formless s
written_found s v h c q (Some r) None e f = formless s
written_found s v h c q (Some r) (Some n) e f =
    pick_each (Found s) (is_register r) (λ i. right (q ∙ ap (λ (x : List ℕ). ended (bytes "write=" ++ x)) text) (i, value)) (λ i. four s)
  where
    value : n ≤ 255
    value = omega (arith, (hex_sound 2 (drop 5 v) n f).fits)

    text : v ≡ hex_text 4 r ++ (bytes ":" ++ hex_text 2 n)
    text =
        split_at v 4 0 (omega arith)
        ∙ (ap (λ (x : ℕ). take 4 v ++ (x ∷ drop 5 v)) c
        ∙ ap₂ (λ (x y : List ℕ). x ++ (58 ∷ y)) (hex_sound 4 (take 4 v) r e).is (hex_sound 2 (drop 5 v) n f).is)

write_found : (s v : List ℕ) → s ≡ ended (bytes "write=" ++ v) → Found s (write_of v)
unfolding write_of
write_found s v q =
    pick_each (Found s) (both (eqb (length v) 7) (eqb (get_or v 4 0) 58))
    (λ e.
    written_found s v
    (eqb-true (length v) 7 (both_left (eqb (length v) 7) (eqb (get_or v 4 0) 58) e))
    (eqb-true (get_or v 4 0) 58 (both_right (eqb (length v) 7) (eqb (get_or v 4 0) 58) e))
    q (hex 4 (take 4 v)) (hex 2 (drop 5 v)) refl refl)
    (λ e. formless s)

exact_found : (t s : List ℕ) (l : Line) → ended t ≡ line_text l → Printable l → exactly t s ≡ true → Found (ended s) l
exact_found t s l q p e = right (ap ended (exactly_is t s e) ∙ q) p

body_found : (s : List ℕ) → Found (ended s) (unfed_line s)
unfolding unfed_line line_text act_text
body_found s =
    pick_each (Found (ended s)) (exactly (bytes "log=1") s) (exact_found (bytes "log=1") s Header refl tt) λ e.
    pick_each (Found (ended s)) (starts_with (bytes "wait=") s) (wait_found s) λ e.
    pick_each (Found (ended s)) (starts_with (bytes "write=") s)
    (λ e. write_found (ended s) (drop 6 s) (ap ended (starts_split (bytes "write=") s e))) λ e.
    pick_each (Found (ended s)) (exactly (bytes "read=4015") s) (exact_found (bytes "read=4015") s (One (Access Read)) refl tt) λ e.
    pick_each (Found (ended s)) (starts_with (bytes "loop=") s) (loop_found s) λ e.
    pick_each (Found (ended s)) (exactly (bytes "done=loop") s) (exact_found (bytes "done=loop") s Done refl tt) λ e.
    pick_each (Found (ended s)) (starts_with (bytes "stop=") s) (stop_found s) λ e.
    pick_each (Found (ended s)) (exactly (bytes "machine=pal") s) (exact_found (bytes "machine=pal") s Machine refl tt) λ e. formless (ended s)

-- a text whose last byte is a line feed
feed_split : (s : List ℕ) → get_or s (length s - 1) 0 ≡ 10 → s ≡ ended (take (length s - 1) s)
unfolding ended
feed_split [] e = absurd (let z : ◌≡◌ {A = ℕ} 0 10 = e in omega arith)
feed_split (c ∷ s) e =
    split_at (c ∷ s) (length (c ∷ s) - 1) 0 (omega arith)
    ∙ ap₂ (λ (x : ℕ) (y : List ℕ). take (length (c ∷ s) - 1) (c ∷ s) ++ (x ∷ y)) e
    (drop_of_length-le (c ∷ s) {i = suc (length (c ∷ s) - 1)} (omega arith))

pub line_found : (s : List ℕ) → Found s (line_of s)
unfolding line_of
line_found s =
    pick_each (Found s) (eqb (get_or s (length s - 1) 0) 10)
    (λ e.
    subst (λ (t : List ℕ). Found t (unfed_line (take (length s - 1) s)))
    (sym (feed_split s (eqb-true (get_or s (length s - 1) 0) 10 e)))
    (body_found (take (length s - 1) s)))
    (λ e. formless s)

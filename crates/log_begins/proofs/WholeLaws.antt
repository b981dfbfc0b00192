-- Whole lines of right form: what they are read as, and that only they are read as something. Assumes nothing.
use Rattle.std.specs.Prelude.{Option, Some, None}
use mathlib.Core.Path.{◌≡◌, refl, ap, ap₂, sym, ◌∙◌, subst}
use mathlib.Core.List.{List, [], ◌∷◌, ◌++◌, append-nil}
use mathlib.Core.Bool.{Bool, true, false, false≢true}
use mathlib.Core.Logic.{inl, inr}
use Prim.Native.Nat.{ℕ, suc, ◌-◌, ◌%◌, ◌≤◌}
use native.Mathlib.Omega.{arith}
use borrow.Author.Tests.{leb-true, eqb-true, eqb-false}
use lib.ListN.{length, get_or, take, drop, length-append, drop_of_length-le}
use lib.Seq.{take-append_seam, get_or-append_seam, split_at}
use lib.Dec.{leb, eqb}
use Rattle.arith.specs.Pick.{both, either}
use Rattle.arith.proofs.PickLaws.{pick_each, both_left, both_right}
use Rattle.bus.specs.Register.{is_register}
use Rattle.bus.specs.declared.Access.TheVariants.{Write, Read}
use Rattle.text.specs.Ascii.{bytes}
use Rattle.text.specs.Key.{starts_with, exactly}
use Rattle.text.specs.Decimal.{digit}
use Rattle.text.specs.Hex.{hex_digit, hex, hex_byte, hex_text}
use Rattle.text.proofs.HexLaws.{hex_complete, hex_sound}
use Rattle.text.proofs.KeyLaws.{starts_split}
use Rattle.log_line.specs.declared.Act.TheVariants.{Wait, Access}
use Rattle.log_line.specs.declared.Line.{Line}
use Rattle.log_line.specs.declared.Line.TheVariants.{Header, Machine, One, Loop, Done, Stop, NoForm, NoRegister}
use Rattle.log_line.specs.Said.{counted, written, write_of, wait_of, loop_of, stop_of, unfed_line, line_of}
use Rattle.log_line.specs.Printed.{act_text, ended, line_text, Printable, NoFeed, empty, byte, OneLine}
use Rattle.log_line.proofs.BodyLaws.{line_feed}
use Rattle.log_line.proofs.Forth.{Found, right, fault, line_found}
use Rattle.log_line.proofs.LineLaws.{printed_read, one_line}
use Rattle.log_begins.specs.Fronts.{RightForm}
use Rattle.log_begins.proofs.WriteLaws.{digit_of, WriteOf}

-- A WRITE WITH ANY REGISTER, READ

ended_said : (s : List ℕ) → line_of (ended s) ≡ unfed_line s
unfolding ended
ended_said s =
    let e : length (s ++ (10 ∷ [])) - 1 ≡ length s = omega (arith, length-append s (10 ∷ [])) in
    line_feed (s ++ (10 ∷ [])) (rw e (get_or-append_seam s 10 [] 0)) ∙ rw (e, take-append_seam s (10 ∷ []))

fields_said : (r v : ℕ) → write_of (hex_text 4 r ++ (bytes ":" ++ hex_text 2 v)) ≡ written (hex 4 (hex_text 4 r)) (hex 2 (hex_text 2 v))
unfolding write_of hex_text
fields_said r v = refl

body_said : (r v : ℕ) → unfed_line (act_text (Access (Write r v))) ≡ written (hex 4 (hex_text 4 r)) (hex 2 (hex_text 2 v))
unfolding unfed_line exactly starts_with act_text
body_said r v = fields_said r v

write_said : (r v : ℕ) → r ≤ 0xffff → v ≤ 255 → line_of (line_text (One (Access (Write r v)))) ≡ written (Some r) (Some v)
unfolding line_text
write_said r v h l = ended_said _ ∙ (body_said r v ∙ ap₂ written (hex_complete 4 r (omega arith)) (hex_complete 2 v (omega arith)))

-- WHAT A LINE OF RIGHT FORM IS READ AS

-- what a line of right form is read as: itself, or 4
pub data Reads : Line → Line → Type 0 where
  itself : {l : Line} → Printable l → Reads l l
  four : {r v : ℕ} → Reads (One (Access (Write r v))) NoRegister

pub reads : (l : Line) → RightForm l → Reads l (line_of (line_text l))
unfolding written
reads Header p = subst (Reads Header) (sym (printed_read Header p)) (itself p)
reads Machine p = subst (Reads Machine) (sym (printed_read Machine p)) (itself p)
reads (One (Wait n)) p = subst (Reads (One (Wait n))) (sym (printed_read (One (Wait n)) p)) (itself p)
reads (One (Access (Write r v))) p =
    subst (Reads (One (Access (Write r v)))) (sym (write_said r v p.0 p.1))
    (pick_each (Reads (One (Access (Write r v)))) (is_register r) (λ e. itself (e, p.1)) (λ e. four))
reads (One (Access Read)) p = subst (Reads (One (Access Read))) (sym (printed_read (One (Access Read)) p)) (itself p)
reads (Loop n) p = subst (Reads (Loop n)) (sym (printed_read (Loop n) p)) (itself p)
reads Done p = subst (Reads Done) (sym (printed_read Done p)) (itself p)
reads (Stop n) p = subst (Reads (Stop n)) (sym (printed_read (Stop n) p)) (itself p)
reads NoForm p = absurd p
reads NoRegister p = absurd p

-- ITS TEXT IS ONE LINE

hex_no_feed : (x : ℕ) → hex_byte (x % 16) ≡ 10 → ⊥
unfolding hex_digit digit
hex_no_feed x e = go (hex_byte (x % 16)) e (digit_of x)
  where
    go : (c : ℕ) → c ≡ 10 → hex_digit c ≡ true → ⊥
    go c e d = false≢true (rw e at d)

write_clear : (r v : ℕ) → NoFeed (act_text (Access (Write r v)))
unfolding act_text hex_text
write_clear r v =
    byte (eqb-false 119 10 refl) (byte (eqb-false 114 10 refl) (byte (eqb-false 105 10 refl) (byte (eqb-false 116 10 refl)
    (byte (eqb-false 101 10 refl) (byte (eqb-false 61 10 refl)
    (byte (hex_no_feed _) (byte (hex_no_feed _) (byte (hex_no_feed _) (byte (hex_no_feed r)
    (byte (eqb-false 58 10 refl) (byte (hex_no_feed _) (byte (hex_no_feed v) empty))))))))))))

form_line : (l : Line) → RightForm l → OneLine (line_text l)
unfolding line_text ended
form_line Header p = one_line Header p
form_line Machine p = one_line Machine p
form_line (One (Wait n)) p = one_line (One (Wait n)) p
form_line (One (Access (Write r v))) p = record { body = act_text (Access (Write r v)); is = refl; clear = write_clear r v }
form_line (One (Access Read)) p = one_line (One (Access Read)) p
form_line (Loop n) p = one_line (Loop n) p
form_line Done p = one_line Done p
form_line (Stop n) p = one_line (Stop n) p
form_line NoForm p = absurd p
form_line NoRegister p = absurd p

-- bytes that end in a line feed and stand at the front of one line are all of it

nothing_more : (t rest : List ℕ) → (t ++ (10 ∷ [])) ++ rest ≡ [] → ⊥
nothing_more [] rest e = let z : ◌≡◌ {A = ℕ} 0 1 = cc in omega arith
nothing_more (c ∷ t) rest e = let z : ◌≡◌ {A = ℕ} 0 1 = cc in omega arith

all_of : (t body rest : List ℕ) → NoFeed body → (t ++ (10 ∷ [])) ++ rest ≡ body ++ (10 ∷ []) → rest ≡ []
all_of [] [] rest n e = cc
all_of [] (b ∷ body) rest (byte h n) e =
    let q : 10 ≡ b = cc in
    absurd (h (sym q))
all_of (c ∷ t) [] rest n e =
    let q : (t ++ (10 ∷ [])) ++ rest ≡ [] = cc in
    absurd (nothing_more t rest q)
all_of (c ∷ t) (b ∷ body) rest (byte h n) e =
    let q : (t ++ (10 ∷ [])) ++ rest ≡ body ++ (10 ∷ []) = cc in
    all_of t body rest n q

pub feed_split : (s : List ℕ) → get_or s (length s - 1) 0 ≡ 10 → s ≡ ended (take (length s - 1) s)
unfolding ended
feed_split [] e = absurd (let z : ◌≡◌ {A = ℕ} 0 10 = e in omega arith)
feed_split (c ∷ s) e =
    split_at (c ∷ s) (length (c ∷ s) - 1) 0 (omega arith)
    ∙ ap₂ (λ (x : ℕ) (y : List ℕ). take (length (c ∷ s) - 1) (c ∷ s) ++ (x ∷ y)) e
    (drop_of_length-le (c ∷ s) {i = suc (length (c ∷ s) - 1)} (omega arith))

pub whole_text : (l : Line) (s rest : List ℕ) → RightForm l → get_or s (length s - 1) 0 ≡ 10 → s ++ rest ≡ line_text l → s ≡ line_text l
unfolding ended
whole_text l s rest p f e =
    let o = form_line l p in
    let t = take (length s - 1) s in
    let h : (t ++ (10 ∷ [])) ++ rest ≡ o.body ++ (10 ∷ []) = ap (λ (x : List ℕ). x ++ rest) (sym (feed_split s f)) ∙ (e ∙ o.is) in
    sym (append-nil s) ∙ (ap (λ (x : List ℕ). s ++ x) (sym (all_of t o.body rest o.clear h)) ∙ e)

-- WHAT IS READ AS 4 IS THE TEXT OF A WRITE

module _ (s : List ℕ) where
  abbrev Four : Line → Type 0
  Four l = l ≡ NoRegister → WriteOf s

  counted_four : (f : ℕ → Line) → ((n : ℕ) → f n ≡ NoRegister → ⊥) → (d : Option ℕ) → Four (counted f d)
  unfolding counted
  counted_four f h (Some n) e = absurd (h n e)
  counted_four f h None e = absurd (let z : ◌≡◌ {A = ℕ} 0 4 = cc in omega arith)

  written_four : (v : List ℕ) → length v ≡ 7 → get_or v 4 0 ≡ 58 → s ≡ ended (bytes "write=" ++ v)
      → (a b : Option ℕ) → hex 4 (take 4 v) ≡ a → hex 2 (drop 5 v) ≡ b → Four (written a b)
  unfolding written line_text act_text
  written_four v h c q None b e f z = absurd (let z : ◌≡◌ {A = ℕ} 0 4 = cc in omega arith)
  written_four v h c q (Some r) None e f z = absurd (let z : ◌≡◌ {A = ℕ} 0 4 = cc in omega arith)
  written_four v h c q (Some r) (Some n) e f z =
      let x = hex_sound 4 (take 4 v) r e in
      let y = hex_sound 2 (drop 5 v) n f in
      let a = x.fits in
      let b = y.fits in
      record {
        register = r;
        value = n;
        high = omega arith;
        small = omega arith;
        is =
            q
            ∙ ap (λ (w : List ℕ). ended (bytes "write=" ++ w))
            (split_at v 4 0 (omega arith)
            ∙ (ap (λ (w : ℕ). take 4 v ++ (w ∷ drop 5 v)) c ∙ ap₂ (λ (w u : List ℕ). w ++ (58 ∷ u)) x.is y.is));
      }

  formless_four : Four NoForm
  formless_four e = absurd (let z : ◌≡◌ {A = ℕ} 0 4 = cc in omega arith)

  write_four : (v : List ℕ) → s ≡ ended (bytes "write=" ++ v) → Four (write_of v)
  unfolding write_of
  write_four v q =
      pick_each Four (both (eqb (length v) 7) (eqb (get_or v 4 0) 58))
      (λ e.
      written_four v
      (eqb-true (length v) 7 (both_left (eqb (length v) 7) (eqb (get_or v 4 0) 58) e))
      (eqb-true (get_or v 4 0) 58 (both_right (eqb (length v) 7) (eqb (get_or v 4 0) 58) e))
      q (hex 4 (take 4 v)) (hex 2 (drop 5 v)) refl refl)
      (λ e. formless_four)

  plain_four : (l : Line) → (l ≡ NoRegister → ◌≡◌ {A = ℕ} 0 1) → Four l
  plain_four l h e = absurd (let z = h e in omega arith)

  body_four : (t : List ℕ) → s ≡ ended t → Four (unfed_line t)
  unfolding unfed_line wait_of loop_of stop_of
  body_four t q =
      pick_each Four (exactly (bytes "log=1") t) (λ e. plain_four Header (λ z. cc)) λ e.
      pick_each Four (starts_with (bytes "wait=") t) (λ e. counted_four (λ n. One (Wait n)) (λ n z. absurd (let w : ◌≡◌ {A = ℕ} 0 1 = cc in omega arith)) _) λ e.
      pick_each Four (starts_with (bytes "write=") t) (λ e. write_four (drop 6 t) (q ∙ ap ended (starts_split (bytes "write=") t e))) λ e.
      pick_each Four (exactly (bytes "read=4015") t) (λ e. plain_four (One (Access Read)) (λ z. cc)) λ e.
      pick_each Four (starts_with (bytes "loop=") t) (λ e. counted_four Loop (λ n z. absurd (let w : ◌≡◌ {A = ℕ} 0 1 = cc in omega arith)) _) λ e.
      pick_each Four (exactly (bytes "done=loop") t) (λ e. plain_four Done (λ z. cc)) λ e.
      pick_each Four (starts_with (bytes "stop=") t) (λ e. counted_four Stop (λ n z. absurd (let w : ◌≡◌ {A = ℕ} 0 1 = cc in omega arith)) _) λ e.
      pick_each Four (exactly (bytes "machine=pal") t) (λ e. plain_four Machine (λ z. cc)) λ e. formless_four

  line_four : line_of s ≡ NoRegister → WriteOf s
  unfolding line_of
  line_four =
      pick_each Four (eqb (get_or s (length s - 1) 0) 10)
      (λ e. body_four (take (length s - 1) s) (feed_split s (eqb-true (get_or s (length s - 1) 0) 10 e)))
      (λ e. formless_four)

-- LINES OF RIGHT FORM

register_fits : (r : ℕ) → is_register r ≡ true → r ≤ 0xffff
unfolding is_register
register_fits r e = go (both (leb 0x4000 r) (leb r 0x4013)) refl (eqb r 0x4015) refl (eqb r 0x4017) refl e
  where
    go : (a : Bool) → both (leb 0x4000 r) (leb r 0x4013) ≡ a → (b : Bool) → eqb r 0x4015 ≡ b → (c : Bool) → eqb r 0x4017 ≡ c
        → either a (either b c) ≡ true → r ≤ 0xffff
    go true p b q c t e = omega (arith, leb-true r 0x4013 (both_right (leb 0x4000 r) (leb r 0x4013) p))
    go false p true q c t e = omega (arith, eqb-true r 0x4015 q)
    go false p false q true t e = omega (arith, eqb-true r 0x4017 t)
    go false p false q false t e = absurd (false≢true e)

printable_form : (l : Line) → Printable l → RightForm l
printable_form Header p = p
printable_form Machine p = p
printable_form (One (Wait n)) p = p
printable_form (One (Access (Write r v))) p = (register_fits r p.0, p.1)
printable_form (One (Access Read)) p = p
printable_form (Loop n) p = p
printable_form Done p = p
printable_form (Stop n) p = p
printable_form NoForm p = p
printable_form NoRegister p = p

-- s is the whole text of a line of right form, line feed and all
pub record OfForm (s : List ℕ) : Type 0 where
  pub line : Line
  pub right : RightForm line
  pub is : s ≡ line_text line

-- a line says `NoForm` exactly where it is not of right form

pub reads_of_form : (s : List ℕ) → (line_of s ≡ NoForm → ⊥) → OfForm s
reads_of_form s h = go (line_of s) refl (line_found s)
  where
    go : (l : Line) → line_of s ≡ l → Found s l → OfForm s
    go l e (right q p) = record { line = l; right = printable_form l p; is = q }
    go l e (fault (inl q)) =
        let w = line_four s (e ∙ q) in
        record { line = One (Access (Write w.register w.value)); right = (w.high, w.small); is = w.is }
    go l e (fault (inr q)) = absurd (h (e ∙ q))

pub of_form_reads : (s : List ℕ) → OfForm s → line_of s ≡ NoForm → ⊥
of_form_reads s f e = go f.line (line_of (line_text f.line)) (reads f.line f.right) (sym (ap line_of f.is) ∙ e)
  where
    go : (l m : Line) → Reads l m → m ≡ NoForm → ⊥
    go l m (itself p) e = subst Printable e p
    go l m four e = let z : ◌≡◌ {A = ℕ} 0 1 = cc in omega arith

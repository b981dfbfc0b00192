-- Tests that are true exactly of the beginnings of some texts, and how a form in front makes such a test of another. Assumes nothing.
use mathlib.Core.Path.{◌≡◌, refl, ap, ◌∙◌}
use mathlib.Core.List.{List, [], ◌∷◌, ◌++◌}
use mathlib.Core.Bool.{Bool, true, false, not, false≢true}
use Prim.Native.Nat.{ℕ, ◌≤◌}
use borrow.Author.Tests.{eq-eqb, eqb-true}
use lib.Dec.{eqb}
use Rattle.arith.specs.Pick.{pick, both}
use Rattle.arith.proofs.PickLaws.{both_left, both_right, both_true}
use Rattle.text.specs.Decimal.{digit, decimal_text}
use Rattle.text.specs.Hex.{hex_digit}
use Rattle.log_form.specs.Forms.{suits, along, nothing, begins_number}
use Rattle.log_form.proofs.DecimalLaws.{Wide, number_sound, number_complete}

-- s can go on to a text of P
pub record Goes (P : List ℕ → Type 0) (s : List ℕ) : Type 0 where
  pub rest : List ℕ
  pub whole : P (s ++ rest)

-- f is true exactly of what can, and there is such a text
pub record Onward (f : List ℕ → Bool) (P : List ℕ → Type 0) : Type 0 where
  pub start : f [] ≡ true
  pub sound : (s : List ℕ) → f s ≡ true → Goes P s
  pub complete : (s rest : List ℕ) → P (s ++ rest) → f s ≡ true

-- nothing

pub data Nothing : List ℕ → Type 0 where
  none : Nothing []

pub onward_nothing : Onward nothing Nothing
unfolding nothing
onward_nothing = record { start = refl; sound = sound; complete = complete }
  where
    sound : (s : List ℕ) → nothing s ≡ true → Goes Nothing s
    sound [] e = record { rest = []; whole = none }
    sound (c ∷ s) e = absurd (false≢true e)

    complete : (s rest : List ℕ) → Nothing (s ++ rest) → nothing s ≡ true
    complete [] rest none = refl
    complete (_ ∷ _) rest x3 = elim x3 [ ]

-- a decimal and its line feed

pub record Decimal (lo hi : ℕ) (t : List ℕ) : Type 0 where
  pub value : ℕ
  pub low : lo ≤ value
  pub high : value ≤ hi
  pub is : t ≡ decimal_text value ++ (10 ∷ [])

pub onward_number : (lo hi : ℕ) → Wide lo hi → Onward (begins_number lo hi) (Decimal lo hi)
unfolding begins_number
onward_number lo hi w =
    record {
      start = refl;
      sound =
          λ s e.
          let r = number_sound lo hi w s e in
          record { rest = r.rest; whole = record { value = r.value; low = r.low; high = r.high; is = r.is } };
      complete = λ s rest p. number_complete lo hi w s rest p.value p.low p.high p.is;
    }

-- one byte in front, by a test

pub data After (t : ℕ → Bool) (P : List ℕ → Type 0) : List ℕ → Type 0 where
  after : {c : ℕ} {s : List ℕ} → t c ≡ true → P s → After t P (c ∷ s)

-- a byte that suits
sample : ℕ → ℕ
sample f = pick (eqb f 35) 48 f

sampled : (f : ℕ) → suits f (sample f) ≡ true
unfolding suits sample hex_digit digit
sampled f = go (eqb f 35) refl
  where
    go : (b : Bool) → eqb f 35 ≡ b → pick (eqb f 35) (hex_digit (pick (eqb f 35) 48 f)) (eqb (pick (eqb f 35) 48 f) f) ≡ true
    go true e = rw e
    go false e = rw e (eq-eqb f f refl)

module _ (f : ℕ) (fs : List ℕ) (rest : List ℕ → Bool) (P : List ℕ → Type 0) (o : Onward (along fs rest) P) where
  byte_sound : (s : List ℕ) → along (f ∷ fs) rest s ≡ true → Goes (After (suits f) P) s
  unfolding along
  byte_sound [] e =
      let g = o.sound [] o.start in
      record { rest = sample f ∷ g.rest; whole = after (sampled f) g.whole }
  byte_sound (c ∷ s) e =
      let g = o.sound s (both_right (suits f c) _ e) in
      record { rest = g.rest; whole = after (both_left (suits f c) _ e) g.whole }

  byte_complete : (s more : List ℕ) → After (suits f) P (s ++ more) → along (f ∷ fs) rest s ≡ true
  unfolding along
  byte_complete [] more p = refl
  byte_complete (c ∷ s) more (after e p) = both_true (suits f c) (along fs rest s) e (o.complete s more p)

-- a text of a form, and behind it one of P
abbrev pub Met : List ℕ → (List ℕ → Type 0) → List ℕ → Type 0
Met [] P = P
Met (f ∷ fs) P = After (suits f) (Met fs P)

pub onward_along : (fs : List ℕ) (rest : List ℕ → Bool) (P : List ℕ → Type 0) → Onward rest P → Onward (along fs rest) (Met fs P)
unfolding along
onward_along [] rest P o = record { start = o.start; sound = o.sound; complete = o.complete }
onward_along (f ∷ fs) rest P o =
    let r = onward_along fs rest P o in
    record { start = refl; sound = byte_sound f fs rest (Met fs P) r; complete = byte_complete f fs rest (Met fs P) r }

-- a form with no # is a text

unfoldable pub plain : List ℕ → Bool
plain [] = true
plain (f ∷ fs) = both (not (eqb f 35)) (plain fs)

not_true : (b : Bool) → not b ≡ true → b ≡ false
not_true true e = absurd (false≢true e)
not_true false e = refl

suits_is : (f c : ℕ) → not (eqb f 35) ≡ true → suits f c ≡ true → c ≡ f
unfolding suits
suits_is f c n e = eqb-true c f (rw (not_true (eqb f 35) n) at e)

is_suits : (f : ℕ) → not (eqb f 35) ≡ true → suits f f ≡ true
unfolding suits
is_suits f n = rw (not_true (eqb f 35) n) (eq-eqb f f refl)

pub record Behind (key : List ℕ) (P : List ℕ → Type 0) (t : List ℕ) : Type 0 where
  pub tail : List ℕ
  pub is : t ≡ key ++ tail
  pub holds : P tail

module _ (P : List ℕ → Type 0) where
  pub met_behind : (key t : List ℕ) → plain key ≡ true → Met key P t → Behind key P t
  unfolding plain
  met_behind [] t e m = record { tail = t; is = refl; holds = m }
  met_behind (f ∷ key) (c ∷ t) e (after q m) =
      let r = met_behind key t (both_right (not (eqb f 35)) (plain key) e) m in
      let same = suits_is f c (both_left (not (eqb f 35)) (plain key) e) q in
      record { tail = r.tail; is = ap (λ (x : ℕ). x ∷ t) same ∙ ap (λ (x : List ℕ). f ∷ x) r.is; holds = r.holds }
  met_behind (f ∷ key) [] e m = elim m [ ]

  pub behind_met : (key t : List ℕ) → plain key ≡ true → P t → Met key P (key ++ t)
  unfolding plain
  behind_met [] t e p = p
  behind_met (f ∷ key) t e p =
      after (is_suits f (both_left (not (eqb f 35)) (plain key) e)) (behind_met key t (both_right (not (eqb f 35)) (plain key) e) p)

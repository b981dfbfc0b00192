-- The form of a write is that of its texts, with any register of four hex digits. Assumes nothing.
use Rattle.std.specs.Prelude.{Some}
use mathlib.Core.Path.{◌≡◌, refl, ap₂, sym, ◌∙◌, subst}
use mathlib.Core.List.{List, [], ◌∷◌, ◌++◌}
use mathlib.Core.Bool.{Bool, true, false}
use Prim.Native.Nat.{ℕ, ◌+◌, ◌*◌, ◌%◌, ◌≤◌}
use native.Mathlib.Omega.{arith}
use borrow.Author.Tests.{eqb-true}
use Rattle.text.specs.Ascii.{bytes}
use Rattle.text.specs.Hex.{hex_digit, hex_value, hex_digits, hex, hex_byte, hex_text}
use Rattle.text.proofs.HexLaws.{hex_sound, hex_complete}
use Rattle.bus.specs.declared.Access.TheVariants.{Write}
use Rattle.log_line.specs.declared.Act.TheVariants.{Access}
use Rattle.log_line.specs.declared.Line.TheVariants.{One}
use Rattle.log_line.specs.Printed.{act_text, ended, line_text}
use Rattle.log_form.specs.Forms.{suits}
use Rattle.log_form.proofs.FormLaws.{Nothing, none, after, Met, met_behind, behind_met, plain}

pub digit_of : (x : ℕ) → hex_digit (hex_byte (x % 16)) ≡ true
unfolding hex hex_text hex_digits
digit_of x = go (hex_digit (hex_byte (x % 16))) refl (hex_complete 1 (x % 16) (omega arith))
  where
    go : (b : Bool) → hex_digit (hex_byte (x % 16)) ≡ b → hex 1 (hex_text 1 (x % 16)) ≡ Some (x % 16) → b ≡ true
    go true q e = refl
    go false q e =
        let m : x % 16 % 16 ≡ x % 16 = omega arith in
        absurd (let z : ◌≡◌ {A = ℕ} 0 1 = cc (rw (m, q) at e) in omega arith)

four : (a b c d : ℕ) → hex_digit a ≡ true → hex_digit b ≡ true → hex_digit c ≡ true → hex_digit d ≡ true
    → hex 4 (a ∷ b ∷ c ∷ d ∷ []) ≡ Some ((((0 * 16 + hex_value a) * 16 + hex_value b) * 16 + hex_value c) * 16 + hex_value d)
unfolding hex hex_digits
four a b c d p q r s = rw (p, q, r, s)

two : (a b : ℕ) → hex_digit a ≡ true → hex_digit b ≡ true → hex 2 (a ∷ b ∷ []) ≡ Some ((0 * 16 + hex_value a) * 16 + hex_value b)
unfolding hex hex_digits
two a b p q = rw (p, q)

abbrev pub fields : List ℕ
fields = bytes "####:##" ++ (10 ∷ [])

pub record WriteOf (t : List ℕ) : Type 0 where
  pub register : ℕ
  pub value : ℕ
  pub high : register ≤ 0xffff
  pub small : value ≤ 255
  pub is : t ≡ line_text (One (Access (Write register value)))

fields_text : {t : List ℕ} → Met fields Nothing t → WriteOf (bytes "write=" ++ t)
unfolding suits line_text act_text ended
fields_text
    (after {c = a} pa (after {c = b} pb (after {c = c} pc (after {c = d} pd
    (after {c = e} pe (after {c = f} pf (after {c = g} pg (after {c = h} ph none)))))))) =
    let r = hex_sound 4 (a ∷ b ∷ c ∷ d ∷ []) _ (four a b c d pa pb pc pd) in
    let v = hex_sound 2 (f ∷ g ∷ []) _ (two f g pf pg) in
    let x = r.fits in
    let y = v.fits in
    record {
      register = (((0 * 16 + hex_value a) * 16 + hex_value b) * 16 + hex_value c) * 16 + hex_value d;
      value = (0 * 16 + hex_value f) * 16 + hex_value g;
      high = omega arith;
      small = omega arith;
      is =
          ap₂ (λ (x y : ℕ). bytes "write=" ++ (a ∷ b ∷ c ∷ d ∷ x ∷ f ∷ g ∷ y ∷ [])) (eqb-true e 58 pe) (eqb-true h 10 ph)
          ∙ ap₂ (λ (x y : List ℕ). (bytes "write=" ++ (x ++ (58 ∷ y))) ++ (10 ∷ [])) r.is v.is;
    }

pub write_text_lem : (t : List ℕ) → Met (ended (bytes "write=####:##")) Nothing t → WriteOf t
unfolding ended plain
write_text_lem t m =
    let b = met_behind (Met fields Nothing) (bytes "write=") t refl m in
    subst WriteOf (sym b.is) (fields_text b.holds)

pub text_write : (r v : ℕ) → Met (ended (bytes "write=####:##")) Nothing (line_text (One (Access (Write r v))))
unfolding suits line_text act_text ended hex_text plain
text_write r v =
    behind_met (Met fields Nothing) (bytes "write=") ((hex_text 4 r ++ (58 ∷ hex_text 2 v)) ++ (10 ∷ [])) refl
    (after (digit_of _) (after (digit_of _) (after (digit_of _) (after (digit_of r)
    (after refl (after (digit_of _) (after (digit_of v) (after refl none))))))))

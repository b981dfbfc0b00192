-- A line's text is one line: no line feed but its last byte. Assumes nothing.
use mathlib.Core.Path.{◌≡◌, refl}
use mathlib.Core.List.{List, [], ◌∷◌, ◌++◌}
use mathlib.Core.Bool.{Bool, true, false, not, false≢true}
use Prim.Native.Nat.{ℕ, zero, suc, ◌+◌, ◌/◌, ◌%◌, ◌≤◌}
use native.Mathlib.Omega.{arith}
use borrow.Author.Tests.{eqb-false}
use lib.Dec.{eqb, ltb}
use Rattle.arith.specs.Pick.{both}
use Rattle.arith.proofs.PickLaws.{both_left, both_right, pick_both}
use Rattle.bus.specs.declared.Access.TheVariants.{Write, Read}
use Rattle.text.specs.Ascii.{bytes}
use Rattle.text.specs.Decimal.{digits_of, decimal_text}
use Rattle.text.specs.Hex.{hex_byte, hex_text}
use Rattle.log_line.specs.declared.Act.{Act}
use Rattle.log_line.specs.declared.Act.TheVariants.{Wait, Access}
use Rattle.log_line.specs.declared.Line.{Line}
use Rattle.log_line.specs.declared.Line.TheVariants.{Header, Machine, One, Loop, Done, Stop, NoForm, NoRegister}
use Rattle.log_line.specs.Printed.{act_text, ended, line_text, Printable, NoFeed, empty, byte, OneLine}

-- of bytes that are written out, by a test

other : List ℕ → Bool
other [] = true
other (c ∷ s) = both (not (eqb c 10)) (other s)

not_true : (b : Bool) → not b ≡ true → b ≡ false
not_true true e = absurd (false≢true e)
not_true false e = refl

tested : (s : List ℕ) → other s ≡ true → NoFeed s
unfolding other
tested [] e = empty
tested (c ∷ s) e =
    byte (eqb-false c 10 (not_true (eqb c 10) (both_left (not (eqb c 10)) (other s) e)))
    (tested s (both_right (not (eqb c 10)) (other s) e))

joined : (s t : List ℕ) → NoFeed s → NoFeed t → NoFeed (s ++ t)
joined [] t empty q = q
joined (c ∷ s) t (byte h p) q = byte h (joined s t p q)

-- digits are above any line feed

above : (c : ℕ) → 48 ≤ c → c ≡ 10 → ⊥
above c h e = omega arith

one : (c : ℕ) → 48 ≤ c → NoFeed (c ∷ [])
one c h = byte (above c h) empty

digits_clear : (k n : ℕ) → NoFeed (digits_of k n)
unfolding digits_of
digits_clear zero n = empty
digits_clear (suc k) n =
    pick_both NoFeed (ltb n 10) (one (48 + n) (omega arith))
    (joined (digits_of k (n / 10)) ((48 + n % 10) ∷ []) (digits_clear k (n / 10)) (one (48 + n % 10) (omega arith)))

decimal_clear : (n : ℕ) → NoFeed (decimal_text n)
unfolding decimal_text
decimal_clear n = digits_clear 10 n

byte_above : (d : ℕ) → 48 ≤ hex_byte d
unfolding hex_byte
byte_above d = pick_both (λ (c : ℕ). 48 ≤ c) (ltb d 10) (omega arith) (omega arith)

hex_clear : (k n : ℕ) → NoFeed (hex_text k n)
unfolding hex_text
hex_clear zero n = empty
hex_clear (suc k) n = joined (hex_text k (n / 16)) (hex_byte (n % 16) ∷ []) (hex_clear k (n / 16)) (one (hex_byte (n % 16)) (byte_above (n % 16)))

act_clear : (a : Act) → NoFeed (act_text a)
unfolding act_text other
act_clear (Wait n) = joined (bytes "wait=") (decimal_text n) (tested (bytes "wait=") refl) (decimal_clear n)
act_clear (Access (Write r v)) =
    joined (bytes "write=") (hex_text 4 r ++ (bytes ":" ++ hex_text 2 v)) (tested (bytes "write=") refl)
    (joined (hex_text 4 r) (bytes ":" ++ hex_text 2 v) (hex_clear 4 r) (joined (bytes ":") (hex_text 2 v) (tested (bytes ":") refl) (hex_clear 2 v)))
act_clear (Access Read) = tested (bytes "read=4015") refl

ended_line : (s : List ℕ) → NoFeed s → OneLine (ended s)
unfolding ended
ended_line s p = record { body = s; is = refl; clear = p }

pub text_line : (l : Line) → Printable l → OneLine (line_text l)
unfolding line_text other
text_line Header p = ended_line _ (tested (bytes "log=1") refl)
text_line Machine p = ended_line _ (tested (bytes "machine=pal") refl)
text_line (One a) p = ended_line _ (act_clear a)
text_line (Loop n) p = ended_line _ (joined (bytes "loop=") (decimal_text n) (tested (bytes "loop=") refl) (decimal_clear n))
text_line Done p = ended_line _ (tested (bytes "done=loop") refl)
text_line (Stop n) p = ended_line _ (joined (bytes "stop=") (decimal_text n) (tested (bytes "stop=") refl) (decimal_clear n))
text_line NoForm p = absurd p
text_line NoRegister p = absurd p

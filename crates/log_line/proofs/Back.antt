-- A line's text is read back as that line. Assumes nothing.
use Rattle.std.specs.Prelude.{Some}
use mathlib.Core.Path.{◌≡◌, refl, ap, ◌∙◌}
use mathlib.Core.List.{List, [], ◌∷◌, ◌++◌}
use mathlib.Core.Bool.{Bool, true, false, false≢true}
use Prim.Native.Nat.{ℕ, ◌-◌, ◌^◌, ◌≤◌, ◌<◌}
use native.Mathlib.Omega.{arith}
use borrow.Author.Tests.{leb-true, eqb-true}
use lib.ListN.{length, length-append}
use lib.Seq.{take-append_seam, get_or-append_seam}
use lib.Dec.{leb, eqb}
use Rattle.arith.specs.Pick.{both, either}
use Rattle.arith.proofs.PickLaws.{both_right}
use Rattle.bus.specs.Register.{is_register}
use Rattle.bus.specs.declared.Access.TheVariants.{Write, Read}
use Rattle.text.specs.Ascii.{bytes}
use Rattle.text.specs.Key.{starts_with, exactly}
use Rattle.text.specs.Numbers.{within}
use Rattle.text.specs.Decimal.{decimal, decimal_text}
use Rattle.text.specs.Hex.{hex, hex_text}
use Rattle.text.proofs.NumberLaws.{within_yes}
use Rattle.text.proofs.DecimalLaws.{decimal_complete}
use Rattle.text.proofs.HexLaws.{hex_complete}
use Rattle.log_line.specs.declared.Act.TheVariants.{Wait, Access}
use Rattle.log_line.specs.declared.Line.{Line}
use Rattle.log_line.specs.declared.Line.TheVariants.{Header, Machine, One, Loop, Done, Stop, NoForm, NoRegister}
use Rattle.log_line.specs.Said.{counted, written, write_of, wait_of, loop_of, stop_of, unfed_line, line_of}
use Rattle.log_line.specs.Printed.{act_text, ended, line_text, Printable}
use Rattle.log_line.proofs.BodyLaws.{counted_is, line_feed}

-- with its line feed behind it, what the text without it says
ended_said : (s : List ℕ) → line_of (ended s) ≡ unfed_line s
unfolding ended
ended_said s =
    let e : length (s ++ (10 ∷ [])) - 1 ≡ length s = omega (arith, length-append s (10 ∷ [])) in
    line_feed (s ++ (10 ∷ [])) (rw e (get_or-append_seam s 10 [] 0)) ∙ rw (e, take-append_seam s (10 ∷ []))

-- a number behind a key
number_said : (f : ℕ → Line) (lo hi n : ℕ) → n < 10 ^ 10 → lo ≤ n → n ≤ hi → counted f (within lo hi (decimal (decimal_text n))) ≡ f n
number_said f lo hi n h a b = counted_is f _ n (ap (within lo hi) (decimal_complete n h) ∙ within_yes lo hi n a b)

wait_said : (n : ℕ) → 1 ≤ n → n ≤ 1000000 → unfed_line (act_text (Wait n)) ≡ One (Wait n)
unfolding unfed_line exactly starts_with wait_of act_text
wait_said n a b = number_said (λ n. One (Wait n)) 1 1000000 n (omega arith) a b

loop_said : (n : ℕ) → 2 ≤ n → n ≤ 255 → unfed_line (bytes "loop=" ++ decimal_text n) ≡ Loop n
unfolding unfed_line exactly starts_with loop_of
loop_said n a b = number_said Loop 2 255 n (omega arith) a b

stop_said : (n : ℕ) → n ≤ 2000000000 → unfed_line (bytes "stop=" ++ decimal_text n) ≡ Stop n
unfolding unfed_line exactly starts_with stop_of
stop_said n b = number_said Stop 0 2000000000 n (omega arith) (omega arith) b

-- a register fits four hex digits
register_fits : (r : ℕ) → is_register r ≡ true → r < 16 ^ 4
unfolding is_register
register_fits r e = go (both (leb 0x4000 r) (leb r 0x4013)) refl (eqb r 0x4015) refl (eqb r 0x4017) refl e
  where
    go : (a : Bool) → both (leb 0x4000 r) (leb r 0x4013) ≡ a → (b : Bool) → eqb r 0x4015 ≡ b → (c : Bool) → eqb r 0x4017 ≡ c
        → either a (either b c) ≡ true → r < 16 ^ 4
    go true p b q c t e = omega (arith, leb-true r 0x4013 (both_right (leb 0x4000 r) (leb r 0x4013) p))
    go false p true q c t e = omega (arith, eqb-true r 0x4015 q)
    go false p false q true t e = omega (arith, eqb-true r 0x4017 t)
    go false p false q false t e = absurd (false≢true e)

fields_said : (r v : ℕ) → write_of (hex_text 4 r ++ (bytes ":" ++ hex_text 2 v)) ≡ written (hex 4 (hex_text 4 r)) (hex 2 (hex_text 2 v))
unfolding write_of hex_text
fields_said r v = refl

written_said : (r v : ℕ) → is_register r ≡ true → written (Some r) (Some v) ≡ One (Access (Write r v))
unfolding written
written_said r v e = rw e

write_said : (r v : ℕ) → is_register r ≡ true → v ≤ 255 → unfed_line (act_text (Access (Write r v))) ≡ One (Access (Write r v))
unfolding unfed_line exactly starts_with act_text
write_said r v e h =
    fields_said r v
    ∙ (rw (hex_complete 4 r (register_fits r e), hex_complete 2 v (omega arith)) (written_said r v e))

read_said : unfed_line (act_text (Access Read)) ≡ One (Access Read)
unfolding unfed_line exactly starts_with act_text
read_said = refl

header_said : unfed_line (bytes "log=1") ≡ Header
unfolding unfed_line exactly starts_with
header_said = refl

machine_said : unfed_line (bytes "machine=pal") ≡ Machine
unfolding unfed_line exactly starts_with
machine_said = refl

done_said : unfed_line (bytes "done=loop") ≡ Done
unfolding unfed_line exactly starts_with
done_said = refl

pub read_back : (l : Line) → Printable l → line_of (line_text l) ≡ l
unfolding line_text
read_back Header p = ended_said _ ∙ header_said
read_back Machine p = ended_said _ ∙ machine_said
read_back (One (Wait n)) p = ended_said _ ∙ wait_said n p.0 p.1
read_back (One (Access (Write r v))) p = ended_said _ ∙ write_said r v p.0 p.1
read_back (One (Access Read)) p = ended_said _ ∙ read_said
read_back (Loop n) p = ended_said _ ∙ loop_said n p.0 p.1
read_back Done p = ended_said _ ∙ done_said
read_back (Stop n) p = ended_said _ ∙ stop_said n p
read_back NoForm p = absurd p
read_back NoRegister p = absurd p

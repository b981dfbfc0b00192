-- The texts of lines in pieces, and their lengths. Assumes nothing.
use Prim.Native.Nat.{ℕ, ◌+◌}
use mathlib.Core.Path.{◌≡◌, refl}
use mathlib.Core.List.{List, [], ◌∷◌, ◌++◌}
use native.Mathlib.Omega.{arith}
use lib.ListN.{length, length-append}
use Rattle.bus.specs.declared.Access.TheVariants.{Write}
use Rattle.text.specs.Ascii.{bytes}
use Rattle.text.specs.Decimal.{decimal_text}
use Rattle.text.specs.Hex.{hex_text}
use Rattle.log_line.specs.declared.Act.TheVariants.{Access}
use Rattle.log_line.specs.declared.Line.TheVariants.{One}
use Rattle.log_line.specs.Printed.{line_text, act_text, ended}

-- a write in pieces
pub write_text_lem : (r v : ℕ) → line_text (One (Access (Write r v))) ≡ bytes "write=" ++ (hex_text 4 r ++ (bytes ":" ++ (hex_text 2 v ++ bytes "\n")))
unfolding line_text ended act_text hex_text
write_text_lem r v = refl

pub write_long : (r v : ℕ) → length (line_text (One (Access (Write r v)))) ≡ 14
unfolding line_text ended act_text hex_text
write_long r v = refl

-- a key of five bytes, a number, a line feed
pub keyed_long : (key : List ℕ) (n : ℕ) → length key ≡ 5 → length (key ++ (decimal_text n ++ (10 ∷ []))) ≡ 6 + length (decimal_text n)
keyed_long key n e = rw (length-append, length-append) (omega arith)

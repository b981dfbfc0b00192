-- How long the texts are: small buffers always hold them. Assumes nothing.
use Prim.Native.Nat.{ℕ, ◌+◌, ◌≤◌}
use mathlib.Core.Path.{◌≡◌, refl}
use mathlib.Core.Bool.{Bool, true, false}
use mathlib.Core.List.{List, []}
use native.Mathlib.Omega.{arith}
use lib.Dec.{leb}
use lib.ListN.{length, length-append}
use lib.Seq.{sets}
use Rattle.arith.specs.Pick.{pick}
use Rattle.arith.proofs.PickLaws.{pick_both}
use Rattle.text.specs.Ascii.{bytes}
use Rattle.text_print.specs.Printed.{printed, placed}
use Rattle.text_lines.specs.Lines.{pair_line}
use Rattle.text_lines.proofs.Sizes.{UpTo, keyed_size, pair_size}
use Rattle.play_interrupts.specs.declared.Change.{Change}
use Rattle.play_interrupts.specs.declared.Next.{Next}
use Rattle.play_interrupts.specs.Changes.{same}
use Rattle.perch_interrupts.specs.Text.{flag_line, change_text, next_text}

flag_size : (key : List ℕ) (t : ℕ) (before after : Bool) → UpTo (length key + 22) (flag_line key t before after)
unfolding flag_line
flag_size key t before after = pick_both (UpTo (length key + 22)) (same before after) (omega arith) (pair_size key t (pick after 1 0))

-- 96 bytes hold the lines of a change
pub change_size : (c : Change) → length (change_text c) ≤ 96
unfolding change_text
change_size c =
    simp length-append
    (omega (
      arith,
      flag_size (bytes "frame=") c.time c.before.frame c.after.frame,
      flag_size (bytes "dmc=") c.time c.before.dmc c.after.dmc,
      flag_size (bytes "line=") c.time c.before.line c.after.line,
    ))

-- and what is written of any step
pub next_size : (n : Next) → length (next_text n) ≤ 96
unfolding next_text
next_size (Next.Over t) = omega (arith, keyed_size (bytes "stop=") t)
next_size Next.Moved = omega arith
next_size (Next.Changed c) = change_size c
next_size (Next.Refused k q) = omega (arith, pair_size (bytes "refused=") k q)

-- a flag that stayed, and one that changed
module _ (key : List ℕ) (t : ℕ) (before after : Bool) where
  pub flag_none : same before after ≡ true → flag_line key t before after ≡ []
  unfolding flag_line
  flag_none e = rw e

  pub flag_some : same before after ≡ false → flag_line key t before after ≡ pair_line key t (pick after 1 0)
  unfolding flag_line
  flag_some e = rw e

-- no text
pub placed_none : (out : List ℕ) (at : ℕ) → at ≡ placed out at []
unfolding placed
placed_none out at = by (leb (at + 0) (length out))
  where
    by : (b : Bool) → at ≡ pick b (at + 0) at
    by true = omega arith
    by false = refl

pub printed_none : (out : List ℕ) (at : ℕ) → out ≡ printed out at []
unfolding printed
printed_none out at = by (leb (at + 0) (length out))
  where
    by : (b : Bool) → out ≡ pick b (sets out at []) out
    by true = refl
    by false = refl

-- A line put into place. Assumes nothing.
use Prim.Native.Nat.{ℕ, ◌+◌, ◌≤◌}
use mathlib.Core.List.{List}
use native.Mathlib.Omega.{arith}
use lib.ListN.{length}
use Rattle.text_print.specs.Printed.{Put}
use Rattle.play_text.specs.declared.Entry.{Entry}
use Rattle.play_text.specs.Entries.{entry_text}
use Rattle.play_text.specs.Lines.{Lined}

pub lined : (l : List ℕ) (at : ℕ) (n : Entry) (l' : List ℕ) (r : ℕ) → at + length (entry_text n) ≤ length l → Put l at (entry_text n) l' r → Lined l at n l' r
lined l at n l' r h p = let q = p.place in record { place = p.place; bytes = p.bytes; fits = omega arith }

-- A header's words, and where the commands begin. Assumes nothing.
use Prim.Native.Nat.{ℕ, ◌≤◌}
use mathlib.Core.Path.{◌≡◌}
use mathlib.Core.Bool.{true, not}
use mathlib.Core.List.{List}
use native.Mathlib.Omega.{arith}
use borrow.Author.Tests.{leb-true}
use lib.Dec.{eqb, ltb, leb}
use lib.ListN.{length}
use Rattle.std.specs.Prelude.{Result, Ok, Err}
use Rattle.arith.specs.Pick.{both}
use Rattle.arith.proofs.PickLaws.{pick_both, pick_each, both_right}
use Rattle.c_bytes.specs.Numbers.{wide_of}
use Rattle.text.specs.Ascii.{bytes}
use Rattle.vgm_file.specs.declared.NoPart.{NoPart}
use Rattle.vgm_file.specs.Header.{word, data_start, is_dual, commands_at}

-- a word is a number of four bytes
pub word_wide : (f : List ℕ) (at : ℕ) → wide_of f at 4 ≡ word f at
unfolding word wide_of
word_wide f at = grind arith

-- a part lies in its file
abbrev Inside : List ℕ → Result ℕ NoPart → Type 0
Inside f (Ok p) = p ≤ length f
Inside f (Err e) = Unit {0}

start_inside : (f : List ℕ) → Inside f (commands_at f)
unfolding commands_at
start_inside f =
    let inside : both (leb 0x38 (data_start f)) (leb (data_start f) (length f)) ≡ true → data_start f ≤ length f = λ e. leb-true (data_start f) (length f) (both_right (leb 0x38 (data_start f)) (leb (data_start f) (length f)) e) in
    pick_both (Inside f) (not (eqb (word f 0) (word (bytes "Vgm ") 0))) tt
    (pick_both (Inside f) (ltb (length f) 0x40) tt
    (pick_each (Inside f) (both (leb 0x38 (data_start f)) (leb (data_start f) (length f))) (λ e. pick_both (Inside f) (is_dual f) tt (inside e)) (λ e. tt)))

pub from_inside : (f : List ℕ) (p : ℕ) → commands_at f ≡ Ok p → p ≤ length f
from_inside f p e = rw e at (start_inside f)

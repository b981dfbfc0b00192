-- A file: where its commands begin, its tree, and the check of its commands by their totals. Assumes nothing.
use Prim.Native.Nat.{ℕ, zero, suc, ◌+◌, ◌-◌, ◌/◌, ◌%◌, ◌≤◌}
use mathlib.Core.Path.{◌≡◌, refl, sym}
use mathlib.Core.Bool.{Bool, true, false}
use mathlib.Core.List.{List, [], ◌∷◌}
use mathlib.Core.Logic.{inl, inr}
use native.Mathlib.Omega.{arith}
use borrow.Author.Tests.{ne_eqb}
use lib.Dec.{eqb, ltb}
use lib.ListN.{length, drop, length-drop}
use Rattle.arith.specs.Pick.{pick, either}
use Rattle.arith.specs.Iterate.{iterate}
use Rattle.arith.proofs.PickLaws.{pick_both}
use Rattle.bus.specs.declared.Access.TheVariants.{Write as Written}
use Rattle.log_line.specs.declared.Act.{Act}
use Rattle.log_line.specs.declared.Act.TheVariants.{Wait as Waited, Access}
use Rattle.log_rules.specs.Tree.{Tree, end, act, acts, clocks, turns}
use Rattle.log_rules.specs.Whole.{check_refusal, passed_check, heavy}
use Rattle.vgm_stream.specs.declared.Said.{Said}
use Rattle.vgm_stream.specs.declared.Said.TheVariants.{Wait, Write}
use Rattle.vgm_stream.specs.Stream.{Stream, ended, refused, stream_of}
use Rattle.vgm_measure.specs.Import.{stood, rest, gap, acts_from, tree_for, tally_weighed, tally_answer, tally_of}
use Rattle.vgm_measure.proofs.FaultLaws.{Refused, refused_place}
use Rattle.vgm_import.proofs.ImportLaws.{tree_clocks}
use Rattle.vgm_blocks.specs.Blocks.{front_end}
use Rattle.vgm_blocks.proofs.LimitLaws.{end_within}
use Rattle.std.specs.Prelude.{Result, Ok, Err}
use Rattle.vgm_file.specs.Header.{commands_at, is_pal_file}
use Rattle.vgm_file.specs.declared.NoPart.{NoPart}
use Rattle.vgm_file.proofs.HeaderLaws.{from_inside}
use Rattle.recording.specs.Counted.{check_from}
use Rattle.recording.specs.Whole.{start_in, start_of, stream_in, commands_check}

-- WHERE THE COMMANDS BEGIN

-- the end of the blocks in front of a part is in the file
pub blocks_within : (f : List ℕ) (p : ℕ) → p ≤ length f → p + front_end (drop p f) ≤ length f
blocks_within f p h = omega (arith, end_within (drop p f), length-drop p f)

module _ (f : List ℕ) where
  pub start_is : (p : Result ℕ NoPart) → commands_at f ≡ p → start_in p f ≡ start_of f
  unfolding start_of
  start_is p e = rw e

  pub start_from : (p : ℕ) → commands_at f ≡ Ok p → start_of f ≡ p + front_end (drop p f)
  unfolding start_in
  start_from p e = sym (start_is (Ok p) e)

  start_in_lem : (p : Result ℕ NoPart) → commands_at f ≡ p → start_in p f ≤ length f
  unfolding start_in
  start_in_lem (Ok p) e = blocks_within f p (from_inside f p e)
  start_in_lem (Err x) e = omega arith

  pub start_within : start_of f ≤ length f
  unfolding start_of
  start_within = start_in_lem (commands_at f) refl

-- ITEMS: a stream's tree has no loops, and so each turn is an item

flat_act : (a : Act) (t : Tree) → length (acts t) ≡ turns t → length (acts (act a t)) ≡ turns (act a t)
unfolding acts turns
flat_act a t e = omega arith

flat_many : (a : Act) (n : ℕ) (t : Tree) → length (acts t) ≡ turns t → length (acts (iterate (act a) n t)) ≡ turns (iterate (act a) n t)
unfolding iterate
flat_many a zero t e = e
flat_many a (suc n) t e = flat_many a n (act a t) (flat_act a t e)

flat_gap : (g : ℕ) (t : Tree) → length (acts t) ≡ turns t → length (acts (gap g t)) ≡ turns (gap g t)
unfolding gap rest
flat_gap g t e =
    flat_many (Waited 1000000) (g / 1000000) (pick (eqb (g % 1000000) 0) t (act (Waited (g % 1000000)) t))
    (pick_both (λ (u : Tree). length (acts u) ≡ turns u) (eqb (g % 1000000) 0) e (flat_act (Waited (g % 1000000)) t e))

flat_end : length (acts end) ≡ turns end
unfolding acts turns
flat_end = refl

flat_from : (pal : Bool) (l : List Said) (s h : ℕ) → length (acts (acts_from pal s h l)) ≡ turns (acts_from pal s h l)
unfolding acts_from
flat_from pal [] s h = flat_gap (stood pal s - h) end flat_end
flat_from pal (Wait n ∷ l) s h = flat_from pal l (s + n) h
flat_from pal (Write r v ∷ l) s h =
    flat_gap (stood pal s - h) (act (Access (Written r v)) (acts_from pal s (stood pal s) l))
    (flat_act (Access (Written r v)) (acts_from pal s (stood pal s) l) (flat_from pal l s (stood pal s)))

pub tree_items : (pal : Bool) (l : List Said) → length (acts (tree_for pal l)) ≡ turns (tree_for pal l)
unfolding tree_for
tree_items pal l = flat_from pal l 0 0

-- THE CHECK BY THE TOTALS

-- a fault's number is neither 0 nor 9
refused_number : (size k p : ℕ) → Refused size (refused k p) → (k ≡ 0 → ⊥) × (k ≡ 9 → ⊥)
refused_number size k p (inl h) = (λ e. omega (arith, h.0, e), λ e. omega (arith, h.0, e))
refused_number size k p (inr (inl h, l)) = (λ e. omega (arith, h, e), λ e. omega (arith, h, e))
refused_number size k p (inr (inr h, l)) = (λ e. omega (arith, h, e), λ e. omega (arith, h, e))

weighed_from : (pal : Bool) (at : ℕ) (t : Tree) → length (acts t) ≡ turns t
    → check_from pal at (tally_weighed (clocks t) (turns t)) ≡ pick (heavy t) (check_refusal 9 0) (passed_check pal t)
unfolding check_from tally_weighed heavy
weighed_from pal at t e = rw e (by (either (ltb 2000000000 (clocks t)) (ltb 1000000 (turns t))))
  where
    by : (b : Bool)
        → check_from pal at (pick b (record { number = 9; place = 0; clocks = 0; turns = 0 }) (record { number = 0; place = 0; clocks = clocks t; turns = turns t }))
        ≡ pick b (check_refusal 9 0) (record { number = 0; place = 0; pal = pal; clocks = clocks t; turns = turns t; items = turns t })
    by true = refl
    by false = refl

from_answer : (f : List ℕ) (size : ℕ) (x : Stream) → Refused size x → check_from (is_pal_file f) (start_of f) (tally_answer (is_pal_file f) x) ≡ commands_check f x
unfolding check_from tally_answer commands_check
from_answer f size (refused k p) h =
    let n = refused_number size k p h in
    rw (ne_eqb k 0 n.0, ne_eqb k 9 n.1)
from_answer f size (ended l) h =
    rw (← tree_clocks (is_pal_file f) l) (weighed_from (is_pal_file f) (start_of f) (tree_for (is_pal_file f) l) (tree_items (is_pal_file f) l))

pub check_from_lem : (f : List ℕ) → check_from (is_pal_file f) (start_of f) (tally_of (is_pal_file f) (drop (start_of f) f)) ≡ commands_check f (stream_in f)
unfolding tally_of stream_in
check_from_lem f = let s = drop (start_of f) f in from_answer f (length s) (stream_of s) (refused_place s)

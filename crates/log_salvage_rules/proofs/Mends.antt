-- A repaired log passes. Assumes nothing.
use mathlib.Core.Path.{◌≡◌, refl, ap, sym, ◌∙◌}
use mathlib.Core.List.{List, [], ◌∷◌, ◌++◌}
use mathlib.Core.Bool.{Bool, true, false}
use Prim.Native.Nat.{ℕ, ◌≤◌}
use lib.ListN.{length, drop}
use Rattle.arith.proofs.PickLaws.{pick_both}
use Rattle.text.specs.Key.{starts_with}
use Rattle.log_line.specs.declared.Line.TheVariants.{Header, Stop}
use Rattle.log_line.specs.Printed.{line_text}
use Rattle.log_rules.specs.Lines.{lines_of}
use Rattle.log_rules.specs.Tree.{Tree, clocks}
use Rattle.log_rules.specs.Whole.{tree_of, heavy, check_of}
use Rattle.log_passing.proofs.Passing.{Clear, passes, heavy_not}
use Rattle.log_salvage_rules.specs.Entries.{Entry, added}
use Rattle.log_salvage_rules.specs.Mending.{Kept, kept_tree, begun, sifted, adding, closed_by, closed, ended, mended, ended_tree, mended_tree}
use Rattle.log_salvage_rules.proofs.RunLaws.{Run, head, stopped_judged, stopped_tree, stopped_number}
use Rattle.log_salvage_rules.proofs.SiftLaws.{Going, Stayed, Left, goes, stays, sift_left, Shut, shut}

pub begun_going : (list : List Entry) → Going (begun list)
unfolding begun
begun_going list = record { run = head; unstopped = refl }

pub sifted_left : (log : List ℕ) → Left true (sifted log)
unfolding sifted
sifted_left log =
    pick_both (Left true) (starts_with (line_text Header) log) (sift_left (lines_of (drop 6 log)) (begun []) 6 (begun_going []))
    (sift_left (lines_of log) (begun (added 0 ∷ [])) 0 (begun_going (added 0 ∷ [])))

-- a repaired log is right lines, no loop open, and a right `stop`; where that is within the limits the tree is that of the lines
pub record Whole (log : List ℕ) : Type 0 where
  pub second : Bool
  pub text : List ℕ
  pub run : Run second 0 text
  pub new : (mended log).new ≡ text ++ line_text (Stop (clocks (kept_tree text)))
  pub tree : mended_tree log ≡ kept_tree text

shut_whole : (k : Kept) → Shut k → ((ended k).new ≡ k.new ++ line_text (Stop (clocks (kept_tree k.new)))) × (ended_tree k ≡ kept_tree k.new)
unfolding ended ended_tree adding
shut_whole k s = rw s.unstopped (refl, refl)

stayed_whole : (k : Kept) (s : Stayed k) → ((ended k).new ≡ s.text ++ line_text (Stop (clocks (kept_tree s.text)))) × (ended_tree k ≡ kept_tree s.text)
unfolding ended ended_tree
stayed_whole k s =
    let e : k.new ≡ s.text ++ line_text (Stop (clocks (kept_tree s.text))) = s.new ∙ ap (λ (n : ℕ). s.text ++ line_text (Stop n)) s.is in
    rw s.stopped (e, ap tree_of s.new ∙ stopped_tree s.run s.number s.within)

pub whole : (log : List ℕ) → Whole log
unfolding mended mended_tree closed closed_by
whole log = go (sifted_left log)
  where
    go : Left true (sifted log) → Whole log
    go (goes g) =
        let c = shut (sifted log).depth (sifted log) (sifted log).second g.run g.unstopped in
        let w = shut_whole (closed log) c in
        record { second = c.second; text = (closed log).new; run = c.run; new = w.0; tree = w.1 }
    go (stays e s) =
        let same : closed log ≡ sifted log = ap (λ (d : ℕ). closed_by d (sifted log)) s.depth in
        let w = stayed_whole (sifted log) s in
        record { second = s.second; text = s.text; run = s.run; new = ap (λ (k : Kept). (ended k).new) same ∙ w.0; tree = ap ended_tree same ∙ w.1 }

-- where it is not over the totals, what it stands for is what was weighed
pub mended_tree_lem : (log : List ℕ) → heavy (mended_tree log) ≡ false → tree_of (mended log).new ≡ mended_tree log
mended_tree_lem log light =
    let w = whole log in
    let h = heavy_not (kept_tree w.text) (ap heavy (sym w.tree) ∙ light) in
    ap tree_of w.new ∙ (stopped_tree w.run (clocks (kept_tree w.text)) h.0 ∙ sym w.tree)

pub mends : (log : List ℕ) → heavy (mended_tree log) ≡ false → length (mended log).new ≤ 60000 → (check_of (mended log).new).number ≡ 0
mends log light short =
    let w = whole log in
    let t : Tree = kept_tree w.text in
    let n : ℕ = clocks t in
    let h = heavy_not t (ap heavy (sym w.tree) ∙ light) in
    let tree : tree_of (w.text ++ line_text (Stop n)) ≡ t = stopped_tree w.run n h.0 in
    let c : Clear (w.text ++ line_text (Stop n)) = record {
      short = rw w.new at short;
      fine = stopped_judged w.run n h.0;
      in_clocks = rw tree h.0;
      in_turns = rw tree h.1;
      number = stopped_number w.run n h.0 ∙ ap clocks (sym tree);
    } in
    ap (λ (x : List ℕ). (check_of x).number) w.new ∙ ap (λ x. x.number) (passes c)

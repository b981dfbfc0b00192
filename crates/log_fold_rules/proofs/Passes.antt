-- A folded log passes, stands for the same list on the same machine with the same end, and is not longer; and where nothing can be folded it is the log as
-- it was. Assumes nothing.
use mathlib.Core.Path.{◌≡◌, refl, ap, sym, ◌∙◌}
use mathlib.Core.List.{List}
use mathlib.Core.Bool.{Bool, false}
use Prim.Native.Nat.{ℕ, zero, suc, ◌+◌, ◌≤◌, ◌<◌}
use native.Mathlib.Omega.{arith}
use lib.ListN.{length, length-append}
use Rattle.log_line.specs.declared.Act.{Act}
use Rattle.log_line.specs.declared.Line.TheVariants.{Stop}
use Rattle.log_line.specs.Printed.{line_text}
use Rattle.log_rules.specs.Head.{head_text, machine_of}
use Rattle.log_rules.specs.Tree.{Tree, end, act, loop, acts, clocks, turns, text, log_text, Within}
use Rattle.log_rules.specs.Whole.{tree_of, check_of}
use Rattle.log_passing.proofs.ActLaws.{clocks_in, clocks_listed}
use Rattle.log_passing.proofs.TextLaws.{stop_is}
use Rattle.log_passing.proofs.Passing.{Clear, clear, Stands, stands, printed}
use Rattle.log_fold_rules.specs.Ahead.{leading, copies_there}
use Rattle.log_fold_rules.specs.Folding.{suits, plain, choice_in, choice, made, folded, folded_tree, folded_log}
use Rattle.log_fold_rules.specs.Promise.{Folds, NoneSuits}
use Rattle.log_fold_rules.proofs.AheadLaws.{behind_none}
use Rattle.log_fold_rules.proofs.KeptLaws.{added, Kept, kept}

-- a block as a whole
module _ (t : Tree) (w : Within t 0) (h : turns t ≤ 1000000) where
  kept_tree_lem : Kept (folded_tree t) t (added t 0 (turns t)) (turns t)
  unfolding folded_tree
  kept_tree_lem = rw (behind_none t) at (kept t 0 (turns t) w h)

  same_clocks : clocks (folded_tree t) ≡ clocks t
  same_clocks = sym (clocks_listed (folded_tree t)) ∙ (ap clocks_in kept_tree_lem.same_acts ∙ clocks_listed t)

log_long : (m : Bool) (t : Tree) (n : ℕ) → length (log_text m t n) ≡ length (head_text m) + (length (text t) + length (line_text (Stop n)))
unfolding log_text
log_long m t n = length-append (head_text m) _ ∙ ap (λ (x : ℕ). length (head_text m) + x) (length-append (text t) (line_text (Stop n)))

pub folds : (log : List ℕ) → (check_of log).number ≡ 0 → Folds log (folded_log log)
unfolding folded_log
folds log h =
    let m : Bool = machine_of log in
    let t : Tree = tree_of log in
    let u : Tree = folded_tree t in
    let n : ℕ = clocks t in
    let new : List ℕ = log_text m u n in
    let c : Clear log = clear log h in
    let s : Stands log m t n = stands log h in
    let k : Kept u t (added t 0 (turns t)) (turns t) = kept_tree_lem t s.within c.in_turns in
    let e : clocks u ≡ n = same_clocks t s.within c.in_turns in
    let w : turns u ≤ 1000000 = omega (arith, k.more_turns, k.limit) in
    let longer : length (log_text m u n) ≤ length log = omega (arith, ap length s.is_text, log_long m u n, log_long m t n, k.not_longer) in
    let short : length (log_text m u n) ≤ 60000 = omega (arith, c.short) in
    let same : log_text m u (clocks u) ≡ new = ap (log_text m u) e in
    let p = printed m u k.within (rw e c.in_clocks) w (rw same short) in
    let q : tree_of new ≡ u = ap tree_of (sym same) ∙ p.1 in
    record {
      passes = ap (λ (l : List ℕ). (check_of l).number) (sym same) ∙ ap (λ x. x.number) p.0;
      same_list = ap acts q ∙ k.same_acts;
      same_machine = ap machine_of (sym same) ∙ p.2;
      same_end = ap (λ x. x.number) (stop_is m u n k.within s.stop) ∙ sym c.number;
      not_longer = longer;
    }

-- a log in which nothing can be folded comes back byte for byte

none_chosen : (n k : ℕ) (s : List Act) (q : ℕ) → ((p : ℕ) → q ≤ p → p < q + n → suits k s p (copies_there s p) ≡ false) → choice_in n k s q ≡ plain
unfolding choice_in
none_chosen zero k s q f = refl
none_chosen (suc n) k s q f = rw (f q (omega arith) (omega arith)) (none_chosen n k s (q + 1) (λ p a b. f p (omega arith) (omega arith)))

as_it_was : (t : Tree) (k : ℕ) → NoneSuits k t → folded t 0 k ≡ t
unfolding folded choice made
as_it_was end k f = refl
as_it_was (loop n b t) k f = ap (loop n b) (as_it_was t k f)
as_it_was (act a t) k f =
    let z : k + 0 ≡ k = omega arith in
    rw (none_chosen 16 k (leading (act a t)) 1 (λ p x y. f.0 p x (omega arith))) (ap (act a) (ap (folded t 0) z ∙ as_it_was t k f.1))

pub unchanged : (log : List ℕ) → (check_of log).number ≡ 0 → NoneSuits (turns (tree_of log)) (tree_of log) → folded_log log ≡ log
unfolding folded_log folded_tree
unchanged log h f = ap (λ (t : Tree). log_text (machine_of log) t (clocks (tree_of log))) (as_it_was (tree_of log) (turns (tree_of log)) f) ∙ sym (stands log h).is_text

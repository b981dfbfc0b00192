-- The totals of what has been kept, whatever lines follow: what is counted so far, and so often what each open block will hold. Assumes nothing.
use mathlib.Core.Path.{◌≡◌, refl, ap, sym, ◌∙◌}
use mathlib.Core.List.{List, [], ◌∷◌, ◌++◌, append_assoc, append-nil}
use mathlib.Core.Bool.{Bool, true, false}
use Prim.Native.Nat.{ℕ, zero, suc, ◌+◌, ◌*◌, ◌≤◌, min}
use native.Mathlib.Nat.{mul-zero, mul-suc, one-mul, mul-add, mul_assoc}
use native.Mathlib.Omega.{arith}
use borrow.Author.Tests.{leb-true, leb-false}
use lib.Dec.{leb}
use lib.ListN.{length}
use Rattle.log_line.specs.declared.Act.{Act}
use Rattle.log_line.specs.declared.Line.{Line}
use Rattle.log_line.specs.declared.Line.TheVariants.{Header, Machine, One, Loop, Done, Stop, NoForm, NoRegister}
use Rattle.log_line.specs.Printed.{line_text, Printable}
use Rattle.log_rules.specs.Lines.{lines_of}
use Rattle.log_rules.specs.Tree.{Tree, end, act, loop}
use Rattle.log_rules.specs.Whole.{grow, blocks, innermost, tree_of}
use Rattle.log_passing.proofs.TextLaws.{blocks_line}
use Rattle.log_salvage_rules.specs.Mending.{kept_tree}
use Rattle.log_salvage_rules.proofs.RunLaws.{stop_blocks}
use Rattle.log_salvage.specs.Writing.{weighed, Counts}

-- what is counted behind a line of a block that is done w times over: an act so much, a loop so much a turn
unfoldable pub counted : (Act → ℕ) → ℕ → ℕ → ℕ → Line → ℕ
counted one extra c w (One a) = c + w * one a
counted one extra c w (Loop n) = c + w * (n * extra)
counted one extra c w Header = c
counted one extra c w Machine = c
counted one extra c w Done = c
counted one extra c w (Stop n) = c
counted one extra c w NoForm = c
counted one extra c w NoRegister = c

-- how often the open blocks behind it are done
unfoldable pub weights_behind : ℕ → List ℕ → Line → List ℕ
weights_behind w ws (Loop n) = w * n ∷ w ∷ ws
weights_behind w ws Done = ws
weights_behind w ws (Stop n) = ws
weights_behind w ws (One a) = w ∷ ws
weights_behind w ws Header = w ∷ ws
weights_behind w ws Machine = w ∷ ws
weights_behind w ws NoForm = w ∷ ws
weights_behind w ws NoRegister = w ∷ ws

-- a measure of trees: nothing for the end, so much for an act, and so much and its body for each turn of a loop
pub record Measure (m : Tree → ℕ) (one : Act → ℕ) (extra : ℕ) : Type 0 where
  pub at_end : m end ≡ 0
  pub at_act : (a : Act) (t : Tree) → m (act a t) ≡ one a + m t
  pub at_loop : (n : ℕ) (b t : Tree) → m (loop n b t) ≡ n * (extra + m b) + m t

long_line : (w : ℕ) (ws : List ℕ) (l : Line) (ts : List Tree) → Printable l → length (weights_behind w ws l) ≤ length ts → length (w ∷ ws) ≤ length (grow l ts)
unfolding weights_behind grow
long_line w ws (One a) [] p h = absurd (omega arith)
long_line w ws (One a) (t ∷ ts) p h = omega arith
long_line w ws (Loop n) [] p h = absurd (omega arith)
long_line w ws (Loop n) (b ∷ []) p h = absurd (omega arith)
long_line w ws (Loop n) (b ∷ t ∷ ts) p h = omega arith
long_line w ws Header ts p h = h
long_line w ws Machine ts p h = h
long_line w ws Done ts p h = omega arith
long_line w ws (Stop n) ts p h = omega arith
long_line w ws NoForm ts p h = absurd p
long_line w ws NoRegister ts p h = absurd p

loop_sum : (c w n e b t r : ℕ) → c + (w * (n * (e + b) + t) + r) ≡ c + w * (n * e) + (w * n * b + (w * t + r))
loop_sum c w n e b t r =
    let p : w * (n * (e + b) + t) ≡ w * (n * e) + w * n * b + w * t =
    mul-add w (n * (e + b)) t ∙ ap (λ (x : ℕ). x + w * t) (ap (λ (x : ℕ). w * x) (mul-add n e b) ∙ (mul-add w (n * e) (n * b) ∙ ap (λ (x : ℕ). w * (n * e) + x) (sym (mul_assoc w n b)))) in
    omega arith

module _ {m : Tree → ℕ} {one : Act → ℕ} {extra : ℕ} (is : Measure m one extra) where
  weigh_line : (c w : ℕ) (ws : List ℕ) (l : Line) (ts : List Tree) → Printable l → length (weights_behind w ws l) ≤ length ts
      → c + weighed m (w ∷ ws) (grow l ts) ≡ counted one extra c w l + weighed m (weights_behind w ws l) ts
  unfolding weights_behind grow weighed counted
  weigh_line c w ws (One a) [] p h = absurd (omega arith)
  weigh_line c w ws (One a) (t ∷ ts) p h = rw (is.at_act a t, mul-add w (one a) (m t)) (omega arith)
  weigh_line c w ws (Loop n) [] p h = absurd (omega arith)
  weigh_line c w ws (Loop n) (b ∷ []) p h = absurd (omega arith)
  weigh_line c w ws (Loop n) (b ∷ t ∷ ts) p h = rw (is.at_loop n b t) (loop_sum c w n extra (m b) (m t) (weighed m ws ts))
  weigh_line c w ws Header ts p h = refl
  weigh_line c w ws Machine ts p h = refl
  weigh_line c w ws Done ts p h = rw (is.at_end, mul-zero w) (omega arith)
  weigh_line c w ws (Stop n) ts p h = rw (is.at_end, mul-zero w) (omega arith)
  weigh_line c w ws NoForm ts p h = absurd p
  weigh_line c w ws NoRegister ts p h = absurd p

  -- a line more
  pub counts_line : (text : List ℕ) (c w : ℕ) (ws : List ℕ) (l : Line) → Printable l → Counts m text (w ∷ ws) c → Counts m (text ++ line_text l) (weights_behind w ws l) (counted one extra c w l)
  counts_line text c w ws l p k rest h =
      let ts : List Tree = blocks (lines_of rest) in
      let b = blocks_line l rest p in
      ap (λ (x : List ℕ). m (innermost (blocks (lines_of x)))) (append_assoc text (line_text l) rest)
      ∙ (k (line_text l ++ rest) (rw b (long_line w ws l ts p h))
      ∙ (ap (λ (x : List Tree). c + weighed m (w ∷ ws) x) b
      ∙ weigh_line c w ws l ts p h))

  -- before any
  pub counts_head : Counts m (line_text Header) (1 ∷ []) 0
  unfolding grow innermost weighed
  counts_head rest h = ap (λ (x : List Tree). m (innermost x)) (blocks_line Header rest tt) ∙ go (blocks (lines_of rest)) h
    where
      go : (ts : List Tree) → 1 ≤ length ts → m (innermost ts) ≡ 0 + weighed m (1 ∷ []) ts
      go [] h = absurd (omega arith)
      go (t ∷ ts) h = rw one-mul (omega arith)

  -- in all, where no loop is open
  pub counts_kept : (text : List ℕ) (c w : ℕ) → Counts m text (w ∷ []) c → m (kept_tree text) ≡ c
  unfolding kept_tree tree_of weighed
  counts_kept text c w k =
      let b = stop_blocks 0 (omega arith) in
      k (line_text (Stop 0)) (rw b (omega arith)) ∙ (ap (λ (x : List Tree). c + weighed m (w ∷ []) x) b ∙ rw (is.at_end, mul-zero w) (omega arith))

-- and where a `stop` stayed
pub counts_all : (m : Tree → ℕ) (text : List ℕ) (c : ℕ) → Counts m text [] c → m (tree_of text) ≡ c
unfolding tree_of weighed
counts_all m text c k = ap (λ (x : List ℕ). m (innermost (blocks (lines_of x)))) (sym (append-nil text)) ∙ (k [] (omega arith) ∙ omega arith)

-- TOTALS THAT ARE CUT OFF

over_product : (i j w x : ℕ) → i ≤ j → j ≤ w → min i (w * suc x) ≡ i
over_product i j w x h k = rw (mul-suc w x) (omega arith)

pub cut_more : (i j c w x : ℕ) → i ≤ j → min i (min i c + min j w * x) ≡ min i (c + w * x)
cut_more i j c w zero h = simp mul-zero (omega arith)
cut_more i j c w (suc x) h = go (leb w j) refl
  where
    go : (b : Bool) → leb w j ≡ b → min i (min i c + min j w * suc x) ≡ min i (c + w * suc x)
    go true e =
        let q : min j w ≡ w = let k = leb-true w j e in omega arith in
        rw q (omega arith)
    go false e =
        let k = leb-false w j e in
        let a = over_product i j (min j w) x h (omega arith) in
        let b = over_product i j w x h (omega arith) in
        omega arith

pub cut_times : (j w x : ℕ) → min j (min j w * x) ≡ min j (w * x)
cut_times j w x = let h = cut_more j j 0 w x (omega arith) in omega arith

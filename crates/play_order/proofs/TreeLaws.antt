-- Two lines of a log that change places: what the tree keeps, and how its list of acts goes. Assumes nothing.
use Prim.Native.Nat.{ℕ, zero, suc, ◌+◌, ◌*◌}
use mathlib.Core.Path.{◌≡◌, refl, ap, ap₂}
use mathlib.Core.List.{List, [], ◌∷◌, ◌++◌}
use native.Mathlib.Omega.{arith}
use lib.ListN.{length}
use Rattle.log_line.specs.declared.Act.{Act}
use Rattle.log_line.specs.declared.Line.{Line}
use Rattle.log_line.specs.declared.Line.TheVariants.{Header, Machine, One, Loop, Done, Stop, NoForm, NoRegister}
use Rattle.log_rules.specs.Tree.{Tree, end, act, loop, times, acts, act_clocks, clocks, turns}
use Rattle.log_rules.specs.Whole.{grow, innermost}

module _ (a b : Act) where
  -- trees that are the same but for a and b, which may have changed places
  pub data Exchanged : Tree → Tree → Type 0 where
    same : (t : Tree) → Exchanged t t
    on : (x : Act) {t t' : Tree} → Exchanged t t' → Exchanged (act x t) (act x t')
    round : (n : ℕ) {i i' t t' : Tree} → Exchanged i i' → Exchanged t t' → Exchanged (loop n i t) (loop n i' t')
    swap : (t : Tree) → Exchanged (act a (act b t)) (act b (act a t))

  -- blocks of lines, each with its counterpart
  pub data Exchanges : List Tree → List Tree → Type 0 where
    none : Exchanges [] []
    more : {t t' : Tree} {ts ts' : List Tree} → Exchanged t t' → Exchanges ts ts' → Exchanges (t ∷ ts) (t' ∷ ts')

  pub all_same : (ts : List Tree) → Exchanges ts ts
  all_same [] = none
  all_same (t ∷ ts) = more (same t) (all_same ts)

  -- the two lines in front of blocks
  pub grown_two : (ts : List Tree) → Exchanges (grow (One a) (grow (One b) ts)) (grow (One b) (grow (One a) ts))
  unfolding grow
  grown_two [] = none
  grown_two (t ∷ ts) = more (swap t) (all_same ts)

  -- a line in front of them
  pub grown : (l : Line) {ts ts' : List Tree} → Exchanges ts ts' → Exchanges (grow l ts) (grow l ts')
  unfolding grow
  grown (One x) none = none
  grown (One x) (more e es) = more (on x e) es
  grown (Loop n) none = none
  grown (Loop n) (more e none) = none
  grown (Loop n) (more e (more e' es)) = more (round n e e') es
  grown Done es = more (same end) es
  grown (Stop n) es = more (same end) es
  grown Header es = es
  grown Machine es = es
  grown NoForm es = es
  grown NoRegister es = es

  pub inner : {ts ts' : List Tree} → Exchanges ts ts' → Exchanged (innermost ts) (innermost ts')
  unfolding innermost
  inner none = same end
  inner (more e es) = e

  -- THE TOTALS STAY
  pub clocks_same : {t t' : Tree} → Exchanged t t' → clocks t ≡ clocks t'
  unfolding clocks
  clocks_same (same t) = refl
  clocks_same (on x e) = ap (λ (k : ℕ). act_clocks x + k) (clocks_same e)
  clocks_same (round n e e') = ap₂ (λ (i k : ℕ). n * i + k) (clocks_same e) (clocks_same e')
  clocks_same (swap t) = omega arith

  pub turns_same : {t t' : Tree} → Exchanged t t' → turns t ≡ turns t'
  unfolding turns
  turns_same (same t) = refl
  turns_same (on x e) = ap (λ (k : ℕ). 1 + k) (turns_same e)
  turns_same (round n e e') = ap₂ (λ (i k : ℕ). n * (1 + i) + k) (turns_same e) (turns_same e')
  turns_same (swap t) = refl

  -- THE LIST OF ACTS: a and b may have changed places at many places, since a loop is unrolled
  pub data Swapped : List Act → List Act → Type 0 where
    finish : Swapped [] []
    next : (x : Act) {l l' : List Act} → Swapped l l' → Swapped (x ∷ l) (x ∷ l')
    cross : {l l' : List Act} → Swapped l l' → Swapped (a ∷ b ∷ l) (b ∷ a ∷ l')

  swapped_same : (l : List Act) → Swapped l l
  swapped_same [] = finish
  swapped_same (x ∷ l) = next x (swapped_same l)

  swapped_append : {l l' m m' : List Act} → Swapped l l' → Swapped m m' → Swapped (l ++ m) (l' ++ m')
  swapped_append finish n = n
  swapped_append (next x e) n = next x (swapped_append e n)
  swapped_append (cross e) n = cross (swapped_append e n)

  swapped_times : (n : ℕ) {l l' : List Act} → Swapped l l' → Swapped (times n l) (times n l')
  unfolding times
  swapped_times zero e = finish
  swapped_times (suc n) e = swapped_append e (swapped_times n e)

  pub acts_swapped : {t t' : Tree} → Exchanged t t' → Swapped (acts t) (acts t')
  unfolding acts
  acts_swapped (same t) = swapped_same (acts t)
  acts_swapped (on x e) = next x (acts_swapped e)
  acts_swapped (round n e e') = swapped_append (swapped_times n (acts_swapped e)) (acts_swapped e')
  acts_swapped (swap t) = cross (swapped_same (acts t))

  pub length_same : {l l' : List Act} → Swapped l l' → length l ≡ length l'
  length_same finish = refl
  length_same (next x e) = ap suc (length_same e)
  length_same (cross e) = ap (λ (k : ℕ). suc (suc k)) (length_same e)

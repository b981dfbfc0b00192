-- The acts of a tree: each is within the limits, and their clocks are the tree's. Assumes nothing.
use mathlib.Core.Path.{◌≡◌, refl, ap, sym, ◌∙◌}
use mathlib.Core.List.{List, [], ◌∷◌, ◌++◌}
use Prim.Native.Nat.{ℕ, zero, suc, ◌+◌, ◌*◌}
use native.Mathlib.Omega.{arith}
use native.Mathlib.Nat.{zero-mul, suc-mul, add_comm}
use Rattle.log_line.specs.declared.Act.{Act}
use Rattle.log_line.specs.Printed.{Allowed}
use Rattle.log_rules.specs.Tree.{Tree, end, act, loop, acts, times, act_clocks, clocks, Within}

-- every act of a list is within the limits
abbrev pub Every : List Act → Type 0
Every [] = Unit {0}
Every (a ∷ l) = Allowed a × Every l

every_append : (a b : List Act) → Every a → Every b → Every (a ++ b)
every_append [] b h g = g
every_append (x ∷ a) b h g = (h.0, every_append a b h.1 g)

every_times : (n : ℕ) (l : List Act) → Every l → Every (times n l)
unfolding times
every_times zero l h = tt
every_times (suc n) l h = every_append l (times n l) h (every_times n l h)

pub every_acts : (t : Tree) (d : ℕ) → Within t d → Every (acts t)
unfolding acts
every_acts end d w = tt
every_acts (act a t) d w = (w.0, every_acts t d w.1)
every_acts (loop n b t) d w =
    every_append (times n (acts b)) (acts t) (every_times n (acts b) (every_acts b (d + 1) w.2)) (every_acts t d w.3)

-- the clocks in all are those of the list
unfoldable pub clocks_in : List Act → ℕ
clocks_in [] = 0
clocks_in (a ∷ list) = act_clocks a + clocks_in list

clocks_append : (xs ys : List Act) → clocks_in (xs ++ ys) ≡ clocks_in xs + clocks_in ys
unfolding clocks_in
clocks_append [] ys = omega arith
clocks_append (a ∷ xs) ys = let h = clocks_append xs ys in omega arith

clocks_times : (n : ℕ) (l : List Act) → clocks_in (times n l) ≡ n * clocks_in l
unfolding times clocks_in
clocks_times zero l = sym (zero-mul (clocks_in l))
clocks_times (suc n) l = clocks_append l (times n l) ∙ (ap (λ (x : ℕ). clocks_in l + x) (clocks_times n l) ∙ (add_comm (clocks_in l) (n * clocks_in l) ∙ sym (suc-mul n (clocks_in l))))

pub clocks_listed : (t : Tree) → clocks_in (acts t) ≡ clocks t
unfolding clocks_in acts clocks
clocks_listed end = refl
clocks_listed (act a t) = ap (λ (x : ℕ). act_clocks a + x) (clocks_listed t)
clocks_listed (loop n b t) =
    clocks_append (times n (acts b)) (acts t)
    ∙ (ap (λ (x : ℕ). x + clocks_in (acts t)) (clocks_times n (acts b) ∙ ap (λ (x : ℕ). n * x) (clocks_listed b)) ∙ ap (λ (x : ℕ). n * clocks b + x) (clocks_listed t))

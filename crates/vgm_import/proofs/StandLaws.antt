-- The tree of a stream: within the limits, its clocks, and its accesses at their clocks. Assumes nothing.
use Prim.Native.Nat.{ℕ, zero, suc, ◌+◌, ◌-◌, ◌*◌, ◌/◌, ◌%◌, ◌≤◌}
use mathlib.Core.Path.{◌≡◌, refl, sym, ap, ◌∙◌}
use mathlib.Core.Bool.{Bool, true, false}
use mathlib.Core.List.{List, [], ◌∷◌}
use native.Mathlib.Nat.{zero-add, add-zero}
use native.Mathlib.Omega.{arith}
use lib.Dec.{eqb}
use borrow.Author.Tests.{eqb-true, eqb-false}
use Rattle.arith.specs.Pick.{pick}
use Rattle.arith.specs.Iterate.{iterate}
use Rattle.bus.specs.Register.{is_register}
use Rattle.bus.specs.declared.Access.TheVariants.{Write as Written}
use Rattle.log_line.specs.declared.Act.TheVariants.{Wait as Waited, Access}
use Rattle.log_rules.specs.Tree.{Tree, end, act, acts, act_clocks, clocks, Within}
use Rattle.vgm_stream.specs.declared.Said.{Said}
use Rattle.vgm_stream.specs.declared.Said.TheVariants.{Wait, Write}
use Rattle.vgm_measure.specs.Import.{stood, rest, gap, acts_from, samples_in}
use Rattle.vgm_import.specs.Stamps.{Stamped, at, stamped, writes_from}
use Rattle.vgm_measure.proofs.BoundLaws.{stood_more}

abbrev million : Tree → Tree
million = act (Waited 1000000)

-- clocks

clocks_act : (n : ℕ) (t : Tree) → clocks (act (Waited n) t) ≡ n + clocks t
unfolding clocks act_clocks
clocks_act n t = refl

clocks_millions : (n : ℕ) (t : Tree) → clocks (iterate million n t) ≡ 1000000 * n + clocks t
unfolding iterate
clocks_millions zero t = sym (zero-add (clocks t))
clocks_millions (suc n) t = clocks_millions n (million t) ∙ omega (arith, clocks_act 1000000 t)

clocks_rest : (g : ℕ) (t : Tree) → clocks (rest g t) ≡ g + clocks t
unfolding rest
clocks_rest g t = by (eqb g 0) refl
  where
    by : (b : Bool) → eqb g 0 ≡ b → clocks (pick b t (act (Waited g) t)) ≡ g + clocks t
    by true e = let z = eqb-true g 0 e in omega arith
    by false e = clocks_act g t

clocks_gap : (g : ℕ) (t : Tree) → clocks (gap g t) ≡ g + clocks t
unfolding gap
clocks_gap g t = clocks_millions (g / 1000000) (rest (g % 1000000) t) ∙ omega (arith, clocks_rest (g % 1000000) t)

clocks_write : (r v : ℕ) (t : Tree) → clocks (act (Access (Written r v)) t) ≡ clocks t
unfolding clocks act_clocks
clocks_write r v t = zero-add (clocks t)

clocks_end : clocks end ≡ 0
unfolding clocks
clocks_end = refl

pub clocks_from : (pal : Bool) (l : List Said) (s h : ℕ) → h ≤ stood pal s → h + clocks (acts_from pal s h l) ≡ stood pal (s + samples_in l)
unfolding acts_from samples_in
clocks_from pal [] s h k = let z = add-zero s in rw z (omega (arith, clocks_gap (stood pal s - h) end, clocks_end))
clocks_from pal (Wait n ∷ l) s h k =
    let e : s + (n + samples_in l) ≡ s + n + samples_in l = omega arith in
    rw e (clocks_from pal l (s + n) h (omega (arith, stood_more pal s n)))
clocks_from pal (Write r v ∷ l) s h k =
    let t = acts_from pal s (stood pal s) l in
    omega (arith, clocks_gap (stood pal s - h) (act (Access (Written r v)) t), clocks_write r v t, clocks_from pal l s (stood pal s) (omega arith))

-- limits

within_millions : (n : ℕ) (t : Tree) → Within t 0 → Within (iterate million n t) 0
unfolding iterate
within_millions zero t w = w
within_millions (suc n) t w = within_millions n (million t) ((omega arith, omega arith), w)

pos : (g : ℕ) → (g ≡ 0 → ⊥) → 1 ≤ g
pos zero f = absurd (f refl)
pos (suc g) f = omega arith

within_rest : (g : ℕ) (t : Tree) → g ≤ 1000000 → Within t 0 → Within (rest g t) 0
unfolding rest
within_rest g t h w = by (eqb g 0) refl
  where
    by : (b : Bool) → eqb g 0 ≡ b → Within (pick b t (act (Waited g) t)) 0
    by true e = w
    by false e = ((pos g (eqb-false g 0 e), h), w)

within_gap : (g : ℕ) (t : Tree) → Within t 0 → Within (gap g t) 0
unfolding gap
within_gap g t w = within_millions (g / 1000000) (rest (g % 1000000) t) (within_rest (g % 1000000) t (omega arith) w)

-- writes to registers, of bytes
abbrev pub Sound : List Said → Type 0
Sound [] = Unit {0}
Sound (Wait n ∷ l) = Sound l
Sound (Write r v ∷ l) = ((is_register r ≡ true) × (v ≤ 255)) × Sound l

pub within_from : (pal : Bool) (l : List Said) (s h : ℕ) → Sound l → Within (acts_from pal s h l) 0
unfolding acts_from
within_from pal [] s h q = within_gap (stood pal s - h) end tt
within_from pal (Wait n ∷ l) s h q = within_from pal l (s + n) h q
within_from pal (Write r v ∷ l) s h q = within_gap (stood pal s - h) (act (Access (Written r v)) (acts_from pal s (stood pal s) l)) (q.0, within_from pal l s (stood pal s) q.1)

-- accesses

stamped_wait : (t n : ℕ) (u : Tree) → stamped t (acts (act (Waited n) u)) ≡ stamped (t + n) (acts u)
unfolding stamped acts
stamped_wait t n u = refl

stamped_millions : (n : ℕ) (t : ℕ) (u : Tree) → stamped t (acts (iterate million n u)) ≡ stamped (t + 1000000 * n) (acts u)
unfolding iterate
stamped_millions zero t u = let e : t + 1000000 * 0 ≡ t = omega arith in rw e
stamped_millions (suc n) t u =
    let e : t + 1000000 * n + 1000000 ≡ t + 1000000 * suc n = omega arith in
    stamped_millions n t (million u) ∙ (stamped_wait (t + 1000000 * n) 1000000 u ∙ ap (λ (x : ℕ). stamped x (acts u)) e)

stamped_rest : (g t : ℕ) (u : Tree) → stamped t (acts (rest g u)) ≡ stamped (t + g) (acts u)
unfolding rest
stamped_rest g t u = by (eqb g 0) refl
  where
    by : (b : Bool) → eqb g 0 ≡ b → stamped t (acts (pick b u (act (Waited g) u))) ≡ stamped (t + g) (acts u)
    by true e = let z = eqb-true g 0 e in let y : t + g ≡ t = omega arith in rw y
    by false e = stamped_wait t g u

stamped_gap : (g t : ℕ) (u : Tree) → stamped t (acts (gap g u)) ≡ stamped (t + g) (acts u)
unfolding gap
stamped_gap g t u =
    let e : t + 1000000 * (g / 1000000) + g % 1000000 ≡ t + g = omega arith in
    stamped_millions (g / 1000000) t (rest (g % 1000000) u)
    ∙ (stamped_rest (g % 1000000) (t + 1000000 * (g / 1000000)) u ∙ ap (λ (x : ℕ). stamped x (acts u)) e)

stamped_write : (t r v : ℕ) (u : Tree) → stamped t (acts (act (Access (Written r v)) u)) ≡ at t (Written r v) ∷ stamped t (acts u)
unfolding stamped acts
stamped_write t r v u = refl

stamped_end : (t : ℕ) → stamped t (acts end) ≡ []
unfolding stamped acts
stamped_end t = refl

pub stamped_from : (pal : Bool) (l : List Said) (s h : ℕ) → h ≤ stood pal s → stamped h (acts (acts_from pal s h l)) ≡ writes_from pal s l
unfolding acts_from writes_from
stamped_from pal [] s h k = stamped_gap (stood pal s - h) h end ∙ stamped_end (h + (stood pal s - h))
stamped_from pal (Wait n ∷ l) s h k = stamped_from pal l (s + n) h (omega (arith, stood_more pal s n))
stamped_from pal (Write r v ∷ l) s h k =
    let u = acts_from pal s (stood pal s) l in
    let e : h + (stood pal s - h) ≡ stood pal s = omega arith in
    stamped_gap (stood pal s - h) h (act (Access (Written r v)) u)
    ∙ (ap (λ (x : ℕ). stamped x (acts (act (Access (Written r v)) u))) e
    ∙ (stamped_write (stood pal s) r v u ∙ ap (λ (x : List Stamped). at (stood pal s) (Written r v) ∷ x) (stamped_from pal l s (stood pal s) (omega arith))))

-- What a check answers is within document 01's limits: its number is in the table, its place in the log, and its clocks are those that a log
-- may have. Assumes nothing.
use Rattle.std.specs.Prelude.{Result, Ok, Err}
use mathlib.Core.Path.{◌≡◌, refl}
use mathlib.Core.List.{List, [], ◌∷◌}
use mathlib.Core.Bool.{Bool, true, false}
use Prim.Native.Nat.{ℕ, suc, ◌+◌, ◌≤◌}
use native.Mathlib.Omega.{arith}
use borrow.Author.Tests.{ltb-false}
use lib.ListN.{length}
use lib.Dec.{eqb, ltb}
use Rattle.refusal.specs.declared.Refusal.{Refusal}
use Rattle.arith.specs.Pick.{pick, either}
use Rattle.arith.proofs.PickLaws.{pick_both, pick_each}
use Rattle.log_line.specs.declared.Line.{Line}
use Rattle.log_line.specs.declared.Line.TheVariants.{Header, Machine, One, Loop, Done, Stop, NoForm, NoRegister}
use Rattle.log_line.specs.Said.{line_of}
use Rattle.log_rules.specs.declared.Checked.{Checked}
use Rattle.log_rules.specs.Lines.{onto, lines_of}
use Rattle.log_rules.specs.Head.{machine_of}
use Rattle.log_fault.specs.declared.Stand.{Stand as Standing}
use Rattle.log_fault.specs.declared.Stand.TheVariants.{First, Among}
use Rattle.log_fault.specs.Fault.{spot_of}
use Rattle.log_fault.proofs.Standing.{bounded}
use Rattle.log_rules.specs.Judge.{Verdict, right, wrong, Stand, first, second, among, over, found_at, verdict, behind, ending, unless, judge, judged}
use Rattle.log_rules.specs.Tree.{Tree, clocks, turns}
use Rattle.log_rules.specs.Whole.{tree_of, Stopping, stop_here, stop_from, stopping_of, check_refusal, heavy, weighed, unless_wrong, check_of}

-- the lines of a log have its bytes

abbrev total : List (List ℕ) → ℕ
total [] = 0
total (l ∷ ls) = length l + total ls

total_onto : (c : ℕ) (ls : List (List ℕ)) → total (onto c ls) ≡ suc (total ls)
unfolding onto
total_onto c [] = refl
total_onto c (l ∷ ls) = omega arith

total_lines : (s : List ℕ) → total (lines_of s) ≡ length s
unfolding lines_of
total_lines [] = refl
total_lines (c ∷ s) = go (eqb c 10) (total_lines s)
  where
    go : (b : Bool) → total (lines_of s) ≡ length s → total (pick b ((c ∷ []) ∷ lines_of s) (onto c (lines_of s))) ≡ suc (length s)
    go true e = omega arith
    go false e = let h = total_onto c (lines_of s) in omega arith

-- a fault's number is in the table, and its place is at most n
abbrev UpTo : ℕ → Verdict → Type 0
UpTo n right = Unit {0}
UpTo n (wrong k p) = (k ≤ 19) × (p ≤ n)

placed_to : (n at : ℕ) (st : Standing) (l : List ℕ) → at + length l ≤ n → (f : Result Line Refusal) → spot_of st l ≡ f → UpTo n (found_at at f)
unfolding found_at
placed_to n at st l h (Ok m) e = tt
placed_to n at st l h (Err why) e =
    let b = bounded st l why.number why.place e in
    let u = b.high in
    let p = b.place in
    (omega arith, omega arith)

verdict_to : (n at : ℕ) (s : Stand) (l : List ℕ) → at + length l ≤ n → UpTo n (verdict s at l)
unfolding verdict
verdict_to n at first l h = placed_to n at First l h (spot_of First l) refl
verdict_to n at second l h = placed_to n at (Among true 0) l h (spot_of (Among true 0) l) refl
verdict_to n at (among d) l h = placed_to n at (Among false d) l h (spot_of (Among false d) l) refl
verdict_to n at over l h = (omega arith, omega arith)

ending_to : (n at : ℕ) → at ≤ n → (s : Stand) → UpTo n (ending s at)
unfolding ending
ending_to n at h first = (omega arith, h)
ending_to n at h second = (omega arith, h)
ending_to n at h (among d) = (omega arith, h)
ending_to n at h over = tt

unless_to : (n : ℕ) (v w : Verdict) → UpTo n v → UpTo n w → UpTo n (unless v w)
unfolding unless
unless_to n right w h k = k
unless_to n (wrong m p) w h k = h

judge_to : (n : ℕ) (ls : List (List ℕ)) (s : Stand) (at : ℕ) → at + total ls ≤ n → UpTo n (judge s at ls)
unfolding judge
judge_to n [] s at h = ending_to n at (omega arith) s
judge_to n (l ∷ ls) s at h =
    unless_to n (verdict s at l) (judge (behind s l) (at + length l) ls) (verdict_to n at s l (omega arith))
    (judge_to n ls (behind s l) (at + length l) (omega arith))

-- the place of the `stop` line is, too

stop_here_lem : (n at : ℕ) (l : Line) (s : Stopping) → at ≤ n → s.place ≤ n → (stop_here at l s).place ≤ n
unfolding stop_here
stop_here_lem n at (Stop m) s h k = h
stop_here_lem n at Header s h k = k
stop_here_lem n at Machine s h k = k
stop_here_lem n at (One a) s h k = k
stop_here_lem n at (Loop m) s h k = k
stop_here_lem n at Done s h k = k
stop_here_lem n at NoForm s h k = k
stop_here_lem n at NoRegister s h k = k

stop_to : (n : ℕ) (ls : List (List ℕ)) (at : ℕ) → at + total ls ≤ n → (stop_from at ls).place ≤ n
unfolding stop_from
stop_to n [] at h = omega arith
stop_to n (l ∷ ls) at h =
    stop_here_lem n at (line_of l) (stop_from (at + length l) ls) (omega arith) (stop_to n ls (at + length l) (omega arith))

-- an answer within the limits
pub record Limited (c : Checked) : Type 0 where
  pub number : c.number ≤ 19
  pub place : c.place ≤ 60000
  pub clocks : c.clocks ≤ 2000000000

refusal_in : (k p : ℕ) → k ≤ 19 → p ≤ 60000 → Limited (check_refusal k p)
refusal_in k p n h = record { number = n; place = h; clocks = omega arith }

light : (t : Tree) → heavy t ≡ false → clocks t ≤ 2000000000
unfolding heavy
light t h = go (ltb 2000000000 (clocks t)) refl h
  where
    go : (b : Bool) → ltb 2000000000 (clocks t) ≡ b → either b (ltb 1000000 (turns t)) ≡ false → clocks t ≤ 2000000000
    go true e f = absurd (let z : ◌≡◌ {A = ℕ} 0 1 = cc in omega arith)
    go false e f = ltb-false 2000000000 (clocks t) e

weighed_in : (m : Bool) (t : Tree) (s : Stopping) → s.place ≤ 60000 → Limited (weighed m t s)
unfolding weighed
weighed_in m t s h =
    pick_each Limited (heavy t) (λ e. refusal_in 9 s.place (omega arith) h)
    (λ e. pick_both Limited (eqb s.number (clocks t)) (record { number = omega arith; place = omega arith; clocks = light t e }) (refusal_in 10 s.place (omega arith) h))

unless_in : (v : Verdict) (c : Checked) → UpTo 60000 v → Limited c → Limited (unless_wrong v c)
unfolding unless_wrong
unless_in right c h k = k
unless_in (wrong m p) c h k = refusal_in m p h.0 h.1

pub check_limits : (log : List ℕ) → Limited (check_of log)
unfolding check_of judged stopping_of
check_limits log =
    pick_each Limited (ltb 60000 (length log)) (λ e. refusal_in 5 0 (omega arith) (omega arith))
    (λ e.
    let s : 0 + total (lines_of log) ≤ 60000 = (let h = ltb-false 60000 (length log) e in let k = total_lines log in omega arith) in
    unless_in (judge first 0 (lines_of log)) (weighed (machine_of log) (tree_of log) (stop_from 0 (lines_of log))) (judge_to 60000 (lines_of log) first 0 s)
    (weighed_in (machine_of log) (tree_of log) (stop_from 0 (lines_of log)) (stop_to 60000 (lines_of log) 0 s)))

-- The totals of a log whose lines are right are those of the block behind its head. Assumes nothing.
use Rattle.std.specs.Prelude.{Result, Ok, Err}
use mathlib.Core.Path.{◌≡◌, refl, ap, sym, ◌∙◌}
use mathlib.Core.List.{List, [], ◌∷◌}
use mathlib.Core.Bool.{Bool, true, false}
use Prim.Native.Nat.{ℕ, ◌+◌, ◌≤◌, ◌<◌}
use native.Mathlib.Omega.{arith}
use borrow.Author.Tests.{ltb-false}
use lib.Dec.{eqb, ltb}
use lib.ListN.{length}
use Rattle.refusal.specs.declared.Refusal.{Refusal}
use Rattle.refusal.specs.Refusal.{refusal, number_of}
use Rattle.arith.specs.Pick.{pick, either}
use Rattle.log_line.specs.declared.Line.{Line}
use Rattle.log_line.specs.declared.Line.TheVariants.{Header}
use Rattle.log_line.specs.Said.{line_of}
use Rattle.log_fault.specs.declared.Stand.{Stand as Standing}
use Rattle.log_fault.specs.declared.Stand.TheVariants.{First, Among}
use Rattle.log_fault.specs.declared.Whole.TheVariants.{Start}
use Rattle.log_fault.specs.Allowed.{keys_of}
use Rattle.log_fault.specs.Fault.{spot_of}
use Rattle.log_fault.proofs.FaultLaws.{zero_one, Came, fine, start, feed, key, range, shape, came, Starts, starts, by_four, by_seven, by_done, by_stop}
use Rattle.log_fault.proofs.Standing.{first_header}
use Rattle.log_rules.specs.declared.Checked.{Checked}
use Rattle.log_rules.specs.Lines.{lines_of, bytes_at, next_line}
use Rattle.log_rules.specs.Head.{machine_of, start_of}
use Rattle.log_rules.specs.Judge.{Verdict, right, wrong, Stand, first, second, among, over, found_at, verdict, behind, ending, unless, judge, judged}
use Rattle.log_rules.specs.Tree.{clocks, turns}
use Rattle.log_rules.specs.Whole.{innermost, tree_of, stopping_of, check_refusal, passed_check, heavy, weighed, unless_wrong, check_of}
use Rattle.log_rules.specs.Block.{Got, closed, stopped, refused, read_block, totals, no_totals, block_answer, block_totals}
use Rattle.log_rules.proofs.Derived.{Derived, derived, inside_loop}
use Rattle.log_rules.proofs.JudgeLaws.{judge_at, after}
use Rattle.log_rules.proofs.CheckLaws.{blocks_of, judged_first, behind_head}
use Rattle.log_mend.specs.Mending.{lines_right, totals_of, StopRight}

-- NO LINE IS AT FAULT BY 0, 9 OR 10

abbrev no_line : ℕ → Bool
no_line k = either (eqb k 0) (either (eqb k 9) (eqb k 10))

abbrev Lined : Verdict → Type 0
Lined right = Unit {0}
Lined (wrong k p) = no_line k ≡ false

spot_lined : (st : Standing) (s : List ℕ) (n i : ℕ) → spot_of st s ≡ Err (refusal n i) → no_line n ≡ false
spot_lined st s n i e = go (came st s)
  where
    started : Starts (keys_of st) (line_of s) n → no_line n ≡ false
    started (by_four h a b) = rw h
    started (by_seven h m a b c) = rw h
    started (by_done h a b c) = rw h
    started (by_stop h m a b c) = rw h

    go : Came st s (spot_of st s) → no_line n ≡ false
    go (fine w r) = zero_one (cc)
    go (start m w r) = let q = ap number_of (sym r ∙ e) in started (starts (keys_of st) (line_of s) n (w ∙ ap Start q))
    go (feed w h r) = let q = ap number_of (sym e ∙ r) in rw q
    go (key h r) = let q = ap number_of (sym e ∙ r) in rw q
    go (range h a c r) = let q = ap number_of (sym e ∙ r) in rw q
    go (shape h r) = let q = ap number_of (sym e ∙ r) in rw q

found_lined : (st : Standing) (at : ℕ) (l : List ℕ) (f : Result Line Refusal) → spot_of st l ≡ f → Lined (found_at at f)
unfolding found_at
found_lined st at l (Ok m) e = tt
found_lined st at l (Err why) e = spot_lined st l why.number why.place e

verdict_lined : (s : Stand) (at : ℕ) (l : List ℕ) → Lined (verdict s at l)
unfolding verdict
verdict_lined first at l = found_lined First at l (spot_of First l) refl
verdict_lined second at l = found_lined (Among true 0) at l (spot_of (Among true 0) l) refl
verdict_lined (among d) at l = found_lined (Among false d) at l (spot_of (Among false d) l) refl
verdict_lined over at l = refl

unless_lined : (v w : Verdict) → Lined v → Lined w → Lined (unless v w)
unfolding unless
unless_lined right w h k = k
unless_lined (wrong n p) w h k = h

ending_lined : (s : Stand) (at : ℕ) → Lined (ending s at)
unfolding ending
ending_lined first at = refl
ending_lined second at = refl
ending_lined (among d) at = refl
ending_lined over at = tt

judge_lined : (ls : List (List ℕ)) (s : Stand) (at : ℕ) → Lined (judge s at ls)
unfolding judge
judge_lined [] s at = ending_lined s at
judge_lined (l ∷ ls) s at =
    unless_lined (verdict s at l) (judge (behind s l) (at + length l) ls) (verdict_lined s at l) (judge_lined ls (behind s l) (at + length l))

-- A LOG WHOSE LINES ARE RIGHT

record Fine (log : List ℕ) : Type 0 where
  short : length log ≤ 60000
  fine : judged log ≡ right

fine_of : (log : List ℕ) → lines_right log ≡ true → Fine log
unfolding lines_right check_of unless_wrong judged
fine_of log h = long (ltb 60000 (length log)) refl h
  where
    sound : length log ≤ 60000 → (v : Verdict) → judge first 0 (lines_of log) ≡ v → Lined v
        → no_line (unless_wrong v (weighed (machine_of log) (tree_of log) (stopping_of log))).number ≡ true → Fine log
    sound s right e k h = record { short = s; fine = e }
    sound s (wrong n p) e k h = let z : false ≡ true = sym k ∙ h in zero_one (cc)

    long : (b : Bool) → ltb 60000 (length log) ≡ b
        → no_line (pick b (check_refusal 5 0) (unless_wrong (judge first 0 (lines_of log)) (weighed (machine_of log) (tree_of log) (stopping_of log)))).number ≡ true
        → Fine log
    long true e h = zero_one (cc)
    long false e h = sound (ltb-false 60000 (length log) e) (judge first 0 (lines_of log)) refl (judge_lined (lines_of log) first 0) h

not_right : {k p : ℕ} → wrong k p ≡ right → ⊥
not_right h = let z : ◌≡◌ {A = ℕ} 0 1 = cc in omega arith

module _ (log : List ℕ) (c : Fine log) where
  some : 0 < length log
  unfolding judged judge lines_of ending
  some = go log c.fine
    where
      go : (s : List ℕ) → judge first 0 (lines_of s) ≡ right → 0 < length s
      go [] h = absurd (not_right h)
      go (b ∷ s) h = omega arith

  first_line : (f : Result Line Refusal) → spot_of First (bytes_at log 0) ≡ f → unless (found_at 0 f) (judge_at log second (next_line log 0)) ≡ right
      → spot_of First (bytes_at log 0) ≡ Ok Header
  unfolding found_at unless
  first_line (Ok l) e h = e ∙ ap Ok (first_header (bytes_at log 0) l e)
  first_line (Err why) e h = absurd (not_right h)

  headed : spot_of First (bytes_at log 0) ≡ Ok Header
  headed = first_line (spot_of First (bytes_at log 0)) refl (sym (judged_first log c.short some) ∙ c.fine)

  totals_of_lem : (g : Got) → Derived log (start_of log) 0 g → after log 0 g ≡ right → block_totals (block_answer g) ≡ totals (tree_of log)
  unfolding after block_answer innermost
  totals_of_lem (closed t p q) r h = absurd (let z = inside_loop r in omega arith)
  totals_of_lem (refused k p) r h = absurd (not_right h)
  totals_of_lem (stopped t p q n) r h = ap totals (sym ((behind_head log c.short some headed).tree ∙ ap innermost (blocks_of r)))

  block_totals_lem : block_totals (block_answer (read_block log (start_of log) 0)) ≡ totals (tree_of log)
  block_totals_lem =
      totals_of_lem (read_block log (start_of log) 0) (derived log (start_of log) 0) (sym (behind_head log c.short some headed).found ∙ c.fine)

pub totals_right : (log : List ℕ) → lines_right log ≡ true → block_totals (block_answer (read_block log (start_of log) 0)) ≡ totals_of log
unfolding totals_of
totals_right log h = rw h (block_totals_lem log (fine_of log h))

pub totals_wrong : (log : List ℕ) → lines_right log ≡ false → no_totals ≡ totals_of log
unfolding totals_of
totals_wrong log h = rw h

-- the test that the code makes of what a check answered
pub right_by_lem : (log : List ℕ) (c : Checked) → c ≡ check_of log → lines_right log ≡ either (eqb c.number 0) (either (eqb c.number 9) (eqb c.number 10))
unfolding lines_right
right_by_lem log c e = rw e refl

-- OF A LOG WHOSE `stop` IS WRONG THEY ARE WHOLE

light_of : (log : List ℕ) → (check_of log).number ≡ 10 → clocks (tree_of log) ≤ 2000000000
unfolding check_of unless_wrong judged weighed heavy
light_of log h = long (ltb 60000 (length log)) h
  where
    weigh : (a b d : Bool) → ltb 2000000000 (clocks (tree_of log)) ≡ a
        → (pick (either a b) (check_refusal 9 (stopping_of log).place)
        (pick d (passed_check (machine_of log) (tree_of log)) (check_refusal 10 (stopping_of log).place))).number
        ≡ 10
        → clocks (tree_of log) ≤ 2000000000
    weigh true b d e h = absurd (omega arith)
    weigh false b d e h = ltb-false 2000000000 (clocks (tree_of log)) e

    sound : (v : Verdict) → Lined v → (unless_wrong v (weighed (machine_of log) (tree_of log) (stopping_of log))).number ≡ 10 → clocks (tree_of log) ≤ 2000000000
    sound right k h =
        weigh (ltb 2000000000 (clocks (tree_of log))) (ltb 1000000 (turns (tree_of log))) (eqb (stopping_of log).number (clocks (tree_of log))) refl h
    sound (wrong n p) k h = let z : true ≡ false = rw h at k in zero_one (cc)

    long : (b : Bool)
        → (pick b (check_refusal 5 0) (unless_wrong (judge first 0 (lines_of log)) (weighed (machine_of log) (tree_of log) (stopping_of log)))).number ≡ 10
        → clocks (tree_of log) ≤ 2000000000
    long true h = absurd (omega arith)
    long false h = sound (judge first 0 (lines_of log)) (judge_lined (lines_of log) first 0) h

pub stop_right : StopRight
unfolding totals_of lines_right totals
stop_right log h = rw h (let l = light_of log h in omega arith)

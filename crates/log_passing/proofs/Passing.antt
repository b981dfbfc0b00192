-- A log that passes: how it is read, that it is the text of exactly one machine and tree with its `stop`, and that every such text passes. Assumes
-- nothing.
use Rattle.std.specs.Prelude.{Result, Ok, Err}
use mathlib.Core.Path.{◌≡◌, refl, ap, ap₂, sym, ◌∙◌}
use mathlib.Core.List.{List, [], ◌∷◌, ◌++◌, append_assoc, append-nil}
use mathlib.Core.Bool.{Bool, true, false}
use Prim.Native.Nat.{ℕ, ◌+◌, ◌≤◌, ◌<◌}
use native.Mathlib.Omega.{arith}
use borrow.Author.Tests.{eqb-true, ltb-false, eq-eqb, le-ltb}
use lib.ListN.{length, drop, drop_of_length-le}
use lib.Dec.{eqb, ltb}
use Rattle.refusal.specs.declared.Refusal.{Refusal}
use Rattle.arith.specs.Pick.{pick, either}
use Rattle.log_line.specs.declared.Line.{Line}
use Rattle.log_line.specs.declared.Line.TheVariants.{Header, Machine, One, Loop, Done, Stop}
use Rattle.log_line.specs.Printed.{line_text, Printable}
use Rattle.log_fault.specs.declared.Stand.TheVariants.{First, Among}
use Rattle.log_fault.specs.Fault.{spot_of}
use Rattle.log_fault.specs.declared.Stand.{Stand as Standing}
use Rattle.log_fault.proofs.Standing.{bounded, first_header}
use Rattle.log_rules.specs.Lines.{lines_of, bytes_at, next_line}
use Rattle.log_rules.specs.Head.{head_text, machine_of, start_of}
use Rattle.log_rules.specs.Reading.{standing, read_in, read_at}
use Rattle.log_rules.specs.Judge.{Verdict, right, wrong, Stand, first, second, among, over, found_at, verdict, behind, ending, unless, judge, judged}
use Rattle.log_rules.specs.Tree.{Tree, clocks, turns, text, log_text, Within}
use Rattle.log_rules.specs.Whole.{innermost, tree_of, Stopping, stopping_of, check_refusal, passed_check, heavy, weighed, unless_wrong, check_of}
use Rattle.log_rules.specs.Block.{Got, closed, stopped, refused, read_block}
use Rattle.log_rules.proofs.PlaceLaws.{Had, had_at, had_text, line_split, read_some}
use Rattle.log_rules.proofs.Derived.{Ending, closes, stops, Reads, an_act, a_loop, a_done, a_stop, Derived, derived, inside_loop}
use Rattle.log_rules.proofs.JudgeLaws.{judge_at, after}
use Rattle.log_rules.proofs.HeadLaws.{first_next, ntsc_start, pal_start, head_split, read_second}
use Rattle.log_rules.proofs.CheckLaws.{blocks_of, stop_of_lem, over_at, judged_first, behind_head}
use Rattle.log_passing.proofs.TextLaws.{judged_text, machine_text, tree_text, stop_is}

-- A REFUSAL HAS A NUMBER

abbrev Numbered : Verdict → Type 0
Numbered right = Unit {0}
Numbered (wrong k p) = 0 < k

placed_numbered : (st : Standing) (at : ℕ) (l : List ℕ) (f : Result Line Refusal) → spot_of st l ≡ f → Numbered (found_at at f)
unfolding found_at
placed_numbered st at l (Ok m) e = tt
placed_numbered st at l (Err why) e = let h = (bounded st l why.number why.place e).low in omega arith

verdict_numbered : (s : Stand) (at : ℕ) (l : List ℕ) → Numbered (verdict s at l)
unfolding verdict
verdict_numbered first at l = placed_numbered First at l (spot_of First l) refl
verdict_numbered second at l = placed_numbered (Among true 0) at l (spot_of (Among true 0) l) refl
verdict_numbered (among d) at l = placed_numbered (Among false d) at l (spot_of (Among false d) l) refl
verdict_numbered over at l = omega arith

unless_numbered : (v w : Verdict) → Numbered v → Numbered w → Numbered (unless v w)
unfolding unless
unless_numbered right w h k = k
unless_numbered (wrong n p) w h k = h

ending_numbered : (s : Stand) (at : ℕ) → Numbered (ending s at)
unfolding ending
ending_numbered first at = omega arith
ending_numbered second at = omega arith
ending_numbered (among d) at = omega arith
ending_numbered over at = tt

judge_numbered : (ls : List (List ℕ)) (s : Stand) (at : ℕ) → Numbered (judge s at ls)
unfolding judge
judge_numbered [] s at = ending_numbered s at
judge_numbered (l ∷ ls) s at = unless_numbered (verdict s at l) (judge (behind s l) (at + length l) ls) (verdict_numbered s at l) (judge_numbered ls (behind s l) (at + length l))

numbered : (log : List ℕ) → Numbered (judged log)
unfolding judged
numbered log = judge_numbered (lines_of log) first 0

-- NUMBER 0 IS GIVEN EXACTLY WHERE NOTHING IS WRONG

pub record Clear (log : List ℕ) : Type 0 where
  pub short : length log ≤ 60000
  pub fine : judged log ≡ right
  pub in_clocks : clocks (tree_of log) ≤ 2000000000
  pub in_turns : turns (tree_of log) ≤ 1000000
  pub number : (stopping_of log).number ≡ clocks (tree_of log)

pub heavy_not : (t : Tree) → heavy t ≡ false → (clocks t ≤ 2000000000) × (turns t ≤ 1000000)
unfolding heavy
heavy_not t h = go (ltb 2000000000 (clocks t)) refl (ltb 1000000 (turns t)) refl h
  where
    go : (a : Bool) → ltb 2000000000 (clocks t) ≡ a → (b : Bool) → ltb 1000000 (turns t) ≡ b → either a b ≡ false → (clocks t ≤ 2000000000) × (turns t ≤ 1000000)
    go true e b f h = let z : true ≡ false = h in absurd (let y : ◌≡◌ {A = ℕ} 0 1 = cc in omega arith)
    go false e true f h = absurd (let y : ◌≡◌ {A = ℕ} 0 1 = cc in omega arith)
    go false e false f h = (ltb-false 2000000000 (clocks t) e, ltb-false 1000000 (turns t) f)

pub clear : (log : List ℕ) → (check_of log).number ≡ 0 → Clear log
unfolding check_of unless_wrong weighed
clear log h = long (ltb 60000 (length log)) refl h
  where
    same : length log ≤ 60000 → judged log ≡ right → heavy (tree_of log) ≡ false → (b : Bool) → eqb (stopping_of log).number (clocks (tree_of log)) ≡ b
        → (pick b (passed_check (machine_of log) (tree_of log)) (check_refusal 10 (stopping_of log).place)).number ≡ 0 → Clear log
    same s f w true e h = record { short = s; fine = f; in_clocks = (heavy_not (tree_of log) w).0; in_turns = (heavy_not (tree_of log) w).1; number = eqb-true (stopping_of log).number (clocks (tree_of log)) e }
    same s f w false e h = absurd (omega arith)

    weigh : length log ≤ 60000 → judged log ≡ right → (b : Bool) → heavy (tree_of log) ≡ b
        → (pick b (check_refusal 9 (stopping_of log).place) (pick (eqb (stopping_of log).number (clocks (tree_of log))) (passed_check (machine_of log) (tree_of log)) (check_refusal 10 (stopping_of log).place))).number ≡ 0 → Clear log
    weigh s f true e h = absurd (omega arith)
    weigh s f false e h = same s f e (eqb (stopping_of log).number (clocks (tree_of log))) refl h

    sound : length log ≤ 60000 → (v : Verdict) → judged log ≡ v → Numbered v → (unless_wrong v (weighed (machine_of log) (tree_of log) (stopping_of log))).number ≡ 0 → Clear log
    sound s right e k h = weigh s e (heavy (tree_of log)) refl h
    sound s (wrong n p) e k h = absurd (omega arith)

    long : (b : Bool) → ltb 60000 (length log) ≡ b → (pick b (check_refusal 5 0) (unless_wrong (judged log) (weighed (machine_of log) (tree_of log) (stopping_of log)))).number ≡ 0 → Clear log
    long true e h = absurd (omega arith)
    long false e h = sound (ltb-false 60000 (length log) e) (judged log) refl (numbered log) h

pub not_heavy : (t : Tree) → clocks t ≤ 2000000000 → turns t ≤ 1000000 → heavy t ≡ false
unfolding heavy
not_heavy t h k = rw (le-ltb 2000000000 (clocks t) h, le-ltb 1000000 (turns t) k)

-- and there the answer holds the machine and the tree's totals, whole and exact
pub passes : {log : List ℕ} → Clear log → check_of log ≡ passed_check (machine_of log) (tree_of log)
unfolding check_of unless_wrong weighed
passes {log} c =
    rw (le-ltb 60000 (length log) c.short, c.fine, not_heavy (tree_of log) c.in_clocks c.in_turns, eq-eqb (stopping_of log).number (clocks (tree_of log)) c.number)

-- HOW A LOG THAT PASSES IS READ

pub record Passing (log : List ℕ) : Type 0 where
  pub header : read_at log 0 ≡ Ok (Header, 6)
  pub ntsc : machine_of log ≡ false → start_of log ≡ 6
  pub pal : machine_of log ≡ true → read_in (standing log 6 0) log 6 ≡ Ok (Machine, start_of log)
  pub head : log ≡ head_text (machine_of log) ++ drop (start_of log) log
  pub place : ℕ
  pub behind : ℕ
  pub reads : Reads log (start_of log) 0 (tree_of log) (stops place behind (clocks (tree_of log)))
  pub last : length log ≤ behind

not_right : {k p : ℕ} → wrong k p ≡ right → ⊥
not_right h = let z : ◌≡◌ {A = ℕ} 0 1 = cc in omega arith

module _ (log : List ℕ) (c : Clear log) where
  some : 0 < length log
  unfolding judged judge lines_of ending
  some = go log c.fine
    where
      go : (s : List ℕ) → judge first 0 (lines_of s) ≡ right → 0 < length s
      go [] h = absurd (not_right h)
      go (b ∷ s) h = omega arith

  first_line : (f : Result Line Refusal) → spot_of First (bytes_at log 0) ≡ f → unless (found_at 0 f) (judge_at log second (next_line log 0)) ≡ right
      → spot_of First (bytes_at log 0) ≡ Ok Header
  unfolding found_at unless
  first_line (Ok l) e h = e ∙ ap Ok (first_header (bytes_at log 0) l e)
  first_line (Err why) e h = absurd (not_right h)

  headed : spot_of First (bytes_at log 0) ≡ Ok Header
  headed = first_line (spot_of First (bytes_at log 0)) refl (sym (judged_first log c.short some) ∙ c.fine)

  at_header : read_at log 0 ≡ Ok (Header, 6)
  unfolding read_at
  at_header = read_some First log 0 c.short some ∙ rw (headed, first_next log headed)

  -- the lines behind the head come to a block that `stop` ends
  after_is : after log 0 (read_block log (start_of log) 0) ≡ right
  after_is = sym (behind_head log c.short some headed).found ∙ c.fine

  last_of : (q : ℕ) (b : Bool) → ltb q (length log) ≡ b → pick b (wrong 19 q) right ≡ right → length log ≤ q
  last_of q true e h = absurd (not_right h)
  last_of q false e h = ltb-false q (length log) e

  passing_of : (g : Got) → Derived log (start_of log) 0 g → after log 0 g ≡ right → Passing log
  unfolding after innermost
  passing_of (closed t p q) r h = absurd (let z = inside_loop r in omega arith)
  passing_of (refused k p) r h = absurd (not_right h)
  passing_of (stopped t p q n) r h =
      let b = behind_head log c.short some headed in
      let same : tree_of log ≡ t = b.tree ∙ ap innermost (blocks_of r) in
      let num : n ≡ clocks (tree_of log) = sym (ap (λ (s : Stopping). s.number) (b.stop ∙ stop_of_lem r)) ∙ c.number in
      record {
        header = at_header;
        ntsc = ntsc_start log headed;
        pal = λ m. rw (pal_start log headed m) (read_second log c.short m);
        head = head_split log headed (machine_of log) refl;
        place = p;
        behind = q;
        reads = rw (← num) (rw same r);
        last = last_of q (ltb q (length log)) refl (sym (over_at log q) ∙ h);
      }

  pub passing : Passing log
  passing = passing_of (read_block log (start_of log) 0) (derived log (start_of log) 0) after_is

-- WHAT IS READ IS WHAT IS PRINTED

module _ (log : List ℕ) where
  pub had_split : {st : Standing} {at : ℕ} {l : Line} {next : ℕ} → Had st log at l next → drop at log ≡ line_text l ++ drop next log
  had_split {st} {at} {l} {next} h = line_split log at ∙ ap₂ ◌++◌ (had_text h).0 (ap (λ (i : ℕ). drop i log) (sym h.on))

  -- the bytes from the line on that ends a block
  abbrev pub tail_of : Ending → List ℕ
  tail_of (closes p q) = line_text Done ++ drop q log
  tail_of (stops p q n) = line_text (Stop n) ++ drop q log

  pub text_of : {at d : ℕ} {t : Tree} {e : Ending} → Reads log at d t e → drop at log ≡ text t ++ tail_of e
  unfolding text
  text_of {at} {d} {t} {e} (an_act {a = a} {t = u} l r) =
      had_split (had_at log at _ _ l) ∙ (ap (λ (s : List ℕ). line_text (One a) ++ s) (text_of r) ∙ sym (append_assoc (line_text (One a)) (text u) (tail_of e)))
  text_of {at} {d} {t} {e} (a_loop {n = n} {b = b} {t = u} l i k r r') =
      had_split (had_at log at _ _ l)
      ∙ (ap (λ (s : List ℕ). line_text (Loop n) ++ s) (text_of r ∙ ap (λ (s : List ℕ). text b ++ (line_text Done ++ s)) (text_of r')) ∙ simp append_assoc)
  text_of {at} {d} (a_done l h) = had_split (had_at log at _ _ l)
  text_of {at} (a_stop l) = had_split (had_at log at _ _ l)

  pub within_of : {at d : ℕ} {t : Tree} {e : Ending} → Reads log at d t e → Within t d
  within_of {at} {d} (an_act l r) = ((had_text (had_at log at _ _ l)).1, within_of r)
  within_of {at} {d} (a_loop l i k r r') = ((had_text (had_at log at _ _ l)).1, k, within_of r, within_of r')
  within_of (a_done l h) = tt
  within_of (a_stop l) = tt

  stop_within : {at d p q n : ℕ} {t : Tree} → Reads log at d t (stops p q n) → Printable (Stop n)
  stop_within (an_act l r) = stop_within r
  stop_within (a_loop l i k r r') = stop_within r'
  stop_within {at} (a_stop l) = (had_text (had_at log at _ _ l)).1

-- A LOG THAT PASSES IS THE TEXT OF ONE MACHINE AND TREE

-- a log is the text of a machine, a tree within the limits and its `stop`
pub record Stands (log : List ℕ) (m : Bool) (t : Tree) (n : ℕ) : Type 0 where
  pub is_text : log ≡ log_text m t n
  pub within : Within t 0
  pub stop : Printable (Stop n)

pub stands : (log : List ℕ) → (check_of log).number ≡ 0 → Stands log (machine_of log) (tree_of log) (clocks (tree_of log))
unfolding log_text
stands log h =
    let p = passing log (clear log h) in
    let t = tree_of log in
    let n = clocks t in
    let end_is : drop (start_of log) log ≡ text t ++ line_text (Stop n) =
    text_of log p.reads ∙ ap (λ (s : List ℕ). text t ++ s) (rw (drop_of_length-le log p.last) (append-nil (line_text (Stop n)))) in
    record {
      is_text = p.head ∙ ap (λ (s : List ℕ). head_text (machine_of log) ++ s) end_is;
      within = within_of log p.reads;
      stop = stop_within log p.reads;
    }

-- and of no other
pub only : {log : List ℕ} {m k : Bool} {t u : Tree} {n o : ℕ} → Stands log m t n → Stands log k u o → (m ≡ k) × (t ≡ u) × (n ≡ o)
only {log} {m} {k} {t} {u} {n} {o} a b =
    let e : log_text m t n ≡ log_text k u o = sym a.is_text ∙ b.is_text in (
      sym (machine_text m t n) ∙ (ap machine_of e ∙ machine_text k u o),
      sym (tree_text m t n a.within a.stop) ∙ (ap tree_of e ∙ tree_text k u o b.within b.stop),
      ap (λ (s : Stopping). s.number) (sym (stop_is m t n a.within a.stop) ∙ (ap stopping_of e ∙ stop_is k u o b.within b.stop)),
    )

-- every such text within the limits of a whole log passes, and stands for its machine and tree
pub printed : (m : Bool) (t : Tree) → Within t 0 → clocks t ≤ 2000000000 → turns t ≤ 1000000 → length (log_text m t (clocks t)) ≤ 60000
    → (check_of (log_text m t (clocks t)) ≡ passed_check m t) × (tree_of (log_text m t (clocks t)) ≡ t) × (machine_of (log_text m t (clocks t)) ≡ m)
printed m t w h k s =
    let log = log_text m t (clocks t) in
    let e : tree_of log ≡ t = tree_text m t (clocks t) w h in
    let c : Clear log = record {
      short = s;
      fine = judged_text m t (clocks t) w h;
      in_clocks = rw e h;
      in_turns = rw e k;
      number = ap (λ (x : Stopping). x.number) (stop_is m t (clocks t) w h) ∙ sym (ap clocks e);
    } in
    let i : machine_of log ≡ m = machine_text m t (clocks t) in
    (passes c ∙ ap₂ passed_check i e, e, i)

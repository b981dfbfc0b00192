-- Two lines of a log that change places: the check answers the same. Assumes nothing.
use Prim.Native.Nat.{ℕ, ◌+◌}
use mathlib.Core.Path.{◌≡◌, refl, ap, sym, ◌∙◌}
use mathlib.Core.Bool.{Bool, true, false, not}
use mathlib.Core.List.{List, [], ◌∷◌, ◌++◌}
use native.Mathlib.Omega.{arith}
use lib.Dec.{eqb}
use lib.ListN.{length, length-append}
use Rattle.arith.specs.Pick.{pick, both}
use Rattle.arith.proofs.PickLaws.{both_left, both_right}
use Rattle.bus.specs.declared.Access.TheVariants.{Write}
use Rattle.text.specs.Key.{starts_with}
use Rattle.log_line.specs.declared.Act.{Act}
use Rattle.log_line.specs.declared.Act.TheVariants.{Access}
use Rattle.log_line.specs.declared.Line.{Line}
use Rattle.log_line.specs.declared.Line.TheVariants.{Header, Machine, One, Loop, Done, Stop, NoForm, NoRegister}
use Rattle.log_line.specs.Printed.{act_text, ended, line_text, Printable}
use Rattle.log_line.specs.Said.{line_of}
use Rattle.log_fault.proofs.Standing.{act as acts-on, goes_may}
use Rattle.log_rules.specs.Lines.{onto, lines_of}
use Rattle.log_rules.specs.Judge.{Stand, first, second, among, over, verdict, leaves, behind, unless, judge, judged}
use Rattle.log_rules.specs.Head.{head_text, machine_of}
use Rattle.log_rules.specs.Whole.{blocks, tree_of, Stopping, stop_here, stop_from, stopping_of, heavy, weighed, check_of}
use Rattle.log_passing.proofs.TextLaws.{lines_text, blocks_line, stop_line_lem, judge_line, judge_second}
use Rattle.play_order.specs.Order.{write_line, log_with}
use Rattle.play_order.proofs.TreeLaws.{Exchanged, Exchanges, grown_two, grown, inner, clocks_same, turns_same, acts_swapped, length_same}

-- LINES

-- the lines up to a line feed, whatever stands behind it
record Fronted (front : List ℕ) : Type 0 where
  one : List ℕ
  others : List (List ℕ)
  is : (rest : List ℕ) → lines_of (front ++ (10 ∷ rest)) ≡ one ∷ (others ++ lines_of rest)

fronted : (front : List ℕ) → Fronted front
unfolding lines_of onto
fronted [] = record { one = 10 ∷ []; others = []; is = λ rest. refl }
fronted (c ∷ front) = go (eqb c 10) (fronted front) refl
  where
    go : (t : Bool) → Fronted front → eqb c 10 ≡ t → Fronted (c ∷ front)
    go true f e = record { one = c ∷ []; others = f.one ∷ f.others; is = λ rest. rw e (ap (λ (ls : List (List ℕ)). (c ∷ []) ∷ ls) (f.is rest)) }
    go false f e = record { one = c ∷ f.one; others = f.others; is = λ rest. rw e (ap (onto c) (f.is rest)) }

-- where a line behind the first one stands
abbrev Further : Stand → Type 0
Further first = ⊥
Further second = Unit {0}
Further (among d) = Unit {0}
Further over = Unit {0}

leaves_further : (d : ℕ) (l : Line) → Further (leaves d l)
unfolding leaves
leaves_further d Header = tt
leaves_further d Machine = tt
leaves_further d (One x) = tt
leaves_further d (Loop n) = tt
leaves_further d Done = tt
leaves_further d (Stop n) = tt
leaves_further d NoForm = tt
leaves_further d NoRegister = tt

behind_further : (s : Stand) (l : List ℕ) → Further (behind s l)
unfolding behind
behind_further first l = tt
behind_further second l = leaves_further 0 (line_of l)
behind_further (among d) l = leaves_further d (line_of l)
behind_further over l = tt

-- TWO ACTS THAT CHANGE PLACES
module _ (a b : Act) (p : Printable (One a)) (q : Printable (One b)) (back : List ℕ) where
  abbrev x : List ℕ
  x = line_text (One a)

  abbrev y : List ℕ
  y = line_text (One b)

  -- the lines of the two in one order, and in the other
  abbrev xy : List (List ℕ)
  xy = lines_of (x ++ (y ++ back))

  abbrev yx : List (List ℕ)
  yx = lines_of (y ++ (x ++ back))

  across : (at : ℕ) → at + length x + length y ≡ at + length y + length x
  across at = omega arith

  judge_two : (s : Stand) → Further s → (at : ℕ) → judge s at xy ≡ judge s at yx
  unfolding judge verdict unless leaves
  judge_two first h at = absurd h
  judge_two second h at =
      judge_second (One a) (y ++ back) p at (goes_may true acts-on)
      ∙ (judge_line (One b) back q (at + length x) 0 acts-on
      ∙ (ap (λ (i : ℕ). judge (among 0) i (lines_of back)) (across at)
      ∙ (sym (judge_line (One a) back p (at + length y) 0 acts-on)
      ∙ sym (judge_second (One b) (x ++ back) q at (goes_may true acts-on)))))
  judge_two (among d) h at =
      judge_line (One a) (y ++ back) p at d acts-on
      ∙ (judge_line (One b) back q (at + length x) d acts-on
      ∙ (ap (λ (i : ℕ). judge (among d) i (lines_of back)) (across at)
      ∙ (sym (judge_line (One a) back p (at + length y) d acts-on)
      ∙ sym (judge_line (One b) (x ++ back) q at d acts-on))))
  judge_two over h at = rw (lines_text (One a) (y ++ back) p, lines_text (One b) (x ++ back) q)

  judge_lines : (ls : List (List ℕ)) (s : Stand) → Further s → (at : ℕ) → judge s at (ls ++ xy) ≡ judge s at (ls ++ yx)
  unfolding judge
  judge_lines [] s h at = judge_two s h at
  judge_lines (l ∷ ls) s h at = ap (unless (verdict s at l)) (judge_lines ls (behind s l) (behind_further s l) (at + length l))

  stop_lines : (ls : List (List ℕ)) (at : ℕ) → stop_from at (ls ++ xy) ≡ stop_from at (ls ++ yx)
  unfolding stop_from stop_here
  stop_lines [] at =
      stop_line_lem (One a) (y ++ back) p at
      ∙ (stop_line_lem (One b) back q (at + length x)
      ∙ (ap (λ (i : ℕ). stop_from i (lines_of back)) (across at)
      ∙ (sym (stop_line_lem (One a) back p (at + length y))
      ∙ sym (stop_line_lem (One b) (x ++ back) q at))))
  stop_lines (l ∷ ls) at = ap (stop_here at (line_of l)) (stop_lines ls (at + length l))

  blocks_lines : (ls : List (List ℕ)) → Exchanges a b (blocks (ls ++ xy)) (blocks (ls ++ yx))
  unfolding blocks
  blocks_lines [] =
      rw (blocks_line (One a) (y ++ back) p, blocks_line (One b) back q, blocks_line (One b) (x ++ back) q, blocks_line (One a) back p)
      (grown_two a b (blocks (lines_of back)))
  blocks_lines (l ∷ ls) = grown a b (line_of l) (blocks_lines ls)

-- THE MACHINE

-- behind each line feed of a key stands another byte than the first one of `write`, or none
unfoldable apart : List ℕ → Bool
apart [] = true
apart (k ∷ []) = true
apart (k ∷ c ∷ ks) = both (not (both (eqb 10 k) (eqb 119 c))) (apart (c ∷ ks))

starts_same : (key front s t : List ℕ) → apart key ≡ true → starts_with key (front ++ (10 ∷ 119 ∷ s)) ≡ starts_with key (front ++ (10 ∷ 119 ∷ t))
unfolding starts_with apart
starts_same [] front s t h = refl
starts_same (k ∷ []) [] s t h = refl
starts_same (k ∷ c ∷ ks) [] s t h = go (eqb 10 k) (eqb 119 c) (both_left (not (both (eqb 10 k) (eqb 119 c))) (apart (c ∷ ks)) h)
  where
    go : (d e : Bool) → not (both d e) ≡ true → pick d (pick e (starts_with ks s) false) false ≡ pick d (pick e (starts_with ks t) false) false
    go true true h = cc
    go true false h = refl
    go false e h = refl
starts_same (k ∷ []) (f ∷ front) s t h = refl
starts_same (k ∷ c ∷ ks) (f ∷ front) s t h =
    ap (λ (r : Bool). pick (eqb f k) r false) (starts_same (c ∷ ks) front s t (both_right (not (both (eqb 10 k) (eqb 119 c))) (apart (c ∷ ks)) h))

-- A LOG WITH TWO WRITE LINES, AND THE LOG WITH THE TWO IN THE OTHER ORDER
module _ (front back : List ℕ) (register register' value value' : ℕ) where
  abbrev pub a : Act
  a = Access (Write register value)

  abbrev pub b : Act
  b = Access (Write register' value')

  abbrev pub log : List ℕ
  log = log_with front (write_line register value) (write_line register' value') back

  abbrev pub log' : List ℕ
  log' = log_with front (write_line register' value') (write_line register value) back

  pub machine_same : machine_of log ≡ machine_of log'
  unfolding machine_of apart line_text act_text ended
  machine_same = starts_same (head_text true) front _ _ refl

  long_same : length log ≡ length log'
  long_same = simp length-append (omega arith)

  module _ (p : Printable (One a)) (q : Printable (One b)) where
    ahead : List (List ℕ)
    ahead = (fronted front).one ∷ (fronted front).others

    lines : lines_of log ≡ ahead ++ xy a b p q back
    unfolding ahead
    lines = (fronted front).is (line_text (One a) ++ (line_text (One b) ++ back))

    lines' : lines_of log' ≡ ahead ++ yx a b p q back
    unfolding ahead
    lines' = (fronted front).is (line_text (One b) ++ (line_text (One a) ++ back))

    judged_same : judged log ≡ judged log'
    unfolding judged judge ahead
    judged_same =
        let one = (fronted front).one in
        ap (judge first 0) lines
        ∙ (ap (unless (verdict first 0 one)) (judge_lines a b p q back (fronted front).others (behind first one) (behind_further first one) (0 + length one))
        ∙ sym (ap (judge first 0) lines'))

    stop_same : stopping_of log ≡ stopping_of log'
    unfolding stopping_of
    stop_same = ap (stop_from 0) lines ∙ (stop_lines a b p q back ahead 0 ∙ sym (ap (stop_from 0) lines'))

    pub exchanged : Exchanged a b (tree_of log) (tree_of log')
    unfolding tree_of
    exchanged = inner a b (rw (lines, lines') (blocks_lines a b p q back ahead))

    weighed_same : (m : Bool) (s : Stopping) → weighed m (tree_of log) s ≡ weighed m (tree_of log') s
    unfolding weighed heavy
    weighed_same m s = rw (clocks_same a b exchanged, turns_same a b exchanged, length_same a b (acts_swapped a b exchanged))

    -- THE CHECK ANSWERS THE SAME
    pub check_same : check_of log ≡ check_of log'
    unfolding check_of
    check_same = rw (long_same, judged_same, machine_same, stop_same, weighed_same (machine_of log') (stopping_of log'))

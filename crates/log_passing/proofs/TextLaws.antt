-- What is written is read: the text of a tree within the limits stands for that tree, whatever stands before and behind it. Assumes nothing.
use mathlib.Core.Path.{◌≡◌, refl, ap, sym, ◌∙◌}
use mathlib.Core.List.{List, [], ◌∷◌, ◌++◌, append_assoc, append-nil}
use mathlib.Core.Bool.{Bool, true, false}
use Prim.Native.Nat.{ℕ, ◌+◌, ◌-◌}
use native.Mathlib.Omega.{arith}
use borrow.Author.Tests.{eq-eqb, ne_eqb}
use lib.ListN.{length, length-append}
use Rattle.bus.specs.declared.Access.TheVariants.{Write, Read}
use Rattle.text.specs.Key.{starts_with}
use Rattle.text.proofs.KeyLaws.{starts_joined}
use Rattle.log_line.specs.declared.Act.{Act}
use Rattle.log_line.specs.declared.Act.TheVariants.{Wait, Access}
use Rattle.log_line.specs.declared.Line.{Line}
use Rattle.log_line.specs.declared.Line.TheVariants.{Header, Machine, One, Loop, Done, Stop}
use Rattle.log_line.specs.Printed.{act_text, ended, line_text, Printable, NoFeed, empty, byte}
use Rattle.log_line.proofs.LineLaws.{printed_read, one_line}
use Rattle.log_fault.specs.declared.Stand.TheVariants.{First, Among}
use Rattle.log_begins.specs.Fronts.{allowed}
use Rattle.log_fault.specs.Allowed.{keys_of}
use Rattle.log_fault.proofs.FaultLaws.{line_right}
use Rattle.log_fault.proofs.Standing.{Goes, act as acts-on, opens as opened-on, closes as closes-on, ends as ends_on, goes_may}
use Rattle.log_rules.specs.Lines.{onto, lines_of}
use Rattle.log_rules.specs.Judge.{right, first, second, among, found_at, verdict, leaves, behind, ending, unless, judge, judged}
use Rattle.log_rules.specs.Head.{head_text, machine_of}
use Rattle.log_rules.specs.Tree.{Tree, end, act, loop, text, log_text, Within}
use Rattle.log_rules.specs.Whole.{grow, blocks, innermost, tree_of, stop_here, stop_from, stopping_of}

-- ONE LINE

lines_clear : (s rest : List ℕ) → NoFeed s → lines_of ((s ++ (10 ∷ [])) ++ rest) ≡ (s ++ (10 ∷ [])) ∷ lines_of rest
unfolding lines_of onto
lines_clear [] rest empty = refl
lines_clear (c ∷ s) rest (byte h n) = rw (ne_eqb c 10 h) (ap (onto c) (lines_clear s rest n))

module _ (l : Line) (rest : List ℕ) (p : Printable l) where
  -- the lines of a line's text and what is behind it
  pub lines_text : lines_of (line_text l ++ rest) ≡ line_text l ∷ lines_of rest
  lines_text = let o = one_line l p in rw o.is (lines_clear o.body rest o.clear)

  pub blocks_line : blocks (lines_of (line_text l ++ rest)) ≡ grow l (blocks (lines_of rest))
  unfolding blocks
  blocks_line = rw (lines_text, printed_read l p)

  pub stop_line_lem : (at : ℕ) → stop_from at (lines_of (line_text l ++ rest)) ≡ stop_here at l (stop_from (at + length (line_text l)) (lines_of rest))
  unfolding stop_from
  stop_line_lem at = rw (lines_text, printed_read l p)

  pub judge_line : (at d : ℕ) → Goes d l → judge (among d) at (lines_of (line_text l ++ rest)) ≡ judge (leaves d l) (at + length (line_text l)) (lines_of rest)
  unfolding judge verdict behind found_at unless
  judge_line at d g = rw (lines_text, line_right (Among false d) l (goes_may false g) p, printed_read l p)

  -- as the second line it leaves what it leaves further down
  pub judge_second : (at : ℕ) → allowed (keys_of (Among true 0)) l ≡ true → judge second at (lines_of (line_text l ++ rest)) ≡ judge (leaves 0 l) (at + length (line_text l)) (lines_of rest)
  unfolding judge verdict behind found_at unless
  judge_second at a = rw (lines_text, line_right (Among true 0) l a p, printed_read l p)

pub judge_head : (rest : List ℕ) (at : ℕ) → judge first at (lines_of (line_text Header ++ rest)) ≡ judge second (at + length (line_text Header)) (lines_of rest)
unfolding judge verdict behind found_at unless allowed keys_of
judge_head rest at = rw (lines_text Header rest tt, line_right First Header refl tt)

-- A BLOCK

-- what a loop's text is in front of
pub loop_text_lem : (n : ℕ) (b t : Tree) (rest : List ℕ) → text (loop n b t) ++ rest ≡ line_text (Loop n) ++ (text b ++ (line_text Done ++ (text t ++ rest)))
unfolding text
loop_text_lem n b t rest = simp append_assoc

pub act_text_lem : (a : Act) (t : Tree) (rest : List ℕ) → text (act a t) ++ rest ≡ line_text (One a) ++ (text t ++ rest)
unfolding text
act_text_lem a t rest = simp append_assoc

pub loop_long : (n : ℕ) (b t : Tree) → length (text (loop n b t)) ≡ length (line_text (Loop n)) + length (text b) + length (line_text Done) + length (text t)
unfolding text
loop_long n b t = simp length-append (omega arith)

pub act_long : (a : Act) (t : Tree) → length (text (act a t)) ≡ length (line_text (One a)) + length (text t)
unfolding text
act_long a t = simp length-append

-- a block in front of the rest of its block
unfoldable pub joined : Tree → Tree → Tree
joined end u = u
joined (act a t) u = act a (joined t u)
joined (loop n b t) u = loop n b (joined t u)

joined_end : (t : Tree) → joined t end ≡ t
unfolding joined
joined_end end = refl
joined_end (act a t) = ap (act a) (joined_end t)
joined_end (loop n b t) = ap (loop n b) (joined_end t)

-- its lines are right wherever so many loops may be open, and are gone on behind
judge_text : (t : Tree) (at d : ℕ) (rest : List ℕ) → Within t d → judge (among d) at (lines_of (text t ++ rest)) ≡ judge (among d) (at + length (text t)) (lines_of rest)
unfolding text leaves
judge_text end at d rest w = ap (λ (i : ℕ). judge (among d) i (lines_of rest)) (omega arith)
judge_text (act a t) at d rest w =
    ap (λ (s : List ℕ). judge (among d) at (lines_of s)) (act_text_lem a t rest)
    ∙ (judge_line (One a) (text t ++ rest) w.0 at d acts-on
    ∙ (judge_text t (at + length (line_text (One a))) d rest w.1
    ∙ ap (λ (i : ℕ). judge (among d) i (lines_of rest)) (let h = act_long a t in omega arith)))
judge_text (loop n b t) at d rest w =
    let i : ℕ = at + length (line_text (Loop n)) in
    let j : ℕ = i + length (text b) in
    let k : ℕ = j + length (line_text Done) in
    let e : d + 1 - 1 ≡ d = omega arith in
    ap (λ (s : List ℕ). judge (among d) at (lines_of s)) (loop_text_lem n b t rest)
    ∙ (judge_line (Loop n) (text b ++ (line_text Done ++ (text t ++ rest))) w.0 at d (opened-on w.1)
    ∙ (judge_text b i (d + 1) (line_text Done ++ (text t ++ rest)) w.2
    ∙ (judge_line Done (text t ++ rest) tt j (d + 1) (closes-on (omega arith))
    ∙ rw e
    (judge_text t k d rest w.3
    ∙ ap (λ (i : ℕ). judge (among d) i (lines_of rest)) (let h = loop_long n b t in omega arith)))))

-- the first of them, or the `stop` behind none, may be the second line of a log
second_goes : (l : Line) (rest : List ℕ) (at : ℕ) → Printable l → Goes 0 l
    → judge second at (lines_of (line_text l ++ rest)) ≡ judge (among 0) at (lines_of (line_text l ++ rest))
second_goes l rest at p g = judge_second l rest p at (goes_may true g) ∙ sym (judge_line l rest p at 0 g)

second_text : (t : Tree) (n at : ℕ) → Within t 0 → Printable (Stop n)
    → judge second at (lines_of (text t ++ line_text (Stop n))) ≡ judge (among 0) at (lines_of (text t ++ line_text (Stop n)))
unfolding text
second_text end n at w p = rw (← append-nil (line_text (Stop n))) (second_goes (Stop n) [] at p (ends_on refl))
second_text (act a t) n at w p = rw (act_text_lem a t (line_text (Stop n))) (second_goes (One a) _ at w.0 acts-on)
second_text (loop m b t) n at w p = rw (loop_text_lem m b t (line_text (Stop n))) (second_goes (Loop m) _ at w.0 (opened-on w.1))

-- they stand for that block, in front of the block behind them
blocks_text : (t u : Tree) (us : List Tree) (d : ℕ) (rest : List ℕ) → Within t d → blocks (lines_of rest) ≡ u ∷ us → blocks (lines_of (text t ++ rest)) ≡ joined t u ∷ us
unfolding text joined grow
blocks_text end u us d rest w h = h
blocks_text (act a t) u us d rest w h =
    ap (λ (s : List ℕ). blocks (lines_of s)) (act_text_lem a t rest)
    ∙ (blocks_line (One a) (text t ++ rest) w.0 ∙ ap (grow (One a)) (blocks_text t u us d rest w.1 h))
blocks_text (loop n b t) u us d rest w h =
    let tail = blocks_line Done (text t ++ rest) tt ∙ ap (grow Done) (blocks_text t u us d rest w.3 h) in
    let inner = blocks_text b end (joined t u ∷ us) (d + 1) (line_text Done ++ (text t ++ rest)) w.2 tail in
    ap (λ (s : List ℕ). blocks (lines_of s)) (loop_text_lem n b t rest)
    ∙ (blocks_line (Loop n) (text b ++ (line_text Done ++ (text t ++ rest))) w.0
    ∙ ap (grow (Loop n)) (inner ∙ ap (λ (x : Tree). x ∷ joined t u ∷ us) (joined_end b)))

-- and have no `stop` among them
stop_text : (t : Tree) (at d : ℕ) (rest : List ℕ) → Within t d → stop_from at (lines_of (text t ++ rest)) ≡ stop_from (at + length (text t)) (lines_of rest)
unfolding text stop_here
stop_text end at d rest w = ap (λ (i : ℕ). stop_from i (lines_of rest)) (omega arith)
stop_text (act a t) at d rest w =
    ap (λ (s : List ℕ). stop_from at (lines_of s)) (act_text_lem a t rest)
    ∙ (stop_line_lem (One a) (text t ++ rest) w.0 at
    ∙ (stop_text t (at + length (line_text (One a))) d rest w.1
    ∙ ap (λ (i : ℕ). stop_from i (lines_of rest)) (let h = act_long a t in omega arith)))
stop_text (loop n b t) at d rest w =
    let i : ℕ = at + length (line_text (Loop n)) in
    let j : ℕ = i + length (text b) in
    let k : ℕ = j + length (line_text Done) in
    ap (λ (s : List ℕ). stop_from at (lines_of s)) (loop_text_lem n b t rest)
    ∙ (stop_line_lem (Loop n) (text b ++ (line_text Done ++ (text t ++ rest))) w.0 at
    ∙ (stop_text b i (d + 1) (line_text Done ++ (text t ++ rest)) w.2
    ∙ (stop_line_lem Done (text t ++ rest) tt j
    ∙ (stop_text t k d rest w.3
    ∙ ap (λ (i : ℕ). stop_from i (lines_of rest)) (let h = loop_long n b t in omega arith)))))

-- A WHOLE LOG

-- the head of a log: its lines, and that they are in front of no block and no `stop`

head_judged : (m : Bool) (rest : List ℕ) → (judge second (length (head_text false)) (lines_of rest) ≡ judge (among 0) (length (head_text false)) (lines_of rest))
    → judged (head_text m ++ rest) ≡ judge (among 0) (length (head_text m)) (lines_of rest)
unfolding judged allowed keys_of leaves
head_judged true rest e =
    ap (λ (s : List ℕ). judge first 0 (lines_of s)) (append_assoc (line_text Header) (line_text Machine) rest)
    ∙ (judge_head (line_text Machine ++ rest) 0
    ∙ (judge_second Machine rest tt _ refl
    ∙ ap (λ (i : ℕ). judge (among 0) i (lines_of rest)) (let h = length-append (line_text Header) (line_text Machine) in omega arith)))
head_judged false rest e = judge_head rest 0 ∙ (ap (λ (i : ℕ). judge second i (lines_of rest)) (omega arith) ∙ e)

head_blocks : (m : Bool) (rest : List ℕ) → blocks (lines_of (head_text m ++ rest)) ≡ blocks (lines_of rest)
unfolding grow
head_blocks true rest =
    ap (λ (s : List ℕ). blocks (lines_of s)) (append_assoc (line_text Header) (line_text Machine) rest)
    ∙ (blocks_line Header (line_text Machine ++ rest) tt ∙ blocks_line Machine rest tt)
head_blocks false rest = blocks_line Header rest tt

head_stop : (m : Bool) (rest : List ℕ) → stop_from 0 (lines_of (head_text m ++ rest)) ≡ stop_from (length (head_text m)) (lines_of rest)
unfolding stop_here
head_stop true rest =
    ap (λ (s : List ℕ). stop_from 0 (lines_of s)) (append_assoc (line_text Header) (line_text Machine) rest)
    ∙ (stop_line_lem Header (line_text Machine ++ rest) tt 0
    ∙ (stop_line_lem Machine rest tt _
    ∙ ap (λ (i : ℕ). stop_from i (lines_of rest)) (let h = length-append (line_text Header) (line_text Machine) in omega arith)))
head_stop false rest = stop_line_lem Header rest tt 0 ∙ ap (λ (i : ℕ). stop_from i (lines_of rest)) (omega arith)

-- no line of a block, and no `stop`, is `machine=pal`
turns_machine : (t : Tree) (n : ℕ) → starts_with (line_text Machine) (text t ++ line_text (Stop n)) ≡ false
unfolding starts_with line_text act_text ended text
turns_machine end n = refl
turns_machine (act (Wait k) t) n = refl
turns_machine (act (Access (Write r v)) t) n = refl
turns_machine (act (Access Read) t) n = refl
turns_machine (loop k b t) n = refl

starts_behind : (k j s : List ℕ) → starts_with (k ++ j) (k ++ s) ≡ starts_with j s
unfolding starts_with
starts_behind [] j s = refl
starts_behind (c ∷ k) j s = rw (eq-eqb c c refl) (starts_behind k j s)

pub machine_text : (m : Bool) (t : Tree) (n : ℕ) → machine_of (log_text m t n) ≡ m
unfolding machine_of log_text
machine_text true t n = starts_joined (head_text true) (text t ++ line_text (Stop n))
machine_text false t n = starts_behind (line_text Header) (line_text Machine) (text t ++ line_text (Stop n)) ∙ turns_machine t n

module _ (m : Bool) (t : Tree) (n : ℕ) (w : Within t 0) (s : Printable (Stop n)) where
  pub judged_text : judged (log_text m t n) ≡ right
  unfolding log_text leaves lines_of judge ending
  judged_text =
      let at : ℕ = length (head_text m) in
      head_judged m (text t ++ line_text (Stop n)) (second_text t n _ w s)
      ∙ (judge_text t at 0 (line_text (Stop n)) w
      ∙ (ap (λ (r : List ℕ). judge (among 0) (at + length (text t)) (lines_of r)) (sym (append-nil (line_text (Stop n))))
      ∙ judge_line (Stop n) [] s (at + length (text t)) 0 (ends_on refl)))

  -- what stands behind the block of a log
  last_blocks : blocks (lines_of (line_text (Stop n))) ≡ end ∷ []
  unfolding blocks lines_of grow
  last_blocks = ap (λ (r : List ℕ). blocks (lines_of r)) (sym (append-nil (line_text (Stop n)))) ∙ blocks_line (Stop n) [] s

  pub tree_text : tree_of (log_text m t n) ≡ t
  unfolding tree_of log_text innermost
  tree_text =
      ap innermost
      (head_blocks m (text t ++ line_text (Stop n))
      ∙ blocks_text t end [] 0 (line_text (Stop n)) w last_blocks)
      ∙ joined_end t

  pub stop_is : stopping_of (log_text m t n) ≡ record { place = length (head_text m) + length (text t); number = n }
  unfolding stopping_of log_text stop_here
  stop_is =
      let at : ℕ = length (head_text m) in
      head_stop m (text t ++ line_text (Stop n))
      ∙ (stop_text t at 0 (line_text (Stop n)) w
      ∙ (ap (λ (r : List ℕ). stop_from (at + length (text t)) (lines_of r)) (sym (append-nil (line_text (Stop n))))
      ∙ stop_line_lem (Stop n) [] s (at + length (text t))))

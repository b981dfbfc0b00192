-- Right lines, one behind the other: how a log of them is judged, what it stands for and where its `stop` is. Assumes nothing.
use mathlib.Core.Path.{◌≡◌, refl, ap, sym, ◌∙◌}
use mathlib.Core.List.{List, [], ◌∷◌, ◌++◌, append_assoc, append-nil}
use mathlib.Core.Bool.{Bool, true, false, false≢true}
use Prim.Native.Nat.{ℕ, ◌+◌}
use native.Mathlib.Omega.{arith}
use lib.ListN.{length, length-append}
use Rattle.log_line.specs.declared.Line.{Line}
use Rattle.log_line.specs.declared.Line.TheVariants.{Header, Machine, One, Loop, Done, Stop, NoForm, NoRegister}
use Rattle.log_line.specs.Printed.{line_text, Printable}
use Rattle.log_fault.specs.declared.Stand.TheVariants.{Among}
use Rattle.log_fault.specs.Allowed.{keys_of}
use Rattle.log_fault.proofs.Standing.{Goes, ends, Lets, pal, turn, goes_may}
use Rattle.log_begins.specs.Fronts.{allowed}
use Rattle.log_rules.specs.Lines.{lines_of}
use Rattle.log_rules.specs.Judge.{Stand, right, second, among, leaves, ending, judge, judged}
use Rattle.log_rules.specs.Tree.{end}
use Rattle.log_rules.specs.Whole.{grow, blocks, innermost, tree_of, Stopping, stop_here, stop_from, stopping_of}
use Rattle.log_passing.proofs.TextLaws.{blocks_line, stop_line_lem, judge_line, judge_second, judge_head}
use Rattle.log_salvage_rules.specs.Mending.{kept_tree, deeper, is_stop}

-- the text of lines of which each is right behind those before it, none a `stop`; whether the next is the second; the loops open
pub data Run : Bool → ℕ → List ℕ → Type 0 where
  head : Run true 0 (line_text Header)
  more : {s : Bool} {d : ℕ} {t : List ℕ} {l : Line} → Run s d t → Lets s d l → Printable l → is_stop l ≡ false → Run false (deeper d l) (t ++ line_text l)

outside : {s : Bool} {d : ℕ} {t : List ℕ} → Run s d t → s ≡ true → d ≡ 0
outside head e = refl
outside (more r l p n) e = absurd (false≢true e)

unfoldable pub stand_of : Bool → ℕ → Stand
stand_of true d = second
stand_of false d = among d

pub lets_may : (s : Bool) (d : ℕ) (l : Line) → Lets s d l → allowed (keys_of (Among s d)) l ≡ true
unfolding keys_of allowed
lets_may s d l (pal h) = h
lets_may s d l (turn g) = goes_may s g

not_pal : {d : ℕ} {l : Line} → Lets false d l → Goes d l
not_pal (pal h) = absurd (false≢true h)
not_pal (turn g) = g

-- a right line in front of the rest
line_on : (s : Bool) (d : ℕ) (l : Line) (rest : List ℕ) (at : ℕ) → (s ≡ true → d ≡ 0) → Lets s d l → Printable l
    → judge (stand_of s d) at (lines_of (line_text l ++ rest)) ≡ judge (leaves d l) (at + length (line_text l)) (lines_of rest)
unfolding stand_of
line_on true d l rest at z h p =
    let e : d ≡ 0 = z refl in
    rw e (judge_second l rest p at (lets_may true 0 l (rw e at h)))
line_on false d l rest at z h p = judge_line l rest p at d (not_pal h)

leaves_is : (d : ℕ) (l : Line) → is_stop l ≡ false → leaves d l ≡ among (deeper d l)
unfolding leaves deeper is_stop
leaves_is d Header n = refl
leaves_is d Machine n = refl
leaves_is d (One a) n = refl
leaves_is d (Loop k) n = refl
leaves_is d Done n = refl
leaves_is d (Stop k) n = absurd (false≢true (sym n))
leaves_is d NoForm n = refl
leaves_is d NoRegister n = refl

-- they are right, and what is behind them is judged by how it stands there
run_judged : {s : Bool} {d : ℕ} {t : List ℕ} → Run s d t → (rest : List ℕ) → judged (t ++ rest) ≡ judge (stand_of s d) (length t) (lines_of rest)
unfolding judged stand_of
run_judged head rest = judge_head rest 0 ∙ ap (λ (i : ℕ). judge second i (lines_of rest)) (omega arith)
run_judged (more {s} {d} {t} {l} r h p n) rest =
    ap judged (append_assoc t (line_text l) rest)
    ∙ (run_judged r (line_text l ++ rest)
    ∙ (line_on s d l rest (length t) (outside r) h p
    ∙ (ap (λ (x : Stand). judge x (length t + length (line_text l)) (lines_of rest)) (leaves_is d l n)
    ∙ ap (λ (i : ℕ). judge (among (deeper d l)) i (lines_of rest)) (sym (length-append t (line_text l))))))

-- the blocks that they stand for go by those of what is behind them
pub run_blocks : {s : Bool} {d : ℕ} {t : List ℕ} → Run s d t → (a b : List ℕ) → blocks (lines_of a) ≡ blocks (lines_of b) → blocks (lines_of (t ++ a)) ≡ blocks (lines_of (t ++ b))
run_blocks head a b e = blocks_line Header a tt ∙ (ap (grow Header) e ∙ sym (blocks_line Header b tt))
run_blocks (more {s} {d} {t} {l} r h p n) a b e =
    ap (λ (x : List ℕ). blocks (lines_of x)) (append_assoc t (line_text l) a)
    ∙ (run_blocks r (line_text l ++ a) (line_text l ++ b) (blocks_line l a p ∙ (ap (grow l) e ∙ sym (blocks_line l b p)))
    ∙ ap (λ (x : List ℕ). blocks (lines_of x)) (sym (append_assoc t (line_text l) b)))

no_stop : (at : ℕ) (l : Line) (x : Stopping) → is_stop l ≡ false → stop_here at l x ≡ x
unfolding stop_here is_stop
no_stop at Header x n = refl
no_stop at Machine x n = refl
no_stop at (One a) x n = refl
no_stop at (Loop k) x n = refl
no_stop at Done x n = refl
no_stop at (Stop k) x n = absurd (false≢true (sym n))
no_stop at NoForm x n = refl
no_stop at NoRegister x n = refl

-- none of them is a `stop`
run_stop : {s : Bool} {d : ℕ} {t : List ℕ} → Run s d t → (rest : List ℕ) → stop_from 0 (lines_of (t ++ rest)) ≡ stop_from (length t) (lines_of rest)
unfolding is_stop
run_stop head rest = stop_line_lem Header rest tt 0 ∙ (no_stop 0 Header _ refl ∙ ap (λ (i : ℕ). stop_from i (lines_of rest)) (omega arith))
run_stop (more {s} {d} {t} {l} r h p n) rest =
    ap (λ (x : List ℕ). stop_from 0 (lines_of x)) (append_assoc t (line_text l) rest)
    ∙ (run_stop r (line_text l ++ rest)
    ∙ (stop_line_lem l rest p (length t)
    ∙ (no_stop (length t) l _ n
    ∙ ap (λ (i : ℕ). stop_from i (lines_of rest)) (sym (length-append t (line_text l))))))

-- the blocks of a `stop` by itself
pub stop_blocks : (n : ℕ) → Printable (Stop n) → blocks (lines_of (line_text (Stop n))) ≡ end ∷ []
unfolding blocks lines_of grow
stop_blocks n p = ap (λ (r : List ℕ). blocks (lines_of r)) (sym (append-nil (line_text (Stop n)))) ∙ blocks_line (Stop n) [] p

-- such lines, no loop open, and a `stop` behind them
module _ {s : Bool} {t : List ℕ} (r : Run s 0 t) (n : ℕ) (p : Printable (Stop n)) where
  pub stopped_judged : judged (t ++ line_text (Stop n)) ≡ right
  unfolding leaves lines_of judge ending
  stopped_judged =
      ap (λ (x : List ℕ). judged (t ++ x)) (sym (append-nil (line_text (Stop n))))
      ∙ (run_judged r (line_text (Stop n) ++ [])
      ∙ line_on s 0 (Stop n) [] (length t) (λ e. refl) (turn (ends refl)) p)

  pub stopped_tree : tree_of (t ++ line_text (Stop n)) ≡ kept_tree t
  unfolding tree_of kept_tree
  stopped_tree = ap innermost (run_blocks r (line_text (Stop n)) (line_text (Stop 0)) (stop_blocks n p ∙ sym (stop_blocks 0 (omega arith))))

  pub stopped_number : (stopping_of (t ++ line_text (Stop n))).number ≡ n
  unfolding stopping_of stop_here
  stopped_number =
      ap (λ (x : Stopping). x.number)
      (run_stop r (line_text (Stop n))
      ∙ (ap (λ (x : List ℕ). stop_from (length t) (lines_of x)) (sym (append-nil (line_text (Stop n))))
      ∙ stop_line_lem (Stop n) [] p (length t)))

-- Acts in front of a block, and the copies that stand there. Assumes nothing.
use mathlib.Core.Path.{◌≡◌, refl, ap, sym, ◌∙◌}
use mathlib.Core.List.{List, [], ◌∷◌, ◌++◌, append_assoc}
use mathlib.Core.Bool.{Bool, true, false, false≢true}
use Prim.Native.Nat.{ℕ, zero, suc, ◌+◌, ◌*◌, ◌-◌, ◌≤◌}
use native.Mathlib.Omega.{arith}
use native.Mathlib.Nat.{zero-mul, suc-mul}
use lib.ListN.{length, take, drop, length-append}
use lib.Seq.{drop-drop}
use Rattle.arith.specs.Pick.{pick}
use Rattle.arith.proofs.PickLaws.{both_left, both_right}
use Rattle.text.proofs.KeyLaws.{exactly_is}
use Rattle.log_line.specs.declared.Act.{Act}
use Rattle.log_line.specs.declared.Line.TheVariants.{One}
use Rattle.log_line.specs.Said.{line_of}
use Rattle.log_line.specs.Printed.{line_text, Allowed}
use Rattle.log_line.proofs.LineLaws.{printed_read}
use Rattle.log_rules.specs.Tree.{Tree, end, act, loop, acts, times, turns, text, Within}
use Rattle.log_passing.proofs.ActLaws.{Every}
use Rattle.log_fold_rules.specs.Ahead.{leading, in_front, same_line, begins_with, copies}

-- what is in front and what is behind

-- the block behind j of its leading acts
unfoldable pub behind : Tree → ℕ → Tree
behind end j = end
behind (loop n b t) j = loop n b t
behind (act a t) zero = act a t
behind (act a t) (suc j) = behind t j

pub acts_run : (s : List Act) (t : Tree) → acts (in_front s t) ≡ s ++ acts t
unfolding acts in_front
acts_run [] t = refl
acts_run (a ∷ s) t = ap (λ (l : List Act). a ∷ l) (acts_run s t)

pub turns_run : (s : List Act) (t : Tree) → turns (in_front s t) ≡ length s + turns t
unfolding turns in_front
turns_run [] t = omega arith
turns_run (a ∷ s) t = let h = turns_run s t in omega arith

pub long_run : (s : List Act) (t : Tree) → length (text (in_front s t)) ≡ length (text (in_front s end)) + length (text t)
unfolding text in_front
long_run [] t = omega arith
long_run (a ∷ s) t = let h = long_run s t in simp length-append (omega arith)

pub within_front : (s : List Act) (t : Tree) (d e : ℕ) → Within (in_front s t) d → Within (in_front s end) e
unfolding in_front
within_front [] t d e w = tt
within_front (a ∷ s) t d e w = (w.0, within_front s t d e w.1)

pub within_rest : (s : List Act) (t : Tree) (d : ℕ) → Within (in_front s t) d → Within t d
unfolding in_front
within_rest [] t d w = w
within_rest (a ∷ s) t d w = within_rest s t d w.1

pub behind_none : (t : Tree) → behind t 0 ≡ t
unfolding behind
behind_none end = refl
behind_none (act a t) = refl
behind_none (loop n b t) = refl

pub ahead : (t : Tree) (m : ℕ) → m ≤ length (leading t) → t ≡ in_front (take m (leading t)) (behind t m)
unfolding leading behind in_front
ahead end zero h = refl
ahead end (suc m) h = refl
ahead (loop n b t) zero h = refl
ahead (loop n b t) (suc m) h = absurd (omega arith)
ahead (act a t) zero h = refl
ahead (act a t) (suc m) h = ap (act a) (ahead t m (omega arith))

pub every_leading : (t : Tree) (d : ℕ) → Within t d → Every (leading t)
unfolding leading
every_leading end d w = tt
every_leading (act a t) d w = (w.0, every_leading t d w.1)
every_leading (loop n b t) d w = tt

pub every_take : (m : ℕ) (s : List Act) → Every s → Every (take m s)
every_take zero s e = tt
every_take (suc m) [] e = tt
every_take (suc m) (a ∷ s) e = (e.0, every_take m s e.1)

pub every_drop : (m : ℕ) (s : List Act) → Every s → Every (drop m s)
every_drop zero s e = e
every_drop (suc m) [] e = tt
every_drop (suc m) (a ∷ s) e = every_drop m s e.1

-- copies

-- equal lines are equal acts
pub same_is : (a b : Act) → Allowed a → Allowed b → same_line a b ≡ true → b ≡ a
unfolding same_line
same_is a b p q e =
    let t : line_text (One b) ≡ line_text (One a) = exactly_is (line_text (One a)) (line_text (One b)) e in
    let x : One b ≡ One a = sym (printed_read (One b) q) ∙ (ap line_of t ∙ printed_read (One a) p) in
    cc

pub begins_are : (b s : List Act) → Every b → Every s → begins_with b s ≡ true → s ≡ b ++ drop (length b) s
unfolding begins_with
begins_are [] s p q e = refl
begins_are (a ∷ b) [] p q e = absurd (false≢true e)
begins_are (a ∷ b) (c ∷ s) p q e =
    let x : c ≡ a = same_is a c p.0 q.0 (both_left (same_line a c) (begins_with b s) e) in
    let y = begins_are b s p.1 q.1 (both_right (same_line a c) (begins_with b s) e) in
    cc

pub times_long : (c : ℕ) (b : List Act) → length (times c b) ≡ c * length b
unfolding times
times_long zero b = sym (zero-mul (length b))
times_long (suc c) b = let h = times_long c b in omega (arith, length-append b (times c b), suc-mul c (length b))

pub copies_are : (n : ℕ) (b s : List Act) → Every b → Every s → s ≡ times (copies n b s) b ++ drop (copies n b s * length b) s
unfolding copies times
copies_are zero b s p q = rw (zero-mul (length b))
copies_are (suc n) b s p q = go (begins_with b s) refl (copies_are n b (drop (length b) s) p (every_drop (length b) s q))
  where
    go : (t : Bool) → begins_with b s ≡ t
        → drop (length b) s ≡ times (copies n b (drop (length b) s)) b ++ drop (copies n b (drop (length b) s) * length b) (drop (length b) s)
        → s ≡ times (pick t (suc (copies n b (drop (length b) s))) 0) b ++ drop (pick t (suc (copies n b (drop (length b) s))) 0 * length b) s
    go true e h =
        let c : ℕ = copies n b (drop (length b) s) in
        let k : length b + c * length b ≡ suc c * length b = omega (arith, suc-mul c (length b)) in
        begins_are b s p q e
        ∙ (ap (λ (x : List Act). b ++ x) (h ∙ ap (λ (x : List Act). times c b ++ x) (drop-drop (c * length b) (length b) s ∙ ap (λ (x : ℕ). drop x s) k))
        ∙ sym (append_assoc b (times c b) (drop (suc c * length b) s)))
    go false e h = rw (zero-mul (length b))

pub copies_le : (n : ℕ) (b s : List Act) → copies n b s ≤ n
unfolding copies
copies_le zero b s = omega arith
copies_le (suc n) b s = go (begins_with b s) (copies_le n b (drop (length b) s))
  where
    go : (t : Bool) → copies n b (drop (length b) s) ≤ n → pick t (suc (copies n b (drop (length b) s))) 0 ≤ suc n
    go true h = omega arith
    go false h = omega arith

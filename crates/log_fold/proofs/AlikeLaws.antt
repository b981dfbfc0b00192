-- The bytes of the log against the lines of its tree: copies, and what comes out shorter. Assumes nothing.
use mathlib.Core.Path.{◌≡◌, refl, ap, ap₂, sym, ◌∙◌, subst}
use mathlib.Core.List.{List, [], ◌∷◌, ◌++◌, append_assoc, append-nil}
use mathlib.Core.Bool.{Bool, true, false, false≢true}
use Prim.Native.Nat.{ℕ, zero, suc, ◌+◌, ◌*◌, ◌-◌, ◌≤◌}
use native.Mathlib.Omega.{arith}
use native.Mathlib.Nat.{zero-mul, suc-mul}
use borrow.Author.Tests.{le-leb, eq-eqb, eqb-true, ne_eqb}
use lib.ListN.{length, take, drop, length-append}
use lib.Seq.{drop_at, take_at}
use lib.Dec.{leb, ltb, eqb}
use Rattle.arith.specs.Pick.{pick, both}
use Rattle.text.specs.Key.{starts_with, exactly}
use Rattle.text.specs.Decimal.{decimal_text}
use Rattle.text.proofs.KeyLaws.{exactly_is, starts_joined}
use Rattle.log_line.specs.declared.Act.{Act}
use Rattle.log_line.specs.declared.Line.{Line}
use Rattle.log_line.specs.declared.Line.TheVariants.{One, Loop, Done, Stop}
use Rattle.log_line.specs.Said.{line_of}
use Rattle.log_line.specs.Printed.{ended, line_text, Allowed, Printable, NoFeed, empty, byte}
use Rattle.log_line.proofs.LineLaws.{printed_read, one_line}
use Rattle.log_rules.specs.Tree.{Tree, end, act, loop, times, text, Within}
use Rattle.log_passing.proofs.ActLaws.{Every}
use Rattle.log_passing.proofs.TextLaws.{loop_long}
use Rattle.log_fold_rules.specs.Ahead.{leading, in_front, same_line, begins_with, copies}
use Rattle.log_fold_rules.specs.Folding.{shorter, suits}
use Rattle.log_fold.specs.Moves.{copies_of, suits_of}
use Rattle.log_fold_rules.proofs.AheadLaws.{behind, ahead, begins_are, every_leading, within_rest}

-- TWO LINES IN FRONT OF TEXTS

starts_on : (l x y : List ℕ) → starts_with (l ++ x) (l ++ y) ≡ starts_with x y
unfolding starts_with
starts_on [] x y = refl
starts_on (c ∷ l) x y = rw (eq-eqb c c refl) (starts_on l x y)

apart : {A : Type 0} {b : Bool} → b ≡ false → b ≡ true → A
apart e f = absurd (false≢true (sym e ∙ f))

line_same : (u v x y : List ℕ) → NoFeed u → NoFeed v → starts_with ((u ++ (10 ∷ [])) ++ x) ((v ++ (10 ∷ [])) ++ y) ≡ true → u ≡ v
unfolding starts_with
line_same [] [] x y empty empty e = refl
line_same [] (c ∷ v) x y empty (byte h n) e = absurd (false≢true (sym (ap (λ (b : Bool). pick b (starts_with x ((v ++ (10 ∷ [])) ++ y)) false) (ne_eqb c 10 h)) ∙ e))
line_same (b ∷ u) [] x y (byte h n) empty e =
    let q : 10 ≡ b → ⊥ = λ z. h (sym z) in
    absurd (false≢true (sym (ap (λ (t : Bool). pick t (starts_with ((u ++ (10 ∷ [])) ++ x) y) false) (ne_eqb 10 b q)) ∙ e))
line_same (b ∷ u) (c ∷ v) x y (byte h n) (byte g m) e = go (eqb c b) refl e (line_same u v x y n m)
  where
    go : (t : Bool) → eqb c b ≡ t → pick t (starts_with ((u ++ (10 ∷ [])) ++ x) ((v ++ (10 ∷ [])) ++ y)) false ≡ true
        → (starts_with ((u ++ (10 ∷ [])) ++ x) ((v ++ (10 ∷ [])) ++ y) ≡ true → u ≡ v) → b ∷ u ≡ c ∷ v
    go true q e r = let z = eqb-true c b q in let w = r e in cc
    go false q e r = absurd (false≢true e)

-- a text that starts with a line, and does so with a line, has that line in front
same_line_lem : (k l : Line) (x y : List ℕ) → Printable k → Printable l → starts_with (line_text k ++ x) (line_text l ++ y) ≡ true → line_text k ≡ line_text l
same_line_lem k l x y p q e =
    let o = one_line k p in
    let i = one_line l q in
    let f : starts_with ((o.body ++ (10 ∷ [])) ++ x) ((i.body ++ (10 ∷ [])) ++ y) ≡ true = sym (ap₂ (λ (a b : List ℕ). starts_with (a ++ x) (b ++ y)) o.is i.is) ∙ e in
    o.is ∙ (ap (λ (s : List ℕ). s ++ (10 ∷ [])) (line_same o.body i.body x y o.clear i.clear f) ∙ sym i.is)

same_said : (k l : Line) → Printable k → Printable l → line_text k ≡ line_text l → k ≡ l
same_said k l p q e = sym (printed_read k p) ∙ (ap line_of e ∙ printed_read l q)

exactly_self : (s : List ℕ) → exactly s s ≡ true
unfolding exactly
exactly_self s =
    let a : starts_with s s ≡ true = ap (starts_with s) (sym (append-nil s)) ∙ starts_joined s [] in
    let b : leb (length s) (length s) ≡ true = le-leb (length s) (length s) (omega arith) in
    rw (a, b)

-- a line of another kind
other_line : (a : Act) (l : Line) (x y : List ℕ) → Allowed a → Printable l → (One a ≡ l → ⊥) → starts_with (line_text (One a) ++ x) (line_text l ++ y) ≡ false
other_line a l x y p q n = go (starts_with (line_text (One a) ++ x) (line_text l ++ y)) refl
  where
    go : (b : Bool) → starts_with (line_text (One a) ++ x) (line_text l ++ y) ≡ b → b ≡ false
    go true e = absurd (n (same_said (One a) l p q (same_line_lem (One a) l x y p q e)))
    go false e = refl

-- a line of the three kinds
act_line_lem : (a c : Act) (x y : List ℕ) → Allowed a → Allowed c → starts_with (line_text (One a) ++ x) (line_text (One c) ++ y) ≡ both (same_line a c) (starts_with x y)
unfolding same_line
act_line_lem a c x y p q = go (exactly (line_text (One a)) (line_text (One c))) refl
  where
    go : (b : Bool) → exactly (line_text (One a)) (line_text (One c)) ≡ b → starts_with (line_text (One a) ++ x) (line_text (One c) ++ y) ≡ both b (starts_with x y)
    go true e =
        let h : line_text (One c) ≡ line_text (One a) = exactly_is (line_text (One a)) (line_text (One c)) e in
        ap (λ (l : List ℕ). starts_with (line_text (One a) ++ x) (l ++ y)) h ∙ starts_on (line_text (One a)) x y
    go false e = other (starts_with (line_text (One a) ++ x) (line_text (One c) ++ y)) refl
      where
        other : (b : Bool) → starts_with (line_text (One a) ++ x) (line_text (One c) ++ y) ≡ b → b ≡ false
        other true f =
            let h : line_text (One a) ≡ line_text (One c) = same_line_lem (One a) (One c) x y p q f in
            apart (e) (ap (exactly (line_text (One a))) (sym h) ∙ exactly_self (line_text (One a)))
        other false f = refl

-- THE BYTES OF A BLOCK start a text exactly where its lines do

module _ (n : ℕ) (s : Printable (Stop n)) (r : List ℕ) where
  pub starts_block : (b : List Act) (t : Tree) → Every b → Within t 0 → starts_with (text (in_front b end)) (text t ++ (line_text (Stop n) ++ r)) ≡ begins_with b (leading t)
  unfolding text in_front begins_with leading starts_with
  starts_block [] t e w = refl
  starts_block (a ∷ b) end e w = other_line a (Stop n) (text (in_front b end)) r e.0 s (λ q. let z : ◌≡◌ {A = ℕ} 0 1 = cc in omega arith)
  starts_block (a ∷ b) (act c t) e w =
      ap (starts_with (line_text (One a) ++ text (in_front b end))) (append_assoc (line_text (One c)) (text t) (line_text (Stop n) ++ r))
      ∙ (act_line_lem a c (text (in_front b end)) (text t ++ (line_text (Stop n) ++ r)) e.0 w.0 ∙ ap (both (same_line a c)) (starts_block b t e.1 w.1))
  starts_block (a ∷ b) (loop m u t) e w =
      ap (starts_with (line_text (One a) ++ text (in_front b end))) (append_assoc (line_text (Loop m)) (text u ++ (line_text Done ++ text t)) (line_text (Stop n) ++ r))
      ∙ other_line a (Loop m) (text (in_front b end)) ((text u ++ (line_text Done ++ text t)) ++ (line_text (Stop n) ++ r)) e.0 w.0 (λ q. let z : ◌≡◌ {A = ℕ} 0 1 = cc in omega arith)

-- WHAT IS BEHIND LINES IN FRONT

pub text_run : (b : List Act) (t : Tree) → text (in_front b t) ≡ text (in_front b end) ++ text t
unfolding text in_front
text_run [] t = refl
text_run (a ∷ b) t = ap (λ (x : List ℕ). line_text (One a) ++ x) (text_run b t) ∙ sym (append_assoc (line_text (One a)) (text (in_front b end)) (text t))

leading_behind : (t : Tree) (m : ℕ) → drop m (leading t) ≡ leading (behind t m)
unfolding leading behind
leading_behind end zero = refl
leading_behind end (suc m) = refl
leading_behind (act a t) zero = refl
leading_behind (act a t) (suc m) = leading_behind t m
leading_behind (loop n b t) zero = refl
leading_behind (loop n b t) (suc m) = refl

module _ (n : ℕ) (s : Printable (Stop n)) (r : List ℕ) where
  pub copies_alike : (m : ℕ) (b : List Act) (t : Tree) → Every b → Within t 0 → copies_of m (text (in_front b end)) (text t ++ (line_text (Stop n) ++ r)) ≡ copies m b (leading t)
  unfolding copies_of copies
  copies_alike zero b t e w = refl
  copies_alike (suc m) b t e w = go (begins_with b (leading t)) refl (copies_alike m b (behind t (length b)) e)
    where
      go : (x : Bool) → begins_with b (leading t) ≡ x
          → (Within (behind t (length b)) 0 → copies_of m (text (in_front b end)) (text (behind t (length b)) ++ (line_text (Stop n) ++ r)) ≡ copies m b (leading (behind t (length b))))
          → pick (starts_with (text (in_front b end)) (text t ++ (line_text (Stop n) ++ r))) (suc (copies_of m (text (in_front b end)) (drop (length (text (in_front b end))) (text t ++ (line_text (Stop n) ++ r))))) 0
          ≡ pick (begins_with b (leading t)) (suc (copies m b (drop (length b) (leading t)))) 0
      go true h rec =
          let l : leading t ≡ b ++ drop (length b) (leading t) = begins_are b (leading t) e (every_leading t 0 w) h in
          let long : length b ≤ length (leading t) = omega (arith, simp length-append at (ap length l)) in
          let front : take (length b) (leading t) ≡ b = ap (take (length b)) l ∙ take_at b (drop (length b) (leading t)) (length b) refl in
          let is : t ≡ in_front b (behind t (length b)) = ahead t (length b) long ∙ ap (λ (x : List Act). in_front x (behind t (length b))) front in
          let w' : Within (behind t (length b)) 0 = within_rest b (behind t (length b)) 0 (subst (λ (x : Tree). Within x 0) is w) in
          let rest : drop (length (text (in_front b end))) (text t ++ (line_text (Stop n) ++ r)) ≡ text (behind t (length b)) ++ (line_text (Stop n) ++ r) =
          ap (drop (length (text (in_front b end)))) (ap (λ (x : List ℕ). x ++ (line_text (Stop n) ++ r)) (ap text is ∙ text_run b (behind t (length b))) ∙ append_assoc (text (in_front b end)) (text (behind t (length b))) (line_text (Stop n) ++ r))
          ∙ drop_at (text (in_front b end)) (text (behind t (length b)) ++ (line_text (Stop n) ++ r)) (length (text (in_front b end))) refl in
          let both_true : starts_with (text (in_front b end)) (text t ++ (line_text (Stop n) ++ r)) ≡ true = starts_block n s r b t e w ∙ h in
          rw (both_true, h) (ap suc (ap (copies_of m (text (in_front b end))) rest ∙ (rec w' ∙ ap (copies m b) (sym (leading_behind t (length b))))))
      go false h rec =
          let none : starts_with (text (in_front b end)) (text t ++ (line_text (Stop n) ++ r)) ≡ false = starts_block n s r b t e w ∙ h in
          rw (none, h)

-- WHAT COMES OUT SHORTER

run_none : length (text (in_front [] end)) ≡ 0
unfolding text in_front
run_none = refl

run_append : (b d : List Act) → length (text (in_front (b ++ d) end)) ≡ length (text (in_front b end)) + length (text (in_front d end))
unfolding text in_front
run_append [] d = omega arith
run_append (a ∷ b) d = let h = run_append b d in simp length-append (omega arith)

pub times_text : (c : ℕ) (b : List Act) → length (text (in_front (times c b) end)) ≡ c * length (text (in_front b end))
unfolding times
times_text zero b = run_none ∙ sym (zero-mul (length (text (in_front b end))))
times_text (suc c) b =
    let h = times_text c b in
    run_append b (times c b) ∙ omega (arith, suc-mul c (length (text (in_front b end))))

lines_long : (c : ℕ) → length (line_text (Loop c)) + length (line_text Done) ≡ 16 + length (decimal_text c)
unfolding line_text ended
lines_long c = simp length-append (omega arith)

empty_long : length (text end) ≡ 0
unfolding text
empty_long = refl

pub loop_size : (c : ℕ) (b : List Act) → length (text (loop c (in_front b end) end)) ≡ 16 + length (decimal_text c) + length (text (in_front b end))
loop_size c b = omega (arith, loop_long c (in_front b end) end, lines_long c, empty_long)

pub suits_alike : (k : ℕ) (s : List Act) (p c : ℕ) → p ≤ length s → suits_of k (length (text (in_front (take p s) end))) c ≡ suits k s p c
unfolding suits suits_of shorter
suits_alike k s p c h =
    let b : List Act = take p s in
    let e : ltb (16 + length (decimal_text c) + length (text (in_front b end))) (c * length (text (in_front b end))) ≡ ltb (length (text (loop c (in_front b end) end))) (length (text (in_front (times c b) end))) =
    ap₂ ltb (sym (loop_size c b)) (sym (times_text c b)) in
    rw (le-leb p (length s) h, e)

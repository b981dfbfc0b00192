-- One move of the code: what it writes, and what is left to be read and to be written. Assumes nothing.
use Rattle.std.specs.Prelude.{Ok}
use mathlib.Core.Path.{◌≡◌, refl, ap, sym, ◌∙◌, subst}
use mathlib.Core.List.{List, [], ◌++◌, append_assoc, append-nil}
use Prim.Native.Nat.{ℕ, ◌+◌, ◌*◌, ◌-◌, ◌≤◌, ◌<◌}
use native.Mathlib.Omega.{arith}
use lib.ListN.{length, take, drop, length-append}
use Rattle.log_line.specs.declared.Act.{Act}
use Rattle.log_line.specs.declared.Line.TheVariants.{One, Loop, Done, Stop}
use Rattle.log_line.specs.Printed.{line_text, Printable}
use Rattle.log_rules.specs.Reading.{read_at}
use Rattle.log_rules.specs.Tree.{Tree, end, act, loop, times, text, Within}
use Rattle.log_rules.specs.Block.{closed, read_block, block_answer}
use Rattle.log_rules.proofs.PlaceLaws.{had_at}
use Rattle.log_rules.proofs.Derived.{closes, stops, Reads, an_act, a_loop, a_stop, block_of}
use Rattle.log_passing.proofs.TextLaws.{act_text_lem, loop_text_lem}
use Rattle.log_passing.proofs.Passing.{had_split, text_of, within_of}
use Rattle.log_fold.specs.declared.Move.{Move}
use Rattle.log_fold_rules.specs.Ahead.{leading, in_front}
use Rattle.log_fold_rules.specs.Folding.{Choice, plain, fold, choice, made, folded}
use Rattle.log_fold.specs.Moves.{plain_move, loop_move, chosen_in, move_of, loop_text, move_text}
use Rattle.log_fold_rules.proofs.AheadLaws.{behind}
use Rattle.log_fold_rules.proofs.KeptLaws.{Suits, choice_is, whole, times_are, enough, product}
use Rattle.log_fold_rules.proofs.LeastLaws.{goes_on_lem}
use Rattle.log_fold.proofs.MoveLaws.{move_plain, move_looped}
use Rattle.log_fold.proofs.AlikeLaws.{times_text}
use Rattle.log_fold.proofs.PlaceLaws.{line_on, reads_on, size, size_none, span, reads_behind, to_move, part_of, chosen_alike}
use lib.Seq.{take_at}

-- WHAT IS LEFT to be written from a place of the log on, where there are k turns so far
pub data Left (log : List ℕ) (n k : ℕ) : ℕ → List ℕ → Type 0 where
  lines : {at p q : ℕ} (t : Tree) → Reads log at 0 t (stops p q n) → length log ≤ q → Left log n k at (text (folded t 0 k) ++ line_text (Stop n))
  none : {at : ℕ} → length log ≤ at → Left log n k at []

pub record Moved (log : List ℕ) (n k at : ℕ) (w : List ℕ) (m : Move) : Type 0 where
  pub low : at ≤ m.until
  pub high : m.until ≤ length log
  pub on : at < m.next
  pub inside : m.next ≤ length log
  pub room : length (move_text m.count (take (m.until - at) (drop at log))) ≤ m.next - at
  pub within : k + m.count ≤ 1000000
  pub rest : List ℕ
  pub left : Left log n (k + m.count) m.next rest
  pub is : w ≡ move_text m.count (take (m.until - at) (drop at log)) ++ rest

moved_plain : (log : List ℕ) (n k at e : ℕ) (w x rest : List ℕ) → k ≤ 1000000 → drop at log ≡ x ++ drop e log → at < e → e ≤ length log
    → Left log n (k + 0) e rest → w ≡ x ++ rest → Moved log n k at w (plain_move e)
moved_plain log n k at e w x rest h q a b l i =
    let s = span log at e x q (omega arith) b in
    let y : move_text 0 (take (e - at) (drop at log)) ≡ x = move_plain 0 (take (e - at) (drop at log)) refl ∙ s.1 in
    record {
      low = omega arith;
      high = b;
      on = a;
      inside = b;
      room = rw y (omega (arith, s.0));
      within = omega arith;
      rest = rest;
      left = l;
      is = rw y i;
    }

move_stop : (log : List ℕ) (at k n p : ℕ) → read_at log at ≡ Ok ((Stop n), p) → move_of log at k ≡ plain_move p
unfolding move_of
move_stop log at k n p l = rw l

move_loop : (log : List ℕ) (at k m p q r : ℕ) (b : Tree) → read_at log at ≡ Ok ((Loop m), p) → read_block log p 1 ≡ closed b q r → move_of log at k ≡ plain_move r
unfolding move_of block_answer
move_loop log at k m p q r b l e = rw (l, e)

move_act : (log : List ℕ) (at k p : ℕ) (a : Act) → read_at log at ≡ Ok ((One a), p) → move_of log at k ≡ chosen_in 16 log at k p at
unfolding move_of
move_act log at k p a l = rw l

stop_text : (n k : ℕ) → text (folded end 0 k) ++ line_text (Stop n) ≡ line_text (Stop n) ++ []
unfolding text folded
stop_text n k = sym (append-nil (line_text (Stop n)))

folded_loop : (m : ℕ) (b u : Tree) (k : ℕ) → folded (loop m b u) 0 k ≡ loop m b (folded u 0 k)
unfolding folded
folded_loop m b u k = refl

folded_act : (a : Act) (u : Tree) (k : ℕ) → folded (act a u) 0 k ≡ made a (leading (act a u)) (λ j c. folded u j (k + c)) (choice k (leading (act a u)))
unfolding folded
folded_act a u k = refl

-- A LOOP THAT IS MADE
module _ (log : List ℕ) (n k at : ℕ) (a : Act) (u : Tree) (next p₀ q₀ : ℕ) (r : Reads log at 0 (act a u) (stops p₀ q₀ n)) (last : length log ≤ q₀) (s : Printable (Stop n)) (p c : ℕ)
    (h : Suits k (leading (act a u)) p c) where
  abbrev B : List Act
  B = take p (leading (act a u))

  abbrev W : Within (act a u) 0
  W = within_of log r

  step_on : at + size (times c B) ≡ at + c * (at + size B - at)
  step_on =
      let z : at + size B - at ≡ size B = omega arith in
      rw z (ap (λ (x : ℕ). at + x) (times_text c B))

  reads_next : Reads log (at + c * (at + size B - at)) 0 (behind u (c * p - 1)) (stops p₀ q₀ n)
  unfolding behind
  reads_next =
      let x = reads_behind log (stops p₀ q₀ n) (act a u) (c * p) at (enough a u k p c W h) r in
      let y : take (c * p) (leading (act a u)) ≡ times c B = ap (take (c * p)) (whole a u k p c W h) ∙ take_at (times c B) (drop (c * p) (leading (act a u))) (c * p) (times_are a u k p c W h) in
      let z : behind (act a u) (c * p) ≡ behind u (c * p - 1) = ap (behind (act a u)) (sym (product a u k p c W h)) in
      subst (λ (i : ℕ). Reads log i 0 (behind u (c * p - 1)) (stops p₀ q₀ n)) step_on
      (subst (λ (v : Tree). Reads log (at + size (times c B)) 0 v (stops p₀ q₀ n)) z
      (subst (λ (l : List Act). Reads log (at + size l) 0 (behind (act a u) (c * p)) (stops p₀ q₀ n)) y x))

  two_less : c ≡ 0 → ⊥
  two_less e = omega (arith, h.two)

  written : move_text c (take (at + size B - at) (drop at log)) ≡ loop_text c (text (in_front B end))
  written = ap (move_text c) (part_of log at k next (act a u) p₀ q₀ n r s p h.inside) ∙ move_looped c (text (in_front B end)) two_less

  loop_long : length (loop_text c (text (in_front B end))) ≡ length (text (loop c (in_front B end) end))
  unfolding loop_text text
  loop_long = simp length-append (omega arith)

  comes : text (loop c (in_front B end) (folded u (c * p - 1) (k + c))) ++ line_text (Stop n) ≡ loop_text c (text (in_front B end)) ++ (text (folded (behind u (c * p - 1)) 0 (k + c)) ++ line_text (Stop n))
  unfolding loop_text
  comes =
      loop_text_lem c (in_front B end) (folded u (c * p - 1) (k + c)) (line_text (Stop n))
      ∙ (ap (λ (t : Tree). line_text (Loop c) ++ (text (in_front B end) ++ (line_text Done ++ (text t ++ line_text (Stop n))))) (goes_on_lem u (c * p - 1) (k + c)) ∙ simp append_assoc)

  pub moved_loop : Moved log n k at (text (loop c (in_front B end) (folded u (c * p - 1) (k + c))) ++ line_text (Stop n)) (loop_move at (at + size B) c)
  moved_loop =
      let e : ℕ = at + size B in
      let here = reads_on log (reads_behind log (stops p₀ q₀ n) (act a u) p at h.inside r) in
      let there = reads_on log reads_next in
      let z = times_text c B in
      let y : c * (at + size B - at) ≡ c * size B = ap (λ (x : ℕ). c * x) (let g : at + size B - at ≡ size B = omega arith in g) in
      record {
        low = omega arith;
        high = omega (arith, here.0, here.1);
        on = omega (arith, h.less);
        inside = omega (arith, there.0, there.1);
        room = rw written (omega (arith, loop_long, h.less));
        within = h.room;
        rest = text (folded (behind u (c * p - 1)) 0 (k + c)) ++ line_text (Stop n);
        left = lines (behind u (c * p - 1)) reads_next last;
        is = rw written comes;
      }

module _ (log : List ℕ) (n k at : ℕ) (s : Printable (Stop n)) (h : k ≤ 1000000) where
  module _ (a : Act) (u : Tree) (next p₀ q₀ : ℕ) (l : read_at log at ≡ Ok ((One a), next)) (r : Reads log at 0 (act a u) (stops p₀ q₀ n)) (r' : Reads log next 0 u (stops p₀ q₀ n)) (last : length log ≤ q₀) where
    by_choice : (x : Choice) → choice k (leading (act a u)) ≡ x
        → Moved log n k at (text (made a (leading (act a u)) (λ j c. folded u j (k + c)) x) ++ line_text (Stop n)) (to_move log at k next (act a u) p₀ q₀ n r s x)
    unfolding made to_move choice
    by_choice plain e =
        let x = line_on log at (One a) next l in
        moved_plain log n k at next _ (line_text (One a)) (text (folded u 0 (k + 0)) ++ line_text (Stop n)) h (had_split log (had_at log at (One a) next l)) x.0 x.1
        (lines u r' last) (act_text_lem a (folded u 0 (k + 0)) (line_text (Stop n)))
    by_choice (fold p c) e = moved_loop log n k at a u next p₀ q₀ r last s p c (choice_is 16 k (leading (act a u)) 1 p c (omega arith) e)

    first : chosen_in 16 log at k next at ≡ chosen_in 16 log at k next (at + size (take 0 (leading (act a u))))
    first =
        let z : at ≡ at + size (take 0 (leading (act a u))) = omega (arith, size_none) in
        ap (λ (x : ℕ). chosen_in 16 log at k next x) z

    chosen_is : chosen_in 16 log at k next at ≡ to_move log at k next (act a u) p₀ q₀ n r s (choice k (leading (act a u)))
    unfolding choice
    chosen_is = first ∙ chosen_alike log at k next (act a u) p₀ q₀ n r s 16 0 (omega arith)

    moved_act : Moved log n k at (text (folded (act a u) 0 k) ++ line_text (Stop n)) (move_of log at k)
    moved_act =
        let m : move_of log at k ≡ to_move log at k next (act a u) p₀ q₀ n r s (choice k (leading (act a u))) = move_act log at k next a l ∙ chosen_is in
        subst (λ (x : Move). Moved log n k at (text (folded (act a u) 0 k) ++ line_text (Stop n)) x) (sym m)
        (subst (λ (t : Tree). Moved log n k at (text t ++ line_text (Stop n)) (to_move log at k next (act a u) p₀ q₀ n r s (choice k (leading (act a u))))) (sym (folded_act a u k))
        (by_choice (choice k (leading (act a u))) refl))

  moved_end : (q : ℕ) → read_at log at ≡ Ok ((Stop n), q) → length log ≤ q → Moved log n k at (text (folded end 0 k) ++ line_text (Stop n)) (move_of log at k)
  moved_end q l last =
      let x = line_on log at (Stop n) q l in
      subst (λ (m : Move). Moved log n k at (text (folded end 0 k) ++ line_text (Stop n)) m) (sym (move_stop log at k n q l))
      (moved_plain log n k at q (text (folded end 0 k) ++ line_text (Stop n)) (line_text (Stop n)) [] h (had_split log (had_at log at (Stop n) q l)) x.0 x.1 (none last) (stop_text n k))

  moved_block : (m : ℕ) (b u : Tree) (p₁ q₁ r₁ p q : ℕ) → read_at log at ≡ Ok ((Loop m), p₁) → Reads log p₁ 1 b (closes q₁ r₁) → Reads log r₁ 0 u (stops p q n) → length log ≤ q
      → Moved log n k at (text (folded (loop m b u) 0 k) ++ line_text (Stop n)) (move_of log at k)
  moved_block m b u p₁ q₁ r₁ p q l rb r' last =
      let x = line_on log at (Loop m) p₁ l in
      let y = reads_on log rb in
      let z : k ≡ k + 0 = omega arith in
      let d : drop at log ≡ (line_text (Loop m) ++ (text b ++ line_text Done)) ++ drop r₁ log =
      had_split log (had_at log at (Loop m) p₁ l) ∙ (ap (λ (v : List ℕ). line_text (Loop m) ++ v) (text_of log rb) ∙ simp append_assoc) in
      let w : text (folded (loop m b u) 0 k) ++ line_text (Stop n) ≡ (line_text (Loop m) ++ (text b ++ line_text Done)) ++ (text (folded u 0 (k + 0)) ++ line_text (Stop n)) =
      ap (λ (v : Tree). text v ++ line_text (Stop n)) (folded_loop m b u k)
      ∙ (loop_text_lem m b (folded u 0 k) (line_text (Stop n))
      ∙ (ap (λ (i : ℕ). line_text (Loop m) ++ (text b ++ (line_text Done ++ (text (folded u 0 i) ++ line_text (Stop n))))) z ∙ simp append_assoc)) in
      subst (λ (v : Move). Moved log n k at (text (folded (loop m b u) 0 k) ++ line_text (Stop n)) v) (sym (move_loop log at k m p₁ q₁ r₁ b l (block_of rb)))
      (moved_plain log n k at r₁ (text (folded (loop m b u) 0 k) ++ line_text (Stop n)) (line_text (Loop m) ++ (text b ++ line_text Done)) (text (folded u 0 (k + 0)) ++ line_text (Stop n)) h d
      (omega (arith, x.0, y.0)) y.1 (lines u r' last) w)

  moved_lines : (p q : ℕ) (t : Tree) → length log ≤ q → Reads log at 0 t (stops p q n) → Moved log n k at (text (folded t 0 k) ++ line_text (Stop n)) (move_of log at k)
  moved_lines p q end last (a_stop l) = moved_end q l last
  moved_lines p q (act a u) last (an_act {p = x} l r) = moved_act a u x p q l (an_act l r) r last
  moved_lines p q (loop m b u) last (a_loop {p = x} {q = y} {r = z} l j d rb r) = moved_block m b u x y z p q l rb r last

  pub moved : (w : List ℕ) → Left log n k at w → at < length log → Moved log n k at w (move_of log at k)
  moved w (none e) i = absurd (omega arith)
  moved w (lines {p = p} {q = q} t r last) i = moved_lines p q t last r

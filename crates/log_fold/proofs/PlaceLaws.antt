-- What the code does at a line outside all loops is what folding the tree says. Assumes nothing.
use Rattle.std.specs.Prelude.{Ok}
use mathlib.Core.Path.{◌≡◌, refl, ap, sym, ◌∙◌, subst}
use mathlib.Core.List.{List, [], ◌∷◌, ◌++◌, append_assoc}
use mathlib.Core.Bool.{Bool, true, false}
use Prim.Native.Nat.{ℕ, zero, suc, ◌+◌, ◌-◌, ◌≤◌, ◌<◌}
use native.Mathlib.Omega.{arith}
use native.Mathlib.Numerals.{add-one}
use borrow.Author.Tests.{lt-leb, eq-eqb, ne_eqb, ltb-true, ltb-false}
use lib.ListN.{length, take, drop, length-append, length-drop}
use lib.Seq.{take_at}
use lib.Dec.{ltb, eqb}
use Rattle.arith.specs.Pick.{pick}
use Rattle.log_line.specs.declared.Act.{Act}
use Rattle.log_line.specs.declared.Line.{Line}
use Rattle.log_line.specs.declared.Line.TheVariants.{One, Loop, Done, Stop}
use Rattle.log_line.specs.Printed.{line_text, Printable}
use Rattle.log_rules.specs.Reading.{read_at}
use Rattle.log_rules.specs.Tree.{Tree, end, act, loop, text, Within}
use Rattle.log_rules.proofs.PlaceLaws.{had_at, had_text, next_pos, next_le, bytes_long}
use Rattle.log_rules.proofs.Derived.{Ending, closes, stops, Reads, an_act, a_loop, a_done, a_stop}
use Rattle.log_passing.proofs.Passing.{tail_of, text_of, within_of}
use Rattle.log_fold.specs.declared.Move.{Move}
use Rattle.log_fold_rules.specs.Ahead.{leading, in_front, copies_there}
use Rattle.log_fold_rules.specs.Folding.{suits, Choice, plain, fold, choice_in}
use Rattle.log_fold.specs.Moves.{plain_move, loop_move, act_end, copies_at, suits_of, chosen_in}
use Rattle.log_fold_rules.proofs.AheadLaws.{behind, ahead, every_leading, every_take}
use Rattle.log_fold.proofs.AlikeLaws.{text_run, copies_alike, suits_alike}

-- PLACES

abbrev pub behind_of : Ending → ℕ
behind_of (closes p q) = q
behind_of (stops p q n) = q

module _ (log : List ℕ) where
  pub line_on : (at : ℕ) (l : Line) (p : ℕ) → read_at log at ≡ Ok (l, p) → (at < p) × (p ≤ length log) × (p ≡ at + length (line_text l))
  line_on at l p e =
      let h = had_at log at l p e in
      let a = next_pos log at h.inside in
      let b = next_le log at (omega (arith, h.inside)) in
      let c = bytes_long log at in
      let d = ap length (had_text h).0 in
      (omega (arith, h.on), omega (arith, h.on), omega (arith, h.on))

  pub reads_on : {at d : ℕ} {t : Tree} {e : Ending} → Reads log at d t e → (at < behind_of e) × (behind_of e ≤ length log)
  reads_on {at} (an_act {p = p} {a = a} l r) = let x = line_on at (One a) p l in let y = reads_on r in (omega (arith, x.0, y.0), y.1)
  reads_on {at} (a_loop {n = n} {p = p} {q = q} {r = u} l i k r r') = let x = line_on at (Loop n) p l in let y = reads_on r in let z = reads_on r' in (omega (arith, x.0, y.0, z.0), z.1)
  reads_on {at} (a_done {p = p} l h) = let x = line_on at Done p l in (x.0, x.1)
  reads_on {at} (a_stop {p = p} {n = n} l) = let x = line_on at (Stop n) p l in (x.0, x.1)

abbrev pub size : List Act → ℕ
size s = length (text (in_front s end))

pub size_none : size [] ≡ 0
unfolding text in_front
size_none = refl

size_more : (a : Act) (s : List Act) → size (a ∷ s) ≡ length (line_text (One a)) + size s
unfolding text in_front line_text
size_more a s = length-append (line_text (One a)) (text (in_front s end))

-- a part of the log from a place to another
pub span : (log : List ℕ) (at e : ℕ) (x : List ℕ) → drop at log ≡ x ++ drop e log → at ≤ e → e ≤ length log → (length x ≡ e - at) × (take (e - at) (drop at log) ≡ x)
span log at e x q h k =
    let l : length x ≡ e - at = omega (arith, simp (length-drop, length-append) at (ap length q)) in
    (l, ap (take (e - at)) q ∙ take_at x (drop e log) (e - at) l)

-- THE ACTS AHEAD, one by one

module _ (log : List ℕ) (e : Ending) where
  pub reads_behind : (t : Tree) (m at : ℕ) → m ≤ length (leading t) → Reads log at 0 t e → Reads log (at + size (take m (leading t))) 0 (behind t m) e
  unfolding leading behind
  reads_behind end zero at h r = rw size_none (let z : at + 0 ≡ at = omega arith in rw z r)
  reads_behind (loop n b t) zero at h r = rw size_none (let z : at + 0 ≡ at = omega arith in rw z r)
  reads_behind (act a t) zero at h r = rw size_none (let z : at + 0 ≡ at = omega arith in rw z r)
  reads_behind end (suc m) at h r = absurd (omega arith)
  reads_behind (loop n b t) (suc m) at h r = absurd (omega arith)
  reads_behind (act a t) (suc m) at h (an_act {p = p} l r) =
      let x = line_on log at (One a) p l in
      let z : p + size (take m (leading t)) ≡ at + size (a ∷ take m (leading t)) = omega (arith, x.2, size_more a (take m (leading t))) in
      subst (λ (i : ℕ). Reads log i 0 (behind t m) e) z (reads_behind t m p (omega arith) r)

  pub end_at : (t : Tree) (m at : ℕ) → m < length (leading t) → Reads log at 0 t e
      → (act_end log (at + size (take m (leading t))) ≡ at + size (take (suc m) (leading t))) × (at + size (take m (leading t)) < at + size (take (suc m) (leading t)))
  unfolding leading act_end
  end_at end m at h r = absurd (omega arith)
  end_at (loop n b t) m at h r = absurd (omega arith)
  end_at (act a t) zero at h (an_act {p = p} l r) =
      let x = line_on log at (One a) p l in
      let z : at + size [] ≡ at = omega (arith, size_none) in
      let y : at + size (a ∷ []) ≡ p = omega (arith, x.2, size_more a [], size_none) in
      rw (z, y, l) (refl, x.0)
  end_at (act a t) (suc m) at h (an_act {p = p} l r) =
      let x = line_on log at (One a) p l in
      let z : p + size (take m (leading t)) ≡ at + size (a ∷ take m (leading t)) = omega (arith, x.2, size_more a (take m (leading t))) in
      let y : p + size (take (suc m) (leading t)) ≡ at + size (a ∷ take (suc m) (leading t)) = omega (arith, x.2, size_more a (take (suc m) (leading t))) in
      rw (z, y) at (end_at t m p (omega arith) r)

module _ (log : List ℕ) (p₀ q₀ n₀ : ℕ) where
  pub last_at_lem : (t : Tree) (m at : ℕ) → m ≡ length (leading t) → Reads log at 0 t (stops p₀ q₀ n₀) → act_end log (at + size (take m (leading t))) ≡ at + size (take m (leading t))
  unfolding leading act_end
  last_at_lem end zero at h (a_stop l) = let z : at + size [] ≡ at = omega (arith, size_none) in rw (z, l)
  last_at_lem (loop n b t) zero at h (a_loop l i k r r') = let z : at + size [] ≡ at = omega (arith, size_none) in rw (z, l)
  last_at_lem (act a t) zero at h r = absurd (omega arith)
  last_at_lem end (suc m) at h r = absurd (omega arith)
  last_at_lem (loop n b t) (suc m) at h r = absurd (omega arith)
  last_at_lem (act a t) (suc m) at h (an_act {p = p} l r) =
      let x = line_on log at (One a) p l in
      let z : p + size (take m (leading t)) ≡ at + size (a ∷ take m (leading t)) = omega (arith, x.2, size_more a (take m (leading t))) in
      rw z at (last_at_lem t m p (omega arith) r)

-- past the acts ahead nothing suits
choice_past : (m k : ℕ) (s : List Act) (q : ℕ) → length s < q → choice_in m k s q ≡ plain
unfolding choice_in suits
choice_past zero k s q h = refl
choice_past (suc m) k s q h = rw (lt-leb q (length s) h) (choice_past m k s (q + 1) (omega arith))

-- THE CHOICE by bytes is the choice by lines
module _ (log : List ℕ) (at k next : ℕ) (t : Tree) (p₀ q₀ n₀ : ℕ) (r : Reads log at 0 t (stops p₀ q₀ n₀)) (s : Printable (Stop n₀)) where
  unfoldable pub to_move : Choice → Move
  to_move plain = plain_move next
  to_move (fold p c) = loop_move at (at + size (take p (leading t))) c

  rest_is : (p : ℕ) → p ≤ length (leading t) → drop at log ≡ text (in_front (take p (leading t)) end) ++ (text (behind t p) ++ tail_of log (stops p₀ q₀ n₀))
  rest_is p h =
      text_of log r
      ∙ (ap (λ (x : List ℕ). x ++ tail_of log (stops p₀ q₀ n₀)) (ap text (ahead t p h) ∙ text_run (take p (leading t)) (behind t p))
      ∙ append_assoc (text (in_front (take p (leading t)) end)) (text (behind t p)) (tail_of log (stops p₀ q₀ n₀)))

  sub_size : (p : ℕ) → at + size (take p (leading t)) - at ≡ size (take p (leading t))
  sub_size p = omega arith

  pub part_of : (p : ℕ) → p ≤ length (leading t) → take (at + size (take p (leading t)) - at) (drop at log) ≡ text (in_front (take p (leading t)) end)
  part_of p h =
      ap (λ (i : ℕ). take i (drop at log)) (sub_size p)
      ∙ (ap (take (size (take p (leading t)))) (rest_is p h)
      ∙ take_at (text (in_front (take p (leading t)) end)) (text (behind t p) ++ tail_of log (stops p₀ q₀ n₀)) (size (take p (leading t))) refl)

  copies_at_lem : (p : ℕ) → p ≤ length (leading t) → copies_at log at (at + size (take p (leading t))) ≡ copies_there (leading t) p
  unfolding copies_at copies_there
  copies_at_lem p h =
      let w : Within t 0 = within_of log r in
      rw (part_of p h, text_of log r) (copies_alike n₀ s (drop q₀ log) 255 (take p (leading t)) t (every_take p (leading t) (every_leading t 0 w)) w)

  suits_at : (p c : ℕ) → p ≤ length (leading t) → suits_of k (at + size (take p (leading t)) - at) c ≡ suits k (leading t) p c
  suits_at p c h = ap (λ (i : ℕ). suits_of k i c) (sub_size p) ∙ suits_alike k (leading t) p c h

  abbrev tried : ℕ → ℕ → ℕ → Move
  tried m e x = pick (eqb x e) (plain_move next) (pick (suits_of k (x - at) (copies_at log at x)) (loop_move at x (copies_at log at x)) (chosen_in m log at k next x))

  pub chosen_alike : (m p : ℕ) → p ≤ length (leading t) → chosen_in m log at k next (at + size (take p (leading t))) ≡ to_move (choice_in m k (leading t) (p + 1))
  unfolding chosen_in choice_in to_move
  chosen_alike zero p h = refl
  chosen_alike (suc m) p h = go (ltb p (length (leading t))) refl (chosen_alike m (p + 1))
    where
      go : (b : Bool) → ltb p (length (leading t)) ≡ b
          → (p + 1 ≤ length (leading t) → chosen_in m log at k next (at + size (take (p + 1) (leading t))) ≡ to_move (choice_in m k (leading t) (p + 1 + 1)))
          → chosen_in (suc m) log at k next (at + size (take p (leading t))) ≡ to_move (choice_in (suc m) k (leading t) (p + 1))
      go true e rec =
          let less : p < length (leading t) = ltb-true p (length (leading t)) e in
          let c : ℕ = copies_there (leading t) (p + 1) in
          let here : ℕ = at + size (take p (leading t)) in
          let there : ℕ = at + size (take (p + 1) (leading t)) in
          let ends = rw (← add-one p) at (end_at log (stops p₀ q₀ n₀) t p at less r) in
          let ne : eqb there here ≡ false = ne_eqb there here (λ q. omega (arith, ends.1)) in
          let cx : copies_at log at there ≡ c = copies_at_lem (p + 1) (omega arith) in
          let sx : suits_of k (there - at) c ≡ suits k (leading t) (p + 1) c = suits_at (p + 1) c (omega arith) in
          ap (tried m here) ends.0
          ∙ (ap (λ (b : Bool). pick b (plain_move next) (pick (suits_of k (there - at) (copies_at log at there)) (loop_move at there (copies_at log at there)) (chosen_in m log at k next there))) ne
          ∙ (ap (λ (x : ℕ). pick (suits_of k (there - at) x) (loop_move at there x) (chosen_in m log at k next there)) cx
          ∙ (ap (λ (b : Bool). pick b (loop_move at there c) (chosen_in m log at k next there)) sx
          ∙ fin (suits k (leading t) (p + 1) c) (rec (omega arith)))))
        where
          fin : (b : Bool) → chosen_in m log at k next (at + size (take (p + 1) (leading t))) ≡ to_move (choice_in m k (leading t) (p + 1 + 1))
              → pick b (loop_move at (at + size (take (p + 1) (leading t))) (copies_there (leading t) (p + 1))) (chosen_in m log at k next (at + size (take (p + 1) (leading t))))
              ≡ to_move (pick b (fold (p + 1) (copies_there (leading t) (p + 1))) (choice_in m k (leading t) (p + 1 + 1)))
          fin true h = refl
          fin false h = h
      go false e rec =
          let more = ltb-false p (length (leading t)) e in
          let here : ℕ = at + size (take p (leading t)) in
          let last : act_end log here ≡ here = last_at_lem log p₀ q₀ n₀ t p at (omega arith) r in
          let eq : eqb here here ≡ true = eq-eqb here here refl in
          ap (tried m here) last
          ∙ (ap (λ (b : Bool). pick b (plain_move next) (pick (suits_of k (here - at) (copies_at log at here)) (loop_move at here (copies_at log at here)) (chosen_in m log at k next here))) eq
          ∙ sym (ap to_move (choice_past (suc m) k (leading t) (p + 1) (omega arith))))

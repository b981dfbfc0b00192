-- A loop's body is the part of the log between its line and its `done`. Assumes nothing.
--
-- Main definitions: `Here`, a loop line begins at the offset and the log passes; `Body`, the lines behind it up to its `done`, as they are read; `Between`,
-- the log is what stands before, the loop line, the body, its `done` and a rest.
-- Main statements: `here`, the check of a body answers 0 only at such a loop line; `body_part`, what the code finds there is the body; `body_none`,
-- refused, the body is empty; `body_between`, the body stands in the log between its loop line and its `done`, and is the text of a tree.
use Rattle.std.specs.Prelude.{Result, Ok, Err}
use mathlib.Core.Path.{◌≡◌, refl, ap, sym, ◌∙◌}
use mathlib.Core.List.{List, [], ◌∷◌, ◌++◌}
use mathlib.Core.Bool.{Bool, true, false}
use Prim.Native.Nat.{ℕ, zero, suc, ◌+◌, ◌-◌, ◌≤◌, ◌<◌}
use native.Mathlib.Omega.{arith}
use borrow.Author.Tests.{eq-eqb, ne_eqb, ltb-true, ltb-false, eqb-true, eqb-false}
use lib.ListN.{length, get_or, take, drop, length-append, take-append-drop}
use lib.Seq.{get_or-drop, take_at}
use lib.Dec.{eqb, ltb}
use Rattle.refusal.specs.declared.Refusal.{Refusal}
use Rattle.arith.specs.Pick.{pick, both}
use Rattle.arith.proofs.PickLaws.{both_left, both_right}
use Rattle.log_line.specs.declared.Line.{Line}
use Rattle.log_line.specs.declared.Line.TheVariants.{Header, Machine, One, Loop, Done, Stop, NoForm, NoRegister}
use Rattle.log_line.specs.Printed.{line_text}
use Rattle.log_rules.specs.declared.Block.{Block}
use Rattle.log_rules.specs.declared.Totals.{Totals}
use Rattle.log_rules.specs.declared.Block.TheVariants.{Closed}
use Rattle.log_rules.specs.Lines.{line_len, next_line}
use Rattle.log_rules.specs.Head.{machine_of, start_of}
use Rattle.log_rules.specs.Reading.{read_at}
use Rattle.log_fault.specs.declared.Stand.{Stand as Standing}
use Rattle.log_rules.specs.Tree.{Tree, text, Within}
use Rattle.log_rules.specs.Whole.{check_of}
use Rattle.log_rules.specs.Block.{read_block, totals, block_answer}
use Rattle.log_rules.proofs.PlaceLaws.{Had, had_at, had_says, had_text, from_depth, bytes_long}
use Rattle.log_rules.proofs.Descent.{got_behind}
use Rattle.log_rules.proofs.Derived.{Ending, closes, stops, Reads, an_act, a_loop, a_done, a_stop, block_of}
use Rattle.log_rules.proofs.JudgeLaws.{lines_from, lines_at}
use Rattle.log_body.specs.Bodies.{begins_line, is_loop, reads_loop, begins_loop, body_check_of, is_done, inner, done_from, between, body_of}
use Rattle.log_passing.proofs.Passing.{clear, Passing, passing, had_split, text_of, within_of}

-- NO LINE BEGINS INSIDE A LINE

no_feed : (s : List ℕ) (j : ℕ) → suc j < line_len s → get_or s j 0 ≡ 10 → ⊥
unfolding line_len
no_feed [] j h e = omega arith
no_feed (c ∷ s) zero h e = go (eqb c 10) refl h
  where
    go : (b : Bool) → eqb c 10 ≡ b → 1 < pick b 1 (suc (line_len s)) → ⊥
    go true f h = omega arith
    go false f h = eqb-false c 10 f e
no_feed (c ∷ s) (suc j) h e = go (eqb c 10) h (λ k. no_feed s j k e)
  where
    go : (b : Bool) → suc (suc j) < pick b 1 (suc (line_len s)) → (suc j < line_len s → ⊥) → ⊥
    go true h r = omega arith
    go false h r = r (omega arith)

within_line : (log : List ℕ) (at o : ℕ) → at < o → o < next_line log at → get_or log (o - 1) 0 ≡ 10 → ⊥
unfolding next_line
within_line log at o h k e =
    let j : ℕ = o - 1 - at in
    let q : at + j ≡ o - 1 = omega arith in
    no_feed (drop at log) j (omega arith) (get_or-drop at log j 0 ∙ (ap (λ (i : ℕ). get_or log i 0) q ∙ e))

begun : (log : List ℕ) (o : ℕ) → begins_line log o ≡ true → 0 < o → get_or log (o - 1) 0 ≡ 10
unfolding begins_line
begun log o h z = eqb-true (get_or log (o - 1) 0) 10 (rw (ne_eqb o 0 (λ q. omega arith)) at h)

-- a line that begins inside an item begins where the item does, or behind it
data Apart (o at next : ℕ) : Type 0 where
  same : o ≡ at → Apart o at next
  past : next ≤ o → Apart o at next

apart : {st : Standing} (log : List ℕ) (o at : ℕ) (l : Line) (next : ℕ) → Had st log at l next → begins_line log o ≡ true → at ≤ o → Apart o at next
apart log o at l next h b k = go (ltb at o) refl (ltb o next) refl
  where
    go : (x : Bool) → ltb at o ≡ x → (y : Bool) → ltb o next ≡ y → Apart o at next
    go false e y f = let z = ltb-false at o e in same (omega arith)
    go true e true f =
        let u = ltb-true at o e in
        absurd (within_line log at o u (rw h.on at (ltb-true o next f)) (begun log o b (omega arith)))
    go true e false f = past (ltb-false o next f)

-- WHERE A LOOP'S BODY IS READ
record Inside (log : List ℕ) (from : ℕ) : Type 0 where
  depth : ℕ
  tree : Tree
  place : ℕ
  behind : ℕ
  reads : Reads log from (depth + 1) tree (closes place behind)

abbrev end_of : Ending → ℕ
end_of (closes p q) = q
end_of (stops p q n) = q

-- the line of an item that was read, and the place behind it
abbrev line_in : Result (Line × ℕ) Refusal → Line
line_in (Ok (l, p)) = l
line_in (Err e) = Header

abbrev behind_in : Result (Line × ℕ) Refusal → ℕ
behind_in (Ok (l, p)) = p
behind_in (Err e) = 0

module _ (log : List ℕ) (o n next : ℕ) (b : begins_line log o ≡ true) (e : read_at log o ≡ Ok (Loop n, next)) where
  differs : (at : ℕ) (l : Line) (p : ℕ) → read_at log at ≡ Ok (l, p) → o ≡ at → is_loop l ≡ false → ⊥
  unfolding is_loop
  differs at l p f q h =
      let g = sym f ∙ (ap (read_at log) (sym q) ∙ e) in
      let k : l ≡ Loop n = ap line_in g in
      let m = rw k at h in
      let z : ◌≡◌ {A = ℕ} 0 1 = cc in
      omega arith

  -- every loop line of a block that was read has its body read
  inside_of_lem : {at d : ℕ} {t : Tree} {g : Ending} → Reads log at d t g → at ≤ o → o < end_of g → Inside log next
  unfolding is_loop
  inside_of_lem {at} (an_act {p = p} {a = a} l r) h k = go (apart log o at (One a) p (had_at log at (One a) p l) b h) (λ q. inside_of_lem r q k)
    where
      go : Apart o at p → (p ≤ o → Inside log next) → Inside log next
      go (same q) rec = absurd (differs at (One a) p l q refl)
      go (past q) rec = rec q
  inside_of_lem {at} {d} {t} {g} (a_loop {n = m} {p = p} {q = c} {r = s} {b = body} l i j r r') h k =
      go (apart log o at (Loop m) p (had_at log at (Loop m) p l) b h) (λ q z. inside_of_lem r q z) (λ q. inside_of_lem r' q k)
    where
      here : o ≡ at → Inside log next
      here q =
          let f = sym l ∙ (ap (read_at log) (sym q) ∙ e) in
          let f' : p ≡ next = ap behind_in f in
          record { depth = d; tree = body; place = c; behind = s; reads = rw (← f') r }

      split : p ≤ o → (x : Bool) → ltb o s ≡ x → (p ≤ o → o < s → Inside log next) → (s ≤ o → Inside log next) → Inside log next
      split q true f rec rec' = rec q (ltb-true o s f)
      split q false f rec rec' = rec' (ltb-false o s f)

      go : Apart o at p → (p ≤ o → o < s → Inside log next) → (s ≤ o → Inside log next) → Inside log next
      go (same q) rec rec' = here q
      go (past q) rec rec' = split q (ltb o s) refl rec rec'
  inside_of_lem {at} (a_done {p = p} l z) h k = go (apart log o at Done p (had_at log at Done p l) b h)
    where
      go : Apart o at p → Inside log next
      go (same q) = absurd (differs at Done p l q refl)
      go (past q) = absurd (omega arith)
  inside_of_lem {at} (a_stop {p = p} {n = m} l) h k = go (apart log o at (Stop m) p (had_at log at (Stop m) p l) b h)
    where
      go : Apart o at p → Inside log next
      go (same q) = absurd (differs at (Stop m) p l q refl)
      go (past q) = absurd (omega arith)

  inside_log : Passing log → Inside log next
  unfolding is_loop
  inside_log p = go (apart log o 0 Header 6 (had_at log 0 Header 6 p.header) b (omega arith))
    where
      behind_head : start_of log ≤ o → Inside log next
      behind_head q = let h = (had_at log o (Loop n) next e).inside in let l = p.last in inside_of_lem p.reads q (omega arith)

      second : read_at log 6 ≡ Ok (Machine, start_of log) → Apart o 6 (start_of log) → Inside log next
      second r (same q) = absurd (differs 6 Machine (start_of log) r q refl)
      second r (past q) = behind_head q

      by : (m : Bool) → machine_of log ≡ m → 6 ≤ o → Inside log next
      by true m q =
          let r = from_depth log 6 0 Machine (start_of log) (p.pal m) in
          second r (apart log o 6 Machine (start_of log) (had_at log 6 Machine (start_of log) r) b q)
      by false m q = behind_head (rw (p.ntsc m) q)

      go : Apart o 0 6 → Inside log next
      go (same q) = absurd (differs 0 Header 6 p.header q refl)
      go (past q) = by (machine_of log) refl q

-- a body is read the same where fewer loops are open
lower : {log : List ℕ} {at d p q : ℕ} {t : Tree} (c : ℕ) → 0 < c → c ≤ d → Reads log at d t (closes p q) → Reads log at c t (closes p q)
lower c z h (an_act l r) = an_act l (lower c z h r)
lower c z h (a_loop l i k r r') =
    let k' : c < 8 = omega arith in
    let z' : 0 < c + 1 = omega arith in
    a_loop l i k' (lower (c + 1) z' (omega arith) r) (lower c z h r')
lower c z h (a_done l k) = a_done l z

-- ITS `done` IS THE ONE THAT COUNTING FINDS

module _ {st : Standing} {log : List ℕ} {at : ℕ} {l : Line} {next : ℕ} (h : Had st log at l next) where
  done_at : (k : ℕ) → done_from k at (lines_from log at) ≡ pick (both (is_done l) (eqb k 0)) at (done_from (inner k l) next (lines_from log next))
  unfolding done_from
  done_at k = rw (lines_at log at h.inside, had_says h, h.on, bytes_long log at)

done_of : {log : List ℕ} {at d p q : ℕ} {t : Tree} (k : ℕ) → Reads log at d t (closes p q) → done_from k at (lines_from log at) ≡ pick (eqb k 0) p (done_from (k - 1) q (lines_from log q))
unfolding is_done inner
done_of {log} {at} k (an_act l r) = done_at (had_at log at _ _ l) k ∙ done_of k r
done_of {log} {at} k (a_loop {p = p} {q = c} {r = s} l i j r r') =
    let e : k + 1 - 1 ≡ k = omega arith in
    done_at (had_at log at _ _ l) k ∙ (done_of (k + 1) r ∙ rw (ne_eqb (k + 1) 0 (λ z. omega arith), e) (done_of k r'))
done_of {log} {at} k (a_done l z) = done_at (had_at log at _ _ l) k

-- what the code finds at a loop line of a log that passes
pub record Body (log : List ℕ) (from : ℕ) : Type 0 where
  pub tree : Tree
  pub place : ℕ
  pub behind : ℕ
  pub reads : Reads log from 1 tree (closes place behind)
  pub ordered : (from ≤ place) × (place ≤ length log)
  pub is : between log from ≡ take (place - from) (drop from log)

body_at : (log : List ℕ) (o n next : ℕ) → (check_of log).number ≡ 0 → begins_line log o ≡ true → read_at log o ≡ Ok (Loop n, next) → Body log next
unfolding between
body_at log o n next h b e =
    let i = inside_log log o n next b e (passing log (clear log h)) in
    let r = lower 1 (omega arith) (omega arith) i.reads in
    let g = rw (block_of r) at (got_behind log next 1) in
    let d : done_from 0 next (lines_from log next) ≡ i.place = done_of 0 r in
    record { tree = i.tree; place = i.place; behind = i.behind; reads = r; ordered = (g.0, omega arith); is = ap (λ (p : ℕ). take (p - next) (drop next log)) d }

-- THE ANSWER'S NUMBER IS 0 EXACTLY AT A LOOP LINE OF A LOG THAT PASSES

pub record Here (log : List ℕ) (o : ℕ) : Type 0 where
  pub passes : (check_of log).number ≡ 0
  pub begins : begins_line log o ≡ true
  pub turns : ℕ
  pub from : ℕ
  pub read : read_at log o ≡ Ok (Loop turns, from)

here_by : (log : List ℕ) (o : ℕ) (r : Result (Line × ℕ) Refusal) → read_at log o ≡ r → (check_of log).number ≡ 0 → begins_line log o ≡ true → reads_loop r ≡ true → Here log o
unfolding reads_loop is_loop
here_by log o (Ok (Loop n, p)) e h b k = record { passes = h; begins = b; turns = n; from = p; read = e }
here_by log o (Ok (Header, p)) e h b k = absurd (let z : ◌≡◌ {A = ℕ} 0 1 = cc in omega arith)
here_by log o (Ok (Machine, p)) e h b k = absurd (let z : ◌≡◌ {A = ℕ} 0 1 = cc in omega arith)
here_by log o (Ok (One a, p)) e h b k = absurd (let z : ◌≡◌ {A = ℕ} 0 1 = cc in omega arith)
here_by log o (Ok (Done, p)) e h b k = absurd (let z : ◌≡◌ {A = ℕ} 0 1 = cc in omega arith)
here_by log o (Ok (Stop n, p)) e h b k = absurd (let z : ◌≡◌ {A = ℕ} 0 1 = cc in omega arith)
here_by log o (Ok (NoForm, p)) e h b k = absurd (let z : ◌≡◌ {A = ℕ} 0 1 = cc in omega arith)
here_by log o (Ok (NoRegister, p)) e h b k = absurd (let z : ◌≡◌ {A = ℕ} 0 1 = cc in omega arith)
here_by log o (Err why) e h b k = absurd (let z : ◌≡◌ {A = ℕ} 0 1 = cc in omega arith)

here_loop : (log : List ℕ) (o : ℕ) → (check_of log).number ≡ 0 → begins_loop log o ≡ true → Here log o
unfolding begins_loop
here_loop log o h b =
    here_by log o (read_at log o) refl h (both_left (begins_line log o) (reads_loop (read_at log o)) b) (both_right (begins_line log o) (reads_loop (read_at log o)) b)

pub here : (log : List ℕ) (o : ℕ) → (body_check_of log o).number ≡ 0 → Here log o
unfolding body_check_of
here log o h = go (eqb (check_of log).number 0) refl (begins_loop log o) refl
  where
    go : (a : Bool) → eqb (check_of log).number 0 ≡ a → (b : Bool) → begins_loop log o ≡ b → Here log o
    go false e b f = absurd (eqb-false (check_of log).number 0 e (rw e at h))
    go true e true f = here_loop log o (eqb-true (check_of log).number 0 e) f
    go true e false f = absurd (let k = rw (e, f) at h in omega arith)

-- WHAT THE CODE FINDS THERE

closed_inj : {p q p' q' : ℕ} {t t' : Totals} → ◌≡◌ {A = Result Block Refusal} (Ok (Closed p q t)) (Ok (Closed p' q' t')) → p ≡ p'
closed_inj e = cc

body_here : {log : List ℕ} {o : ℕ} (h : Here log o) → Body log h.from
body_here {log} {o} h = body_at log o h.turns h.from h.passes h.begins h.read

pub body_none : (log : List ℕ) (o : ℕ) → ((body_check_of log o).number ≡ 0 → ⊥) → [] ≡ body_of log o
unfolding body_of
body_none log o h = rw (ne_eqb (body_check_of log o).number 0 h)

module _ (log : List ℕ) (o : ℕ) (h : (body_check_of log o).number ≡ 0) where
  pub body_unread : (why : Refusal) → read_at log o ≡ Err why → ⊥
  body_unread why e = let f = (here log o h).read in let z : ◌≡◌ {A = ℕ} 0 1 = cc in omega arith

  from_is : (l : Line) (from : ℕ) → read_at log o ≡ Ok (l, from) → from ≡ (here log o h).from
  from_is l from e = ap behind_in (sym e ∙ (here log o h).read)

  closed_is : (l : Line) (from : ℕ) → read_at log o ≡ Ok (l, from) → Body log from
  closed_is l from e = rw (from_is l from e) (body_here (here log o h))

  answer_is : (l : Line) (from : ℕ) (e : read_at log o ≡ Ok (l, from))
      → block_answer (read_block log from 1) ≡ Ok (Closed (closed_is l from e).place (closed_is l from e).behind (totals (closed_is l from e).tree))
  unfolding block_answer
  answer_is l from e = rw (block_of (closed_is l from e).reads) refl

  pub body_got : (l : Line) (from : ℕ) (r : Result Block Refusal) → read_at log o ≡ Ok (l, from) → r ≡ block_answer (read_block log from 1)
      → ((b : Block) → r ≡ Ok b → ⊥) → ⊥
  body_got l from r e f g = g _ (f ∙ answer_is l from e)

  pub body_closed : (l : Line) (from : ℕ) (b : Block) → read_at log o ≡ Ok (l, from) → Ok b ≡ block_answer (read_block log from 1)
      → ((p q : ℕ) (t : Totals) → b ≡ Closed p q t → ⊥) → ⊥
  body_closed l from b e f g =
      let u = f ∙ answer_is l from e in
      g (closed_is l from e).place (closed_is l from e).behind (totals (closed_is l from e).tree) (cc)

  pub body_part : (l : Line) (from to next : ℕ) (t : Totals) → read_at log o ≡ Ok (l, from) → Ok (Closed to next t) ≡ block_answer (read_block log from 1)
      → (from ≤ to) × (to ≤ length log) × (take (to - from) (drop from log) ≡ body_of log o)
  unfolding body_of
  body_part l from to next t e f =
      let b = closed_is l from e in
      let s : to ≡ b.place = closed_inj (f ∙ answer_is l from e) in
      let m : from ≡ next_line log o = (had_at log o l from e).on in
      rw s (b.ordered.0, b.ordered.1, rw (eq-eqb (body_check_of log o).number 0 h) (sym b.is ∙ ap (between log) m))

-- THE BODY IS THE PART BETWEEN: its text stands in the log behind the loop line and before its `done`

had_long : {st : Standing} {log : List ℕ} {at : ℕ} {l : Line} {next : ℕ} → Had st log at l next → next ≡ at + length (line_text l)
had_long {st} {log} {at} {l} h = h.on ∙ (sym (bytes_long log at) ∙ ap (λ (s : List ℕ). at + length s) (had_text h).0)

behind_is : {log : List ℕ} {at d p q : ℕ} {t : Tree} → Reads log at d t (closes p q) → q ≡ p + length (line_text Done)
behind_is (an_act l r) = behind_is r
behind_is (a_loop l i k r r') = behind_is r'
behind_is {log} {at} (a_done l h) = had_long (had_at log at _ _ l)

place_is : {log : List ℕ} {at d p q : ℕ} {t : Tree} → Reads log at d t (closes p q) → p ≡ at + length (text t)
unfolding text
place_is {log} {at} (an_act {a = a} {t = u} l r) =
    let m = place_is r in
    let n = had_long (had_at log at _ _ l) in
    rw (length-append (line_text (One a)) (text u)) (omega arith)
place_is {log} {at} (a_loop {n = n} {b = b} {t = u} l i k r r') =
    let m = place_is r in
    let m' = place_is r' in
    let o = behind_is r in
    let q = had_long (had_at log at _ _ l) in
    simp length-append (omega arith)
place_is (a_done l h) = omega arith

pub record Between (log : List ℕ) (o : ℕ) : Type 0 where
  pub turns : ℕ
  pub tree : Tree
  pub behind : ℕ
  pub within : Within tree 1
  pub is_text : body_of log o ≡ text tree
  pub stands : log ≡ take o log ++ (line_text (Loop turns) ++ (body_of log o ++ (line_text Done ++ drop behind log)))

pub body_between : (log : List ℕ) (o : ℕ) → (body_check_of log o).number ≡ 0 → Between log o
unfolding body_of
body_between log o h =
    let w = here log o h in
    let b = body_here w in
    let t = b.tree in
    let from = w.from in
    let m : next_line log o ≡ from = sym (had_at log o (Loop w.turns) from w.read).on in
    let f : drop from log ≡ text t ++ (line_text Done ++ drop b.behind log) = text_of log b.reads in
    let k : b.place - from ≡ length (text t) = (let p = place_is b.reads in omega arith) in
    let is : body_of log o ≡ text t =
    rw (eq-eqb (body_check_of log o).number 0 h, m) (b.is ∙ rw (k, f) (take_at (text t) (line_text Done ++ drop b.behind log) (length (text t)) refl)) in
    record {
      turns = w.turns;
      tree = t;
      behind = b.behind;
      within = within_of log b.reads;
      is_text = is;
      stands =
          sym (take-append-drop o log)
          ∙ ap (λ (s : List ℕ). take o log ++ s)
          (had_split log (had_at log o (Loop w.turns) from w.read) ∙ ap (λ (s : List ℕ). line_text (Loop w.turns) ++ s) (rw is f));
    }

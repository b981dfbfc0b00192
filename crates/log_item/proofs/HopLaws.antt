-- The walk to an act: each step of it keeps the act. Assumes nothing.
use Rattle.std.specs.Prelude.{Result, Ok, Err}
use mathlib.Core.Path.{◌≡◌, refl, ap, ◌∙◌}
use mathlib.Core.List.{List, ◌∷◌, ◌++◌}
use mathlib.Core.Bool.{Bool, true, false}
use Prim.Native.Nat.{ℕ, suc, ◌+◌, ◌-◌, ◌*◌, ◌%◌, ◌≤◌, ◌<◌, min}
use native.Mathlib.Omega.{arith}
use native.Mathlib.Nat.{mod-lt, mod-le}
use borrow.Author.Tests.{ltb-true, ltb-false, eqb-true, eqb-false}
use lib.ListN.{length, length-append}
use lib.Dec.{ltb, eqb}
use Rattle.refusal.specs.declared.Refusal.{Refusal}
use Rattle.arith.specs.Pick.{pick}
use Rattle.log_line.specs.declared.Act.{Act}
use Rattle.log_line.specs.declared.Line.{Line}
use Rattle.log_line.specs.declared.Line.TheVariants.{Header, Machine, One, Loop, Done, Stop, NoForm, NoRegister}
use Rattle.log_rules.specs.declared.Block.TheVariants.{Closed}
use Rattle.log_rules.specs.Reading.{read_at}
use Rattle.log_rules.specs.Tree.{Tree, loop, acts, times}
use Rattle.log_rules.specs.Block.{Got, closed, stopped, refused, read_block, got_tree, totals, block_answer}
use Rattle.log_rules.proofs.PlaceLaws.{had_at, next_pos, next_le}
use Rattle.log_rules.proofs.TotalLaws.{length_times}
use Rattle.log_rules.proofs.Descent.{got_behind}
use Rattle.log_rules.proofs.Derived.{Ending, closes, stops, Reads, an_act, a_loop, a_done, a_stop, Derived, derived, got, block_of}
use Rattle.log_item.specs.declared.Hop.TheVariants.{Here, On}
use Rattle.log_item.specs.Walk.{acts_at, stay_of, inside_of, Hops}
use Rattle.log_item.proofs.CountLaws.{nth_in, nth_past, get_d_cons, cap_mod, cap_mul, lt_cap, pos_of}

got_tree_lem : (t : Tree) (e : Ending) → got_tree (got t e) ≡ t
unfolding got_tree
got_tree_lem t (closes p q) = refl
got_tree_lem t (stops p q n) = refl

-- the acts of a block that was read
pub acts_of : {log : List ℕ} {i d : ℕ} {t : Tree} {e : Ending} → Reads log i d t e → acts_at log i d ≡ acts t
unfolding acts_at
acts_of {log} {i} {d} {t} {e} r = ap acts (ap got_tree (block_of r) ∙ got_tree_lem t e)

-- a block that has acts was read
record Whole (log : List ℕ) (i d : ℕ) : Type 0 where
  tree : Tree
  ending : Ending
  reads : Reads log i d tree ending

whole_of : (log : List ℕ) (i d r : ℕ) (g : Got) → Derived log i d g → r < length (acts (got_tree g)) → Whole log i d
unfolding got_tree acts
whole_of log i d r (closed t p q) h k = record { tree = t; ending = closes p q; reads = h }
whole_of log i d r (stopped t p q n) h k = record { tree = t; ending = stops p q n; reads = h }
whole_of log i d r (refused n p) h k = absurd (omega arith)

-- where an item leads
leads : (log : List ℕ) (i : ℕ) (l : Line) (p : ℕ) → read_at log i ≡ Ok (l, p) → (i < p) × (p ≤ length log)
leads log i l p e =
    let h = had_at log i l p e in
    let z : i ≤ length log = omega (arith, h.inside) in
    (rw h.on (next_pos log i h.inside), rw h.on (next_le log i z))

module _ (log : List ℕ) (i d r : ℕ) (hr : r ≤ 1000000) (h : r < length (acts_at log i d)) where
  whole_here : Whole log i d
  unfolding acts_at
  whole_here = whole_of log i d r (read_block log i d) (derived log i d) h

  act_step : (a : Act) (p : ℕ) (t : Tree) (e : Ending) → i < p → p ≤ length log → Reads log p d t e → acts_at log i d ≡ a ∷ acts t → Hops log i d r (stay_of a p d r)
  act_step a p t e u v rd s = go (eqb r 0) refl (rw s at h) (acts_of rd)
    where
      go : (z : Bool) → eqb r 0 ≡ z → r < suc (length (acts t)) → acts_at log p d ≡ acts t → Hops log i d r (pick z (Here a) (On p d (r - 1)))
      go true q k f = rw (s, eqb-true r 0 q)
      go false q k f =
          let z = eqb-false r 0 q in
          let y : 0 < r = omega arith in
          (u, v, omega arith, rw f (omega arith), rw (s, f) (get_d_cons a (acts t) r y))

  loop_step : (n p q s : ℕ) (b t : Tree) (e : Ending) → i < p → p ≤ length log → p ≤ q → q < s → s ≤ length log → Reads log p (d + 1) b (closes q s) → Reads log s d t e
      → acts_at log i d ≡ acts (loop n b t) → Hops log i d r (inside_of (Ok (Closed q s (totals b))) n p d r)
  unfolding totals acts
  loop_step n p q s b t e u v w x y rd rd' f = go (ltb r (n * min 1000001 (length (acts b)))) refl (rw f at h) (acts_of rd) (acts_of rd')
    where
      go : (z : Bool) → ltb r (n * min 1000001 (length (acts b))) ≡ z → r < length (times n (acts b) ++ acts t) → acts_at log p (d + 1) ≡ acts b → acts_at log s d ≡ acts t
          → Hops log i d r (pick z (On p (d + 1) (r % min 1000001 (length (acts b)))) (On s d (r - n * min 1000001 (length (acts b)))))
      go true z k f₁ f₂ =
          let c = lt_cap n r (length (acts b)) (ltb-true r (n * min 1000001 (length (acts b))) z) in
          let o = pos_of n r (length (acts b)) c in
          let m = cap_mod r (length (acts b)) hr in
          (u, v, rw m (mod-le r (length (acts b))), rw (f₁, m) (mod-lt r o), rw (f, f₁, m) (nth_in n b t r c))
      go false z k f₁ f₂ =
          let c = ltb-false r (n * min 1000001 (length (acts b))) z in
          let m = cap_mul n r (length (acts b)) hr c in
          let j = rw (length-append, length_times) at k in
          let c' = rw m at c in
          (omega arith, y, omega arith, rw f₂ (omega arith), rw (f, f₂, m) (nth_past n b t r c'))

-- what the line at i must be
abbrev pub Next : List ℕ → ℕ → ℕ → ℕ → Result (Line × ℕ) Refusal → Type 0
Next log i d r (Ok (One a, p)) = Hops log i d r (stay_of a p d r)
Next log i d r (Ok (Loop n, p)) = (d < 8) × Hops log i d r (inside_of (block_answer (read_block log p (d + 1))) n p d r)
Next log i d r (Ok (Header, p)) = ⊥
Next log i d r (Ok (Machine, p)) = ⊥
Next log i d r (Ok (Done, p)) = ⊥
Next log i d r (Ok (Stop n, p)) = ⊥
Next log i d r (Ok (NoForm, p)) = ⊥
Next log i d r (Ok (NoRegister, p)) = ⊥
Next log i d r (Err e) = ⊥

next_by : {log : List ℕ} {i d : ℕ} {t : Tree} {e : Ending} (r : ℕ) → r ≤ 1000000 → r < length (acts_at log i d) → Reads log i d t e → Next log i d r (read_at log i)
unfolding acts block_answer
next_by {log} {i} {d} {t} {e} r hr h (an_act {p = p} {a = a} {t = u} l rd) =
    let o = leads log i (One a) p l in
    rw l (act_step log i d r hr h a p u e o.0 o.1 rd (acts_of (an_act l rd)))
next_by {log} {i} {d} {t} {e} r hr h (a_loop {n = n} {p = p} {q = q} {r = s} {b = b} {t = u} l z k rd rd') =
    let o = leads log i (Loop n) p l in
    let g = rw (block_of rd) at (got_behind log p (d + 1)) in
    rw (l, block_of rd) (k, loop_step log i d r hr h n p q s b u e o.0 o.1 g.0 g.1 g.2 rd rd' (acts_of (a_loop l z k rd rd')))
next_by {log} {i} {d} r hr h (a_done l z) = absurd (let k = rw (acts_of (a_done l z)) at h in omega arith)
next_by {log} {i} r hr h (a_stop l) = absurd (let k = rw (acts_of (a_stop l)) at h in omega arith)

pub next_is : (log : List ℕ) (i d r : ℕ) → r ≤ 1000000 → r < length (acts_at log i d) → Next log i d r (read_at log i)
next_is log i d r hr h = let w = whole_here log i d r hr h in next_by r hr h w.reads

-- what `match` knows of a line that is neither an act nor a loop
pub next_other : (log : List ℕ) (i d r : ℕ) (l : Line) (p : ℕ) → ((a : Act) → l ≡ One a → ⊥) → ((n : ℕ) → l ≡ Loop n → ⊥) → Next log i d r (Ok (l, p)) → ⊥
next_other log i d r Header p f g h = h
next_other log i d r Machine p f g h = h
next_other log i d r (One a) p f g h = f a refl
next_other log i d r (Loop n) p f g h = g n refl
next_other log i d r Done p f g h = h
next_other log i d r (Stop n) p f g h = h
next_other log i d r NoForm p f g h = h
next_other log i d r NoRegister p f g h = h

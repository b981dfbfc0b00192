-- What folding keeps: the acts, the clocks, the limits; turns grow by the copies folded, and the text does not grow. Assumes nothing.
use mathlib.Core.Path.{◌≡◌, refl, ap, sym, ◌∙◌, subst}
use mathlib.Core.List.{List, ◌∷◌, ◌++◌, append-nil}
use mathlib.Core.Bool.{Bool, true, false}
use Prim.Native.Nat.{ℕ, zero, suc, ◌+◌, ◌*◌, ◌-◌, ◌≤◌, ◌<◌}
use native.Mathlib.Omega.{arith}
use native.Mathlib.Nat.{mul-add, mul-le-mul}
use borrow.Author.Tests.{leb-true, ltb-true}
use lib.ListN.{length, take, drop, length-append}
use lib.Seq.{take_at, length-take-le}
use lib.Dec.{leb, ltb}
use Rattle.arith.specs.Pick.{pick, both}
use Rattle.arith.proofs.PickLaws.{both_left, both_right}
use Rattle.log_line.specs.declared.Act.{Act}
use Rattle.log_rules.specs.Tree.{Tree, end, act, loop, acts, times, turns, text, Within}
use Rattle.log_passing.proofs.ActLaws.{Every}
use Rattle.log_passing.proofs.TextLaws.{loop_long, act_long}
use Rattle.log_fold_rules.specs.Ahead.{leading, in_front, copies_there}
use Rattle.log_fold_rules.specs.Folding.{shorter, suits, Choice, plain, fold, choice_in, choice, made, folded}
use Rattle.log_fold_rules.proofs.AheadLaws.{behind, acts_run, turns_run, long_run, within_front, behind_none, ahead, every_leading, every_take, times_long, copies_are, copies_le}

-- A LOOP THAT IS MADE: p lines, c copies of them
pub record Suits (k : ℕ) (s : List Act) (p c : ℕ) : Type 0 where
  pub some : 1 ≤ p
  pub inside : p ≤ length s
  pub counted : c ≡ copies_there s p
  pub two : 2 ≤ c
  pub less : length (text (loop c (in_front (take p s) end) end)) < length (text (in_front (times c (take p s)) end))
  pub room : k + c ≤ 1000000

suits_are : (k : ℕ) (s : List Act) (p c : ℕ) → 1 ≤ p → c ≡ copies_there s p → suits k s p c ≡ true → Suits k s p c
unfolding suits shorter
suits_are k s p c z q e =
    let a : Bool = leb p (length s) in
    let b : Bool = leb 2 c in
    let d : Bool = ltb (length (text (loop c (in_front (take p s) end) end))) (length (text (in_front (times c (take p s)) end))) in
    let f : Bool = leb (k + c) 1000000 in
    let e₁ : both b (both d f) ≡ true = both_right a (both b (both d f)) e in
    let e₂ : both d f ≡ true = both_right b (both d f) e₁ in
    record {
      some = z;
      inside = leb-true p (length s) (both_left a (both b (both d f)) e);
      counted = q;
      two = leb-true 2 c (both_left b (both d f) e₁);
      less = ltb-true _ _ (both_left d f e₂);
      room = leb-true (k + c) 1000000 (both_right d f e₂);
    }

pub choice_is : (n k : ℕ) (s : List Act) (q p c : ℕ) → 1 ≤ q → choice_in n k s q ≡ fold p c → Suits k s p c
unfolding choice_in
choice_is zero k s q p c z e = absurd (let y : ◌≡◌ {A = ℕ} 0 1 = cc in omega arith)
choice_is (suc n) k s q p c z e = go (suits k s q (copies_there s q)) refl e (λ h. choice_is n k s (q + 1) p c (omega arith) h)
  where
    go : (b : Bool) → suits k s q (copies_there s q) ≡ b → pick b (fold q (copies_there s q)) (choice_in n k s (q + 1)) ≡ fold p c
        → (choice_in n k s (q + 1) ≡ fold p c → Suits k s p c) → Suits k s p c
    go true h e r =
        let x : q ≡ p = cc in
        let y : copies_there s q ≡ c = cc in
        suits_are k s p c (omega arith) (sym y ∙ ap (copies_there s) x) (rw (x, rw x at y) at h)
    go false h e r = r e

-- THE LINES THAT A LOOP REPLACES, and what is behind them
module _ (a : Act) (t : Tree) (k p c : ℕ) (w : Within (act a t) 0) (h : Suits k (leading (act a t)) p c) where
  pub block_long : length (take p (leading (act a t))) ≡ p
  block_long = length-take-le p (leading (act a t)) h.inside

  pub whole : leading (act a t) ≡ times c (take p (leading (act a t))) ++ drop (c * p) (leading (act a t))
  unfolding copies_there
  whole =
      let s : List Act = leading (act a t) in
      let e : Every s = every_leading (act a t) 0 w in
      rw h.counted (rw block_long at (copies_are 255 (take p s) s (every_take p s e) e))

  pub times_are : length (times c (take p (leading (act a t)))) ≡ c * p
  times_are = times_long c (take p (leading (act a t))) ∙ ap (λ (x : ℕ). c * x) block_long

  pub enough : c * p ≤ length (leading (act a t))
  enough = omega (arith, times_are, simp length-append at (ap length whole))

  pub product : suc (c * p - 1) ≡ c * p
  product =
      let o : 1 * 1 ≤ c * p = mul-le-mul {n₁ = 1} {m₁ = 1} {n₂ = c} {m₂ = p} (omega (arith, h.two)) h.some in
      omega arith

  pub replaced : act a t ≡ in_front (times c (take p (leading (act a t)))) (behind t (c * p - 1))
  unfolding behind
  replaced =
      let s : List Act = leading (act a t) in
      let x : take (c * p) s ≡ times c (take p s) = ap (take (c * p)) whole ∙ take_at (times c (take p s)) (drop (c * p) s) (c * p) times_are in
      let y : behind (act a t) (c * p) ≡ behind t (c * p - 1) = ap (behind (act a t)) (sym product) in
      ahead (act a t) (c * p) enough ∙ (ap (λ (l : List Act). in_front l (behind (act a t) (c * p))) x ∙ ap (in_front (times c (take p s))) y)

  pub within_body : Within (in_front (take p (leading (act a t))) end) 1
  within_body =
      let s : List Act = leading (act a t) in
      let e : act a t ≡ in_front (take p s) (behind (act a t) p) = ahead (act a t) p h.inside in
      within_front (take p s) (behind (act a t) p) 0 1 (subst (λ (x : Tree). Within x 0) e w)

  pub count_le : c ≤ 255
  unfolding copies_there
  count_le = rw h.counted (copies_le 255 (take p (leading (act a t))) (leading (act a t)))

-- the copies that are folded

unfoldable pub added_by : (ℕ → ℕ → ℕ) → Choice → ℕ
added_by rec plain = rec 0 0
added_by rec (fold p c) = c + rec (c * p - 1) c

unfoldable pub added : Tree → ℕ → ℕ → ℕ
added end j k = 0
added (loop n b t) j k = added t 0 k
added (act a t) zero k = added_by (λ j c. added t j (k + c)) (choice k (leading (act a t)))
added (act a t) (suc j) k = added t j k

-- WHAT COMES OUT: u out of t, with g copies folded, k being the turns so far
pub record Kept (u t : Tree) (g k : ℕ) : Type 0 where
  pub same_acts : acts u ≡ acts t
  pub more_turns : turns u ≡ turns t + g
  pub limit : k + g ≤ 1000000
  pub not_longer : length (text u) ≤ length (text t)
  pub within : Within u 0

-- a loop in the place of what it replaces
module _ (a : Act) (t : Tree) (k p c : ℕ) (w : Within (act a t) 0) (h : Suits k (leading (act a t)) p c) (u : Tree) (g : ℕ) (r : Kept u (behind t (c * p - 1)) g (k + c)) where
  abbrev B : List Act
  B = take p (leading (act a t))

  abbrev rest : Tree
  rest = behind t (c * p - 1)

  acts_loop : acts (loop c (in_front B end) u) ≡ times c (acts (in_front B end)) ++ acts u
  unfolding acts
  acts_loop = refl

  body_acts : acts (in_front B end) ≡ B
  unfolding acts
  body_acts = acts_run B end ∙ append-nil B

  loop_acts : acts (loop c (in_front B end) u) ≡ acts (act a t)
  loop_acts =
      acts_loop ∙ (ap (λ (l : List Act). times c l ++ acts u) body_acts ∙ (ap (λ (l : List Act). times c B ++ l) r.same_acts ∙ (sym (acts_run (times c B) rest) ∙ ap acts (sym (replaced a t k p c w h)))))

  turns_loop : turns (loop c (in_front B end) u) ≡ c * (1 + turns (in_front B end)) + turns u
  unfolding turns
  turns_loop = refl

  body_turns : turns (in_front B end) ≡ p
  unfolding turns
  body_turns = omega (arith, turns_run B end, block_long a t k p c w h)

  loop_turns : turns (loop c (in_front B end) u) ≡ turns (act a t) + (c + g)
  loop_turns =
      let x : turns (loop c (in_front B end) u) ≡ c * (1 + p) + turns u = turns_loop ∙ ap (λ (n : ℕ). c * (1 + n) + turns u) body_turns in
      let y : turns (act a t) ≡ c * p + turns rest = ap turns (replaced a t k p c w h) ∙ (turns_run (times c B) rest ∙ ap (λ (n : ℕ). n + turns rest) (times_are a t k p c w h)) in
      omega (arith, x, y, mul-add c 1 p, r.more_turns)

  loop_text_lem : length (text (loop c (in_front B end) u)) ≤ length (text (act a t))
  loop_text_lem =
      let x : length (text (act a t)) ≡ length (text (in_front (times c B) end)) + length (text rest) = ap (λ (z : Tree). length (text z)) (replaced a t k p c w h) ∙ long_run (times c B) rest in
      let y = loop_long c (in_front B end) u in
      let z = loop_long c (in_front B end) end in
      omega (arith, x, y, z, h.less, r.not_longer)

  pub kept_fold : Kept (loop c (in_front B end) u) (act a t) (c + g) k
  kept_fold =
      record {
        same_acts = loop_acts;
        more_turns = loop_turns;
        limit = omega (arith, r.limit);
        not_longer = loop_text_lem;
        within = ((h.two, count_le a t k p c w h), omega arith, within_body a t k p c w h, r.within);
      }

-- a line copied in front of what comes out behind it
kept_act : (a : Act) (t u : Tree) (g k : ℕ) → Within (act a t) 0 → Kept u t g k → Kept (act a u) (act a t) g k
unfolding acts turns
kept_act a t u g k w r =
    record {
      same_acts = ap (λ (l : List Act). a ∷ l) r.same_acts;
      more_turns = omega (arith, r.more_turns);
      limit = r.limit;
      not_longer = omega (arith, r.not_longer, act_long a t, act_long a u);
      within = (w.0, r.within);
    }

kept_loop : (n : ℕ) (b t u : Tree) (g k : ℕ) → Within (loop n b t) 0 → Kept u t g k → Kept (loop n b u) (loop n b t) g k
unfolding acts turns
kept_loop n b t u g k w r =
    record {
      same_acts = ap (λ (l : List Act). times n (acts b) ++ l) r.same_acts;
      more_turns = omega (arith, r.more_turns);
      limit = r.limit;
      not_longer = omega (arith, r.not_longer, loop_long n b t, loop_long n b u);
      within = (w.0, w.1, w.2, r.within);
    }

pub kept : (t : Tree) (j k : ℕ) → Within t 0 → k ≤ 1000000 → Kept (folded t j k) (behind t j) (added t j k) k
unfolding folded behind added made added_by choice
kept end j k w h = record { same_acts = refl; more_turns = omega arith; limit = omega arith; not_longer = omega arith; within = tt }
kept (loop n b t) j k w h = kept_loop n b t (folded t 0 k) (added t 0 k) k w (rw (behind_none t) at (kept t 0 k w.3 h))
kept (act a t) (suc j) k w h = kept t j k w.1 h
kept (act a t) zero k w h = go (choice k (leading (act a t))) refl (λ j c e. kept t j (k + c) w.1 e)
  where
    go : (x : Choice) → choice k (leading (act a t)) ≡ x
        → ((j c : ℕ) → k + c ≤ 1000000 → Kept (folded t j (k + c)) (behind t j) (added t j (k + c)) (k + c))
        → Kept (made a (leading (act a t)) (λ j c. folded t j (k + c)) x) (act a t) (added_by (λ j c. added t j (k + c)) x) k
    go plain e r =
        let z : k + 0 ≡ k = omega arith in
        kept_act a t (folded t 0 (k + 0)) (added t 0 (k + 0)) k w (subst (λ (x : ℕ). Kept (folded t 0 (k + 0)) t (added t 0 (k + 0)) x) z (rw (behind_none t) at (r 0 0 (omega arith))))
    go (fold p c) e r =
        let s : Suits k (leading (act a t)) p c = choice_is 16 k (leading (act a t)) 1 p c (omega arith) e in
        kept_fold a t k p c w s (folded t (c * p - 1) (k + c)) (added t (c * p - 1) (k + c)) (r (c * p - 1) c s.room)

-- What the code finds at a place by its bytes: the tests of a loop, the ends that are tried. Assumes nothing.
use Rattle.std.specs.Prelude.{Result, Ok, Err}
use mathlib.Core.Path.{◌≡◌, refl, ap, ap₂, sym, ◌∙◌}
use mathlib.Core.List.{List}
use mathlib.Core.Bool.{Bool, true, false}
use Prim.Native.Nat.{ℕ, zero, suc, ◌+◌, ◌*◌, ◌-◌, ◌≤◌, ◌<◌}
use native.Mathlib.Omega.{arith}
use borrow.Author.Tests.{le-leb, lt-leb, le-ltb, lt-ltb, ltb-true, ltb-false, eq-eqb, ne_eqb}
use lib.ListN.{length}
use lib.Dec.{leb, ltb, eqb}
use Rattle.refusal.specs.declared.Refusal.{Refusal}
use Rattle.arith.specs.Pick.{pick, both}
use Rattle.text.specs.Decimal.{decimal_text}
use Rattle.log_line.specs.declared.Line.{Line}
use Rattle.log_line.specs.declared.Line.TheVariants.{Header, Machine, One, Loop, Done, Stop, NoForm, NoRegister}
use Rattle.log_rules.specs.Reading.{read_at}
use Rattle.log_rules.proofs.PlaceLaws.{had_at, next_le, next_pos}
use Rattle.log_fold.specs.Moves.{plain_move, loop_move, act_line, act_end_by, act_end, copies_at, suits_of, chosen_in, loop_text, move_text}

-- the tests of a loop

both_no : (a : Bool) → both a false ≡ false
both_no true = refl
both_no false = refl

module _ (k m c w : ℕ) (e : w ≡ length (decimal_text c)) where
  pub suits_long : c * m ≤ 16 + w + m → false ≡ suits_of k m c
  unfolding suits_of
  suits_long h =
      let l : ltb (16 + length (decimal_text c) + m) (c * m) ≡ false = le-ltb (16 + length (decimal_text c) + m) (c * m) (omega arith) in
      sym (ap (λ (b : Bool). both (leb 2 c) (both b (leb (k + c) 1000000))) l ∙ both_no (leb 2 c))

  pub suits_short : 2 ≤ c → 16 + w + m < c * m → leb (k + c) 1000000 ≡ suits_of k m c
  unfolding suits_of
  suits_short h g =
      let l : ltb (16 + length (decimal_text c) + m) (c * m) ≡ true = lt-ltb (16 + length (decimal_text c) + m) (c * m) (omega arith) in
      sym (ap₂ (λ (a b : Bool). both a (both b (leb (k + c) 1000000))) (le-leb 2 c h) l)

pub suits_few : (k m c : ℕ) → c < 2 → false ≡ suits_of k m c
unfolding suits_of
suits_few k m c h = rw (lt-leb 2 c h)

-- with fewer than two turns left nothing is folded

suits_over : (k m c : ℕ) → 1000000 < k + c → suits_of k m c ≡ false
unfolding suits_of
suits_over k m c z = rw (lt-leb (k + c) 1000000 z) (ap (both (leb 2 c)) (both_no (ltb (16 + length (decimal_text c) + m) (c * m))) ∙ both_no (leb 2 c))

suits_spent : (k m c : ℕ) → 999998 < k → suits_of k m c ≡ false
suits_spent k m c h = go (ltb c 2) refl
  where
    go : (b : Bool) → ltb c 2 ≡ b → suits_of k m c ≡ false
    go true e = sym (suits_few k m c (ltb-true c 2 e))
    go false e = suits_over k m c (let z = ltb-false c 2 e in omega arith)

pub chosen_spent : (n : ℕ) (log : List ℕ) (at k next e : ℕ) → 999998 < k → chosen_in n log at k next e ≡ plain_move next
unfolding chosen_in
chosen_spent zero log at k next e h = refl
chosen_spent (suc n) log at k next e h =
    let s = suits_spent k (act_end log e - at) (copies_at log at (act_end log e)) h in
    rw (s, chosen_spent n log at k next (act_end log e) h) (either (eqb (act_end log e) e))
  where
    either : (b : Bool) → pick b (plain_move next) (plain_move next) ≡ plain_move next
    either true = refl
    either false = refl

-- where a line of the three kinds ends

module _ (log : List ℕ) (at : ℕ) (h : at ≤ length log) where
  act_line_in : (l : Line) (next : ℕ) → at ≤ next → next ≤ length log → (at ≤ act_line at next l) × (act_line at next l ≤ length log)
  act_line_in Header next a b = (omega arith, h)
  act_line_in Machine next a b = (omega arith, h)
  act_line_in (One x) next a b = (a, b)
  act_line_in (Loop n) next a b = (omega arith, h)
  act_line_in Done next a b = (omega arith, h)
  act_line_in (Stop n) next a b = (omega arith, h)
  act_line_in NoForm next a b = (omega arith, h)
  act_line_in NoRegister next a b = (omega arith, h)

  act_by_in : (r : Result (Line × ℕ) Refusal) → read_at log at ≡ r → (at ≤ act_end_by at r) × (act_end_by at r ≤ length log)
  act_by_in (Ok (l, next)) e =
      let g = had_at log at l next e in
      act_line_in l next (omega (arith, g.on, next_pos log at g.inside)) (omega (arith, g.on, next_le log at h))
  act_by_in (Err why) e = (omega arith, h)

  pub act_end_in : (at ≤ act_end log at) × (act_end log at ≤ length log)
  unfolding act_end
  act_end_in = act_by_in (read_at log at) refl

-- the ends that have been tried did not suit, and e is the last of them
pub record Choosing (log : List ℕ) (at k next e p : ℕ) : Type 0 where
  pub low : at ≤ e
  pub high : e ≤ length log
  pub most : p ≤ 16
  pub left : chosen_in 16 log at k next at ≡ chosen_in (16 - p) log at k next e

module _ (log : List ℕ) (at k next : ℕ) (h : at ≤ length log) where
  pub choosing_start : Choosing log at k next at 0
  choosing_start = record { low = omega arith; high = h; most = omega arith; left = refl }

  module _ (e p : ℕ) (r : Choosing log at k next e p) where
    pub choosing_full : 16 ≤ p → plain_move next ≡ chosen_in 16 log at k next at
    unfolding chosen_in
    choosing_full z =
        let y : 16 - p ≡ 0 = omega arith in
        sym (r.left ∙ ap (λ (x : ℕ). chosen_in x log at k next e) y)

    module _ (z : p < 16) (n : ℕ) (hn : n ≡ act_end log e) where
      pub end_in : (at ≤ n) × (n ≤ length log)
      end_in = let g = act_end_in log e r.high in (omega (arith, r.low, g.0), omega (arith, g.1))

      pub end_on : e ≤ n
      end_on = let g = act_end_in log e r.high in omega (arith, g.0)

      unrolled : chosen_in 16 log at k next at ≡ pick (eqb n e) (plain_move next) (pick (suits_of k (n - at) (copies_at log at n)) (loop_move at n (copies_at log at n)) (chosen_in (16 - (p + 1)) log at k next n))
      unfolding chosen_in
      unrolled =
          let y : 16 - p ≡ suc (16 - (p + 1)) = omega arith in
          rw hn (r.left ∙ ap (λ (x : ℕ). chosen_in x log at k next e) y)

      pub choosing_none : n ≡ e → plain_move next ≡ chosen_in 16 log at k next at
      choosing_none q = sym (unrolled ∙ ap (λ (b : Bool). pick b (plain_move next) (pick (suits_of k (n - at) (copies_at log at n)) (loop_move at n (copies_at log at n)) (chosen_in (16 - (p + 1)) log at k next n))) (eq-eqb n e q))

      module _ (q : n ≡ e → ⊥) (c : ℕ) (hc : c ≡ copies_at log at n) where
        tried : chosen_in 16 log at k next at ≡ pick (suits_of k (n - at) c) (loop_move at n c) (chosen_in (16 - (p + 1)) log at k next n)
        tried = rw hc (unrolled ∙ ap (λ (b : Bool). pick b (plain_move next) (pick (suits_of k (n - at) (copies_at log at n)) (loop_move at n (copies_at log at n)) (chosen_in (16 - (p + 1)) log at k next n))) (ne_eqb n e q))

        pub choosing_found : suits_of k (n - at) c ≡ true → loop_move at n c ≡ chosen_in 16 log at k next at
        choosing_found s = sym (tried ∙ ap (λ (b : Bool). pick b (loop_move at n c) (chosen_in (16 - (p + 1)) log at k next n)) s)

        pub choosing_more : suits_of k (n - at) c ≡ false → Choosing log at k next n (p + 1)
        choosing_more s = record { low = end_in.0; high = end_in.1; most = omega arith; left = tried ∙ ap (λ (b : Bool). pick b (loop_move at n c) (chosen_in (16 - (p + 1)) log at k next n)) s }

-- what is written for a move

pub move_plain : (c : ℕ) (s : List ℕ) → c ≡ 0 → move_text c s ≡ s
unfolding move_text
move_plain c s e = rw (eq-eqb c 0 e)

pub move_looped : (c : ℕ) (s : List ℕ) → (c ≡ 0 → ⊥) → move_text c s ≡ loop_text c s
unfolding move_text
move_looped c s e = rw (ne_eqb c 0 e)

-- The totals and the weights behind a line, cut off. Assumes nothing.
use mathlib.Core.Path.{◌≡◌, refl, ap, sym, ◌∙◌}
use mathlib.Core.List.{List, [], ◌∷◌}
use mathlib.Core.Bool.{Bool, true, false}
use Prim.Native.Nat.{ℕ, zero, suc, ◌+◌, ◌*◌, ◌≤◌, ◌<◌, min}
use native.Mathlib.Nat.{mul-zero, mul-one}
use native.Mathlib.Omega.{arith}
use borrow.Author.Tests.{eqb-true, eqb-false, ltb-true, ltb-false}
use lib.Dec.{eqb, ltb}
use lib.ListN.{length, get_or, set, length-set}
use lib.Seq.{get_or-set_same, get_or-set_other, set_out}
use Rattle.log_line.specs.declared.Act.{Act}
use Rattle.log_line.specs.declared.Line.{Line}
use Rattle.log_line.specs.declared.Line.TheVariants.{Header, Machine, One, Loop, Done, Stop, NoForm, NoRegister}
use Rattle.log_rules.specs.Tree.{act_clocks}
use Rattle.log_salvage.specs.declared.Tally.{Tally}
use Rattle.log_salvage.specs.Steps.{more_by, opened_by, tally_line, no_tally, Small, Opens}
use Rattle.log_salvage.specs.Writing.{Often, Cut}
use Rattle.log_salvage.proofs.TallyLaws.{counted, weights_behind, cut_more, cut_times}

-- a store into the array

often_set : (array : List ℕ) (ws : List ℕ) (i v : ℕ) → length ws ≤ i → Often array ws → Often (set array i v) ws
often_set array [] i v h o = tt
often_set array (w ∷ ws) i v h o =
    let z : length ws ≡ i → ⊥ = λ e. omega arith in
    (get_or-set_other array i (length ws) v 0 z ∙ o.0, often_set array ws i v (omega arith) o.1)

pub set_small : (array : List ℕ) (i v b : ℕ) → v ≤ b → ((j : ℕ) → get_or array j 0 ≤ b) → (j : ℕ) → get_or (set array i v) j 0 ≤ b
set_small array i v b h f j = go (eqb j i) refl (ltb i (length array)) refl
  where
    go : (x : Bool) → eqb j i ≡ x → (y : Bool) → ltb i (length array) ≡ y → get_or (set array i v) j 0 ≤ b
    go true e true g = rw (eqb-true j i e, get_or-set_same array i v 0 (ltb-true i (length array) g)) h
    go true e false g = rw (set_out array i v (ltb-false i (length array) g)) (f j)
    go false e y g = rw (get_or-set_other array i j v 0 (eqb-false j i e)) (f j)

module _ {t : Tally} {w : ℕ} {ws : List ℕ} {c u : ℕ} (k : Cut t (w ∷ ws) c u) (d : ℕ) (e : length ws ≡ d) where
  weight_is : get_or t.often d 0 ≡ min 2000000001 w
  weight_is = rw e at k.often.0

  act_clocks_lem : (x : ℕ) → min 2000000001 (t.clocks + get_or t.often d 0 * x) ≡ min 2000000001 (c + w * x)
  act_clocks_lem x = rw (weight_is, k.all_clocks) (cut_more 2000000001 2000000001 c w x (omega arith))

  act_turns : (x : ℕ) → min 1000001 (t.turns + get_or t.often d 0 * x) ≡ min 1000001 (u + w * x)
  act_turns x = rw (weight_is, k.all_turns) (cut_more 1000001 2000000001 u w x (omega arith))

  cut_act : (a : Act) → Cut (more_by t (get_or t.often d 0) 1 (act_clocks a)) (w ∷ ws) (c + w * act_clocks a) (u + w * 1)
  unfolding more_by
  cut_act a =
      record {
        often = k.often;
        long = k.long;
        small = record { often = k.small.often; clocks = omega arith; turns = omega arith };
        all_clocks = act_clocks_lem (act_clocks a);
        all_turns = act_turns 1;
      }

  cut_loop : (n : ℕ) → d < 8 → Cut (opened_by t d n) (w * n ∷ w ∷ ws) (c + w * (n * 0)) (u + w * (n * 1))
  unfolding opened_by
  cut_loop n h =
      let v : ℕ = min 2000000001 (get_or t.often d 0 * n) in
      let long = k.long in
      let z : length (w ∷ ws) ≡ d + 1 = omega arith in
      let inner : get_or (set t.often (d + 1) v) (length (w ∷ ws)) 0 ≡ min 2000000001 (w * n) =
      rw (z, get_or-set_same t.often (d + 1) v 0 (omega arith), weight_is) (cut_times 2000000001 w n) in
      record {
        often = (inner, often_set t.often (w ∷ ws) (d + 1) v (omega arith) k.often);
        long = length-set t.often (d + 1) v ∙ k.long;
        small = record { often = set_small t.often (d + 1) v 2000000001 (omega arith) k.small.often; clocks = omega arith; turns = omega arith };
        all_clocks = act_clocks_lem 0 ∙ ap (λ (x : ℕ). min 2000000001 (c + w * x)) (sym (mul-zero n));
        all_turns = act_turns n ∙ ap (λ (x : ℕ). min 1000001 (u + w * x)) (sym (mul-one n));
      }

  cut_less : Cut t ws c u
  cut_less = record { often = k.often.1; long = k.long; small = k.small; all_clocks = k.all_clocks; all_turns = k.all_turns }

  pub cut_line : (l : Line) → Opens d l → Cut (tally_line t d l) (weights_behind w ws l) (counted act_clocks 0 c w l) (counted (λ a. 1) 1 u w l)
  unfolding tally_line weights_behind counted
  cut_line (One a) o = cut_act a
  cut_line (Loop n) o = cut_loop n o
  cut_line Done o = cut_less
  cut_line (Stop n) o = cut_less
  cut_line Header o = k
  cut_line Machine o = k
  cut_line NoForm o = k
  cut_line NoRegister o = k

-- before the first line

abbrev UpTo : ℕ → List ℕ → Type 0
UpTo b [] = Unit {0}
UpTo b (x ∷ xs) = (x ≤ b) × UpTo b xs

up_to : (b : ℕ) (xs : List ℕ) → UpTo b xs → (i : ℕ) → get_or xs i 0 ≤ b
up_to b [] h i = omega arith
up_to b (x ∷ xs) h zero = h.0
up_to b (x ∷ xs) h (suc i) = up_to b xs h.1 i

pub small_none : Small no_tally
small_none = record { often = up_to 2000000001 no_tally.often (search arith); clocks = omega arith; turns = omega arith }

pub cut_none : Cut no_tally (1 ∷ []) 0 0
cut_none = record { often = (refl, tt); long = refl; small = small_none; all_clocks = refl; all_turns = refl }

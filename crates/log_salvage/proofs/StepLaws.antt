-- One line: the fate that the code decides is the one that is defined, and a pass that has kept k has kept what is behind the line. Assumes nothing.
use Rattle.std.specs.Prelude.{Result, Ok, Err}
use mathlib.Core.Path.{◌≡◌, refl, ap, ap₂, sym, ◌∙◌}
use mathlib.Core.List.{List}
use mathlib.Core.Bool.{Bool, true, false}
use Prim.Native.Nat.{ℕ, zero, suc, ◌≤◌, ◌<◌, min}
use native.Mathlib.Omega.{arith}
use borrow.Author.Tests.{eqb-true, eqb-false, eq-eqb, ne_eqb, ltb-true, lt-ltb}
use lib.Dec.{eqb, ltb}
use Rattle.refusal.specs.declared.Refusal.{Refusal}
use Rattle.refusal.specs.Refusal.{refusal, number_of}
use Rattle.arith.specs.Pick.{pick, both}
use Rattle.arith.proofs.PickLaws.{both_left, both_right, pick_both}
use Rattle.log_line.specs.declared.Line.{Line}
use Rattle.log_line.specs.declared.Line.TheVariants.{Header, Machine, One, Loop, Done, Stop, NoForm, NoRegister}
use Rattle.log_line.specs.Said.{line_of}
use Rattle.log_fault.specs.declared.Stand.TheVariants.{Among}
use Rattle.log_fault.specs.Fault.{spot_of}
use Rattle.log_fault.proofs.FaultLaws.{right_line, zero_one, Eight, done, stop, eight_line, line_stop}
use Rattle.log_fault.proofs.Standing.{told, tell, goes_may, lets, Lets, turn, opens as opened-on, ends as ends_on}
use Rattle.log_rules.specs.Tree.{clocks}
use Rattle.log_salvage_rules.specs.declared.Fate.TheVariants.{Keep, Drop, Ninth, NinthDone}
use Rattle.log_salvage_rules.specs.Mending.{Kept, kept_tree, stop_fate, right_fate, found_fate, line_fate, fate_of, is_stop}
use Rattle.log_salvage.specs.declared.Place.{Place}
use Rattle.log_salvage.specs.Steps.{stop_by, right_by, wrong_by, found_by, OpensBy}

-- A LOOP LINE IS KEPT ONLY INSIDE FEWER THAN EIGHT

module _ (p : Place) (l : List ℕ) (c : ℕ) (last : Bool) where
  right_opens : (x : Line) → Lets p.second p.depth x → OpensBy p.depth (right_by x p.ninths c last)
  right_opens (Stop n) h = pick_both (OpensBy p.depth) (both last (eqb n c)) tt tt
  right_opens Done h = pick_both (OpensBy p.depth) (ltb 0 p.ninths) tt tt
  right_opens (Loop n) (turn (opened-on h)) = h
  right_opens (One a) h = tt
  right_opens Header h = tt
  right_opens Machine h = tt
  right_opens NoForm h = tt
  right_opens NoRegister h = tt

  found_opens : (f : Result Line Refusal) → spot_of (Among p.second p.depth) l ≡ f → OpensBy p.depth (found_by f p c last)
  unfolding found_by
  found_opens (Ok x) e = right_opens x (lets p.second p.depth l x e)
  found_opens (Err why) e = pick_both (OpensBy p.depth) (eqb why.number 7) tt (pick_both (OpensBy p.depth) (both (eqb why.number 8) (ltb 0 p.depth)) tt tt)

  pub opens_by : OpensBy p.depth (found_by (spot_of (Among p.second p.depth) l) p c last)
  opens_by = found_opens (spot_of (Among p.second p.depth) l) refl

-- THE FATE OF A LINE

both_not : (b : Bool) → both b false ≡ false
both_not true = refl
both_not false = refl

-- a `stop` has a number that is not cut off
same_number : (n c : ℕ) → n ≤ 2000000000 → eqb n (min 2000000001 c) ≡ eqb n c
same_number n c h = go (eqb n c) refl
  where
    go : (b : Bool) → eqb n c ≡ b → eqb n (min 2000000001 c) ≡ b
    go true e = let q = eqb-true n c e in eq-eqb n (min 2000000001 c) (omega arith)
    go false e = let q = eqb-false n c e in ne_eqb n (min 2000000001 c) (λ z. q (omega (arith, z)))

-- where no loop is open, the clocks so far
pub record Known (k : Kept) (clocks-so-far : ℕ) : Type 0 where
  pub exact : k.depth ≡ 0 → clocks-so-far ≡ min 2000000001 (clocks (kept_tree k.new))

module _ (k : Kept) (l : List ℕ) (c : ℕ) (known : Known k c) (last : Bool) where
  stop_same : (n : ℕ) → k.depth ≡ 0 → n ≤ 2000000000 → stop_by (both last (eqb n c)) last n ≡ stop_fate k last n
  unfolding stop_fate
  stop_same n d h =
      let e : eqb n c ≡ eqb n (clocks (kept_tree k.new)) = ap (eqb n) (known.exact d) ∙ same_number n (clocks (kept_tree k.new)) h in
      rw (d, e)

  right_same : (x : Line) → spot_of (Among k.second k.depth) l ≡ Ok x → right_by x k.ninths c last ≡ line_fate k last (Ok x) x
  unfolding line_fate found_fate right_fate
  right_same (Stop n) e = go (lets k.second k.depth l (Stop n) e)
    where
      go : Lets k.second k.depth (Stop n) → stop_by (both last (eqb n c)) last n ≡ stop_fate k last n
      go (turn (ends_on d)) = stop_same n d (right_line (Among k.second k.depth) l (Stop n) e).within
  right_same Done e = refl
  right_same Header e = refl
  right_same Machine e = refl
  right_same (One a) e = refl
  right_same (Loop n) e = refl
  right_same NoForm e = refl
  right_same NoRegister e = refl

  -- 8 is a `stop`'s where a loop is open
  not_stop : (r i : ℕ) → spot_of (Among k.second k.depth) l ≡ Err (refusal r i) → is_stop (line_of l) ≡ false → both (eqb r 8) (ltb 0 k.depth) ≡ false
  unfolding is_stop
  not_stop r i e n = go (both (eqb r 8) (ltb 0 k.depth)) refl
    where
      by : Eight (Among k.second k.depth) l i → 0 < k.depth → true ≡ false
      by (done z s st m) h = zero_one (let q : k.depth ≡ 0 = cc in absurd (omega arith))
      by (stop z s d m st g x) h = sym (ap is_stop x) ∙ n

      go : (b : Bool) → both (eqb r 8) (ltb 0 k.depth) ≡ b → b ≡ false
      go true h =
          let q : r ≡ 8 = eqb-true r 8 (both_left (eqb r 8) _ h) in
          by (eight_line (Among k.second k.depth) l i (e ∙ ap (λ (x : ℕ). Err (refusal x i)) q)) (ltb-true 0 k.depth (both_right (eqb r 8) _ h))
      go false h = refl

  -- with none open it is right
  stop_inside : (n : ℕ) → line_of l ≡ Stop n → (r i : ℕ) → spot_of (Among k.second k.depth) l ≡ Err (refusal r i) → 0 < k.depth
  stop_inside n x r i e = go k.depth refl
    where
      go : (d : ℕ) → k.depth ≡ d → 0 < d
      go zero h =
          let q : spot_of (Among k.second k.depth) l ≡ Ok (Stop n) = tell (Among k.second k.depth) l (Stop n) x (goes_may k.second (ends_on h)) in
          zero_one (cc)
      go (suc d) h = omega arith

  stop_dropped : (n : ℕ) → line_of l ≡ Stop n → (r i : ℕ) → spot_of (Among k.second k.depth) l ≡ Err (refusal r i) → wrong_by r k.depth last ≡ stop_fate k last n
  unfolding stop_fate
  stop_dropped n x r i e =
      let h = stop_inside n x r i e in
      let q : r ≡ 8 = ap (number_of {A = Line}) (sym e ∙ line_stop l k.second k.depth n h x) in
      rw (q, lt-ltb 0 k.depth h, ne_eqb k.depth 0 (λ z. omega (arith, z)), both_not last)

  wrong_same : (r i : ℕ) → spot_of (Among k.second k.depth) l ≡ Err (refusal r i) → (x : Line) → line_of l ≡ x → wrong_by r k.depth last ≡ line_fate k last (Err (refusal r i)) x
  unfolding line_fate found_fate is_stop
  wrong_same r i e (Stop n) x = stop_dropped n x r i e
  wrong_same r i e Header x = rw (not_stop r i e (ap is_stop x))
  wrong_same r i e Machine x = rw (not_stop r i e (ap is_stop x))
  wrong_same r i e (One a) x = rw (not_stop r i e (ap is_stop x))
  wrong_same r i e (Loop n) x = rw (not_stop r i e (ap is_stop x))
  wrong_same r i e Done x = rw (not_stop r i e (ap is_stop x))
  wrong_same r i e NoForm x = rw (not_stop r i e (ap is_stop x))
  wrong_same r i e NoRegister x = rw (not_stop r i e (ap is_stop x))

  found_same : (p : Place) → p.depth ≡ k.depth → p.ninths ≡ k.ninths → (f : Result Line Refusal) → spot_of (Among k.second k.depth) l ≡ f → found_by f p c last ≡ line_fate k last f (line_of l)
  unfolding found_by
  found_same p d n (Ok x) e = ap (λ (j : ℕ). right_by x j c last) n ∙ (right_same x e ∙ ap (line_fate k last (Ok x)) (sym (told (Among k.second k.depth) l x e).says))
  found_same p d n (Err why) e = ap (λ (j : ℕ). wrong_by why.number j last) d ∙ wrong_same why.number why.place e (line_of l) refl

  pub fate_same : (p : Place) → p.second ≡ k.second → p.depth ≡ k.depth → p.ninths ≡ k.ninths → found_by (spot_of (Among p.second p.depth) l) p c last ≡ fate_of k last l
  unfolding fate_of
  fate_same p s d n =
      ap₂ (λ (b : Bool) (j : ℕ). found_by (spot_of (Among b j) l) p c last) s d ∙ found_same p d n (spot_of (Among k.second k.depth) l) refl

-- what is kept is right
pub kept_right : (f : Result Line Refusal) (p : Place) (c : ℕ) (last : Bool) (m : Line) → found_by f p c last ≡ Keep m → f ≡ Ok m
unfolding found_by
kept_right (Err why) p c last m e = wrongly (eqb why.number 7) (both (eqb why.number 8) (ltb 0 p.depth)) e
  where
    wrongly : (a b : Bool) → pick a Ninth (pick b (Drop (pick last 10 19)) (Drop why.number)) ≡ Keep m → ◌≡◌ {A = Result Line Refusal} (Err (refusal why.number why.place)) (Ok m)
    wrongly true b e = zero_one (cc)
    wrongly false true e = zero_one (cc)
    wrongly false false e = zero_one (cc)
kept_right (Ok Header) p c last m e = cc
kept_right (Ok Machine) p c last m e = cc
kept_right (Ok (One a)) p c last m e = cc
kept_right (Ok (Loop n)) p c last m e = cc
kept_right (Ok NoForm) p c last m e = cc
kept_right (Ok NoRegister) p c last m e = cc
kept_right (Ok Done) p c last m e = by (ltb 0 p.ninths) e
  where
    by : (b : Bool) → pick b NinthDone (Keep Done) ≡ Keep m → ◌≡◌ {A = Result Line Refusal} (Ok Done) (Ok m)
    by true e = zero_one (cc)
    by false e = cc
kept_right (Ok (Stop n)) p c last m e = by (both last (eqb n c)) e
  where
    by : (b : Bool) → stop_by b last n ≡ Keep m → ◌≡◌ {A = Result Line Refusal} (Ok (Stop n)) (Ok m)
    by true e = cc
    by false e = zero_one (cc)

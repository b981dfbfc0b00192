-- What has been kept is right lines, one behind the other; a `stop` stays only behind the last. Assumes nothing.
use Rattle.std.specs.Prelude.{Result, Ok, Err}
use mathlib.Core.Path.{◌≡◌, refl, ap, sym, ◌∙◌}
use mathlib.Core.Logic.{inl, inr}
use mathlib.Core.List.{List, [], ◌∷◌, ◌++◌}
use mathlib.Core.Bool.{Bool, true, false, false≢true}
use Prim.Native.Nat.{ℕ, zero, suc, ◌+◌, ◌-◌}
use native.Mathlib.Omega.{arith}
use borrow.Author.Tests.{eqb-true}
use lib.ListN.{length}
use lib.Dec.{eqb, ltb}
use Rattle.refusal.specs.declared.Refusal.{Refusal}
use Rattle.arith.specs.Pick.{pick, both}
use Rattle.arith.proofs.PickLaws.{both_left, both_right, pick_both}
use Rattle.log_line.specs.declared.Line.{Line}
use Rattle.log_line.specs.declared.Line.TheVariants.{Header, Machine, One, Loop, Done, Stop, NoForm, NoRegister}
use Rattle.log_line.specs.Said.{line_of}
use Rattle.log_line.specs.Printed.{line_text, Printable}
use Rattle.log_line.proofs.Forth.{AtFault}
use Rattle.log_line.proofs.LineLaws.{read_printed}
use Rattle.log_fault.specs.declared.Stand.TheVariants.{Among}
use Rattle.log_fault.specs.Fault.{spot_of}
use Rattle.log_fault.proofs.FaultLaws.{right_line}
use Rattle.log_fault.proofs.Standing.{told, lets, turn, closes}
use Rattle.log_rules.specs.Tree.{clocks}
use Rattle.log_salvage_rules.specs.declared.Fate.TheVariants.{Keep, Drop}
use Rattle.log_salvage_rules.specs.Mending.{Kept, kept_tree, stop_fate, right_fate, found_fate, line_fate, fate_of, deeper, is_stop, dropping, behind_line, none, sift, adding, closed_by}
use Rattle.log_salvage_rules.proofs.RunLaws.{Run, more}

-- no `stop` yet
pub record Going (k : Kept) : Type 0 where
  pub run : Run k.second k.depth k.new
  pub unstopped : k.stopped ≡ false

-- or a right one, no loop open, if the damaged log ended there
pub record Stayed (k : Kept) : Type 0 where
  pub second : Bool
  pub text : List ℕ
  pub number : ℕ
  pub run : Run second 0 text
  pub is : number ≡ clocks (kept_tree text)
  pub within : Printable (Stop number)
  pub new : k.new ≡ text ++ line_text (Stop number)
  pub depth : k.depth ≡ 0
  pub stopped : k.stopped ≡ true

pub data Left (last : Bool) (k : Kept) : Type 0 where
  goes : Going k → Left last k
  stays : last ≡ true → Stayed k → Left last k

not_bad : {n : ℕ} → AtFault (Stop n) → ⊥
not_bad (inl e) = let z : ◌≡◌ {A = ℕ} 0 1 = cc in omega arith
not_bad (inr e) = let z : ◌≡◌ {A = ℕ} 0 1 = cc in omega arith

module _ (k : Kept) (g : Going k) (at : ℕ) (l : List ℕ) where
  dropped_goes : (r m : ℕ) → Going (dropping k at r m)
  unfolding dropping
  dropped_goes r m = record { run = g.run; unstopped = g.unstopped }

  kept_goes : (x : Line) → spot_of (Among k.second k.depth) l ≡ Ok x → is_stop x ≡ false → Going (behind_line k at l (Keep x))
  unfolding behind_line
  kept_goes x e n =
      let r = right_line (Among k.second k.depth) l x e in
      let w : Run false (deeper k.depth x) (k.new ++ l) = rw r.is (more g.run (lets k.second k.depth l x e) r.within n) in
      record { run = w; unstopped = n }

  right_goes : (x : Line) → spot_of (Among k.second k.depth) l ≡ Ok x → is_stop x ≡ false → Going (behind_line k at l (right_fate k x))
  unfolding right_fate is_stop behind_line
  right_goes Header e n = kept_goes Header e n
  right_goes Machine e n = kept_goes Machine e n
  right_goes (One a) e n = kept_goes (One a) e n
  right_goes (Loop m) e n = kept_goes (Loop m) e n
  right_goes Done e n = pick_both (λ f. Going (behind_line k at l f)) (ltb 0 k.ninths) (dropped_goes 7 (k.ninths - 1)) (kept_goes Done e n)
  right_goes (Stop m) e n = absurd (false≢true (sym n))
  right_goes NoForm e n = kept_goes NoForm e n
  right_goes NoRegister e n = kept_goes NoRegister e n

  found_goes : (f : Result Line Refusal) → spot_of (Among k.second k.depth) l ≡ f → is_stop (line_of l) ≡ false → Going (behind_line k at l (found_fate k f))
  unfolding found_fate behind_line
  found_goes (Ok x) e n = right_goes x e (ap is_stop (sym (told (Among k.second k.depth) l x e).says) ∙ n)
  found_goes (Err why) e n = pick_both (λ f. Going (behind_line k at l f)) (eqb why.number 7) (dropped_goes 7 (k.ninths + 1)) (dropped_goes why.number k.ninths)

  stop_left : (last : Bool) (n : ℕ) → line_of l ≡ Stop n → Left last (behind_line k at l (stop_fate k last n))
  unfolding stop_fate behind_line is_stop deeper
  stop_left last n e = go (both last (both (eqb k.depth 0) (eqb n (clocks (kept_tree k.new))))) refl
    where
      go : (b : Bool) → both last (both (eqb k.depth 0) (eqb n (clocks (kept_tree k.new)))) ≡ b
          → Left last (behind_line k at l (pick b (Keep (Stop n)) (Drop (pick last 10 19))))
      go true h =
          let i = both_right last _ h in
          let d : k.depth ≡ 0 = eqb-true k.depth 0 (both_left _ _ i) in
          let q = read_printed l (Stop n) e not_bad in
          stays (both_left last _ h) (record {
            second = k.second;
            text = k.new;
            number = n;
            run = rw d at g.run;
            is = eqb-true n (clocks (kept_tree k.new)) (both_right (eqb k.depth 0) _ i);
            within = q.1;
            new = ap (λ (x : List ℕ). k.new ++ x) q.0;
            depth = d;
            stopped = refl;
          })
      go false h = goes (dropped_goes (pick last 10 19) k.ninths)

  line_left : (last : Bool) (f : Result Line Refusal) → spot_of (Among k.second k.depth) l ≡ f → (m : Line) → line_of l ≡ m → Left last (behind_line k at l (line_fate k last f m))
  unfolding line_fate is_stop
  line_left last f e (Stop n) h = stop_left last n h
  line_left last f e Header h = goes (found_goes f e (ap is_stop h))
  line_left last f e Machine h = goes (found_goes f e (ap is_stop h))
  line_left last f e (One a) h = goes (found_goes f e (ap is_stop h))
  line_left last f e (Loop n) h = goes (found_goes f e (ap is_stop h))
  line_left last f e Done h = goes (found_goes f e (ap is_stop h))
  line_left last f e NoForm h = goes (found_goes f e (ap is_stop h))
  line_left last f e NoRegister h = goes (found_goes f e (ap is_stop h))

  pub step_left : (last : Bool) → Left last (behind_line k at l (fate_of k last l))
  unfolding fate_of
  step_left last = line_left last (spot_of (Among k.second k.depth) l) refl (line_of l) refl

pub still : {last : Bool} {k : Kept} → Left last k → last ≡ false → Going k
still (goes g) n = g
still (stays e s) n = absurd (false≢true (sym n ∙ e))

pub sift_left : (ls : List (List ℕ)) (k : Kept) (at : ℕ) → Going k → Left true (sift k at ls)
unfolding sift none
sift_left [] k at g = goes g
sift_left (l ∷ []) k at g = step_left k g at l true
sift_left (l ∷ m ∷ ls) k at g = sift_left (m ∷ ls) _ (at + length l) (still (step_left k g at l false) refl)

-- the loops that are open are closed
pub record Shut (k : Kept) : Type 0 where
  pub second : Bool
  pub run : Run second 0 k.new
  pub unstopped : k.stopped ≡ false

pub shut : (d : ℕ) (k : Kept) (s : Bool) → Run s d k.new → k.stopped ≡ false → Shut (closed_by d k)
unfolding closed_by adding deeper is_stop
shut zero k s r e = record { second = s; run = r; unstopped = e }
shut (suc d) k s r e =
    let z : suc d - 1 ≡ d = omega arith in
    let w : Run false (suc d - 1) (k.new ++ line_text Done) = more r (turn (closes (omega arith))) tt refl in
    shut d (adding k (line_text Done)) false (rw z at w) e

-- The pass over a log that passes: what is written, and what is left. Assumes nothing.
use mathlib.Core.Path.{◌≡◌, refl, ap, ap₂, sym, ◌∙◌}
use mathlib.Core.List.{List, [], ◌++◌}
use mathlib.Core.Bool.{Bool, true, false}
use Prim.Native.Nat.{ℕ, ◌+◌, ◌-◌, ◌≤◌, ◌<◌}
use native.Mathlib.Omega.{arith}
use lib.ListN.{length, take, drop, length-append, length-drop}
use lib.Seq.{sets, length-sets, sets-eq, take_at}
use Rattle.log_line.specs.declared.Line.TheVariants.{Stop}
use Rattle.log_line.specs.Printed.{ended, line_text}
use Rattle.text_print.specs.Printed.{placed, printed, Put}
use Rattle.text_print.proofs.PieceLaws.{put_last, put_size}
use Rattle.text_print.proofs.StoreLaws.{sets_append}
use Rattle.log_rules.specs.Head.{head_text, machine_of, start_of}
use Rattle.log_rules.specs.Tree.{clocks, turns, text, log_text}
use Rattle.log_rules.specs.Whole.{tree_of, check_of}
use Rattle.log_rules.proofs.Derived.{Reads, stops}
use Rattle.log_passing.proofs.Passing.{clear, passing, stands}
use Rattle.log_fold.specs.declared.Move.{Move}
use Rattle.arith.specs.Over.{over}
use Rattle.log_fold_rules.specs.Folding.{folded, folded_tree, folded_log}
use Rattle.log_fold.specs.Moves.{move_of, move_text}
use Rattle.log_fold_rules.proofs.Passes.{folds}
use Rattle.log_fold.proofs.PlaceLaws.{reads_on}
use Rattle.log_fold.proofs.StepLaws.{Left, lines, none, Moved, moved}

-- what is to be written behind the head
unfoldable pub rest_of : List ℕ → List ℕ
rest_of log = text (folded (tree_of log) 0 (turns (tree_of log))) ++ line_text (Stop (clocks (tree_of log)))

-- what is left to be stored makes the whole; out₁ has the head
pub record Going (log out₁ out : List ℕ) (at to k : ℕ) : Type 0 where
  pub passes : (check_of log).number ≡ 0
  pub room : length log ≤ length out₁
  pub rest : List ℕ
  pub left : Left log (clocks (tree_of log)) k at rest
  pub place : to + length rest ≡ length (folded_log log)
  pub bytes : sets out to rest ≡ sets out₁ (start_of log) (rest_of log)
  pub long : length out ≡ length out₁
  pub small : to ≤ at
  pub inside : at ≤ length log
  pub within : k ≤ 1000000

whole_is : (log : List ℕ) → head_text (machine_of log) ++ rest_of log ≡ folded_log log
unfolding folded_log folded_tree log_text rest_of
whole_is log = refl

left_is : {log : List ℕ} {at p q : ℕ} → Reads log at 0 (tree_of log) (stops p q (clocks (tree_of log))) → length log ≤ q → Left log (clocks (tree_of log)) (turns (tree_of log)) at (rest_of log)
unfolding rest_of
left_is {log} r i = lines (tree_of log) r i

head_some : (m : Bool) → 0 < length (head_text m)
unfolding line_text ended
head_some true = omega arith
head_some false = omega arith

module _ (log : List ℕ) (h : (check_of log).number ≡ 0) where
  pub start_in_lem : (0 < start_of log) × (start_of log ≤ length log) × (start_of log ≡ length (head_text (machine_of log)))
  start_in_lem =
      let p = passing log (clear log h) in
      let x = reads_on log p.reads in
      let l = ap length p.head in
      let e : start_of log ≡ length (head_text (machine_of log)) = omega (arith, x.0, x.1, length-append (head_text (machine_of log)) (drop (start_of log) log), length-drop (start_of log) log) in
      (omega (arith, head_some (machine_of log)), omega (arith, x.0, x.1), e)

  head_is : take (start_of log) log ≡ head_text (machine_of log)
  head_is =
      let p = passing log (clear log h) in
      ap (take (start_of log)) p.head ∙ take_at (head_text (machine_of log)) (drop (start_of log) log) (start_of log) (sym start_in_lem.2)

  module _ (out₀ : List ℕ) (room : length log ≤ length out₀) (at to : ℕ) (out₁ : List ℕ) (e : at ≡ start_of log) (a : to ≡ placed out₀ 0 (take at log)) (b : out₁ ≡ printed out₀ 0 (take at log)) where
    head_put : Put out₀ 0 (head_text (machine_of log)) out₁ to
    head_put =
        let i = start_in_lem in
        let is : take at log ≡ head_text (machine_of log) = ap (λ (x : ℕ). take x log) e ∙ head_is in
        put_last out₀ 0 (head_text (machine_of log)) out₁ to (omega (arith, i.1, i.2)) (a ∙ ap (placed out₀ 0) is) (b ∙ ap (printed out₀ 0) is)

    pub head_long : length out₁ ≡ length out₀
    head_long = put_size head_put

    pub going_start : Going log out₁ out₁ at to (turns (tree_of log))
    going_start =
        let p = passing log (clear log h) in
        let c = clear log h in
        let i = start_in_lem in
        let w = head_put.place in
        let t : to ≡ start_of log = omega (arith, i.2) in
        let r : Reads log at 0 (tree_of log) (stops p.place p.behind (clocks (tree_of log))) = rw e p.reads in
        record {
          passes = h;
          room = omega (arith, head_long);
          rest = rest_of log;
          left = left_is r p.last;
          place = omega (arith, length-append (head_text (machine_of log)) (rest_of log), ap length (whole_is log));
          bytes = ap (λ (x : ℕ). sets out₁ x (rest_of log)) t;
          long = refl;
          small = omega (arith, i.2);
          inside = omega (arith, i.1);
          within = c.in_turns;
        }

    pub all_stored : sets out₁ (start_of log) (rest_of log) ≡ sets out₀ 0 (folded_log log)
    all_stored =
        let z : start_of log ≡ 0 + length (head_text (machine_of log)) = omega (arith, start_in_lem.2) in
        ap₂ (λ (o : List ℕ) (j : ℕ). sets o j (rest_of log)) head_put.bytes z ∙ (sets_append (head_text (machine_of log)) (rest_of log) out₀ 0 ∙ ap (sets out₀ 0) (whole_is log))

module _ {log out₁ out : List ℕ} {at to k : ℕ} (g : Going log out₁ out at to k) where
  pub going_end : length log ≤ at → (to ≡ length (folded_log log)) × (out ≡ sets out₁ (start_of log) (rest_of log))
  going_end e =
      let z : g.rest ≡ [] = nothing g.rest g.left in
      (omega (arith, g.place, ap length z), ap (sets out to) (sym z) ∙ g.bytes)
    where
      nothing : (w : List ℕ) → Left log (clocks (tree_of log)) k at w → w ≡ []
      nothing w (none i) = refl
      nothing w (lines t r i) = absurd (let x = reads_on log r in omega (arith, x.0, x.1))

  module _ (i : at < length log) (m : Move) (e : m ≡ move_of log at k) where
    pub stepped : Moved log (clocks (tree_of log)) k at g.rest m
    stepped = rw e (moved log (clocks (tree_of log)) k at (stands log g.passes).stop g.within g.rest g.left i)

    pub step_room : to + length (move_text m.count (take (m.until - at) (drop at log))) ≤ length out
    step_room = let s = stepped in omega (arith, g.small, g.long, g.room, s.room, s.on, s.inside)

    pub going_on : (to' : ℕ) (out' : List ℕ) → Put out to (move_text m.count (take (m.until - at) (drop at log))) out' to'
        → Going log out₁ out' m.next to' (k + m.count)
    going_on to' out' w =
        let a = w.place in
        let b = w.bytes in
        let s = stepped in
        let x : List ℕ = move_text m.count (take (m.until - at) (drop at log)) in
        record {
          passes = g.passes;
          room = g.room;
          rest = s.rest;
          left = s.left;
          place = omega (arith, g.place, ap length s.is, length-append x s.rest);
          bytes = ap₂ (λ (o : List ℕ) (j : ℕ). sets o j s.rest) b a ∙ (sets_append x s.rest out to ∙ (ap (sets out to) (sym s.is) ∙ g.bytes));
          long = ap length b ∙ (length-sets out to x ∙ g.long);
          small = omega (arith, g.small, s.room, s.on);
          inside = s.inside;
          within = s.within;
        }

-- the folded log is no longer than the log, and so than the lent bytes
pub over_is : (log out : List ℕ) → (check_of log).number ≡ 0 → length log ≤ length out → sets out 0 (folded_log log) ≡ over (folded_log log) out
unfolding over
over_is log out h room =
    let f = folds log h in
    sets-eq (folded_log log) out 0 (omega (arith, f.not_longer)) ∙ ap (λ (j : ℕ). folded_log log ++ drop j out) (let z : 0 + length (folded_log log) ≡ length (folded_log log) = omega arith in z)

-- Request 13: either order ends in the same state and level, and every run after it gives the same. Assumes nothing.
use Prim.Native.Nat.{ℕ, ◌≤◌}
use mathlib.Core.Path.{◌≡◌, refl, sym, ap, ◌∙◌, subst}
use mathlib.Core.Bool.{Bool, true, false}
use mathlib.Core.List.{List}
use lib.Dec.{eqb}
use lib.ListN.{length}
use lib.Seq.{take_at}
use borrow.Author.Tests.{le-leb}
use Rattle.arith.specs.Pick.{pick}
use Rattle.bus.specs.Register.{is_register}
use Rattle.bus.specs.declared.Access.{Access}
use Rattle.bus.specs.declared.Access.TheVariants.{Write}
use Rattle.reading.specs.Reading.{Progress}
use Rattle.reading.specs.Counting.{Beside}
use Rattle.chip.specs.Level.{state_level}
use Rattle.chip.specs.Range.{in_range}
use Rattle.chip.specs.declared.State.{State}
use Rattle.chip_access.specs.Access.{access_state, access_byte}
use Rattle.chip_access.proofs.AccessLaws.{access_kept}
use Rattle.chip_api.specs.Answer.{allowed, done_access, access_answer}
use Rattle.chip_api.specs.declared.Answered.{Answered}
use Rattle.arith.specs.Over.{over}
use Rattle.run_answer.specs.Run.{flat}
use Rattle.run_answer.proofs.WordLaws.{length_flat}
use Rattle.run_dwell.specs.Dwell.{dwell_number, dwell_by, dwell_refusal, run_answered, run_answer, run_lent}
use Rattle.run_dwell.specs.declared.Counted.{Counted}
use Rattle.run_lists.specs.Lists.{words_written}
use Rattle.run_lists.proofs.Lists.{lists_alike}
use Rattle.run_order.specs.Order.{SameRuns, followed, WritesSwap}
use Rattle.run_order.proofs.WriteLaws.{writes_swap}

-- RUNS GO BY ROOM

-- what a reading's run answers, and the words that it writes, whatever words are lent
abbrev ran_of : Progress (Beside State) → Counted
ran_of p = record { ran = record { number = 0; state = p.state.state; done = p.done; records = length p.marks }; counts = p.state.counts }

written : (p : Progress (Beside State)) (words : List ℕ) → words_written (ran_of p).ran (over (flat p.marks) words) ≡ flat p.marks
unfolding over
written p words = take_at (flat p.marks) _ _ (length_flat p.marks)

same_written : (b : Bool) (n : ℕ) (s : State) (counts : List ℕ) (p : Progress (Beside State)) (words words' : List ℕ)
    → let r = pick b (ran_of p) (dwell_refusal n s counts) in
    words_written r.ran (pick b (over (flat p.marks) words) words) ≡ words_written r.ran (pick b (over (flat p.marks) words') words')
same_written true n s counts p words words' = written p words ∙ sym (written p words')
same_written false n s counts p words words' = refl

by_room : (s : State) → in_range s ≡ true → SameRuns s s
unfolding run_answer run_answered run_lent dwell_by
by_room s r =
    record {
      answers = λ memory counts count words words' room. rw room refl;
      records = λ memory counts count words words' room.
          rw room
          (same_written (eqb (dwell_number memory s counts count) 0) (dwell_number memory s counts count) s counts (dwell_by memory s counts count words') words words');
      words = λ memory counts count words. refl;
      lists = λ requests counts words. refl;
      alike = λ memory bytes requests requests' counts share share' words words' room all.
          lists_alike memory bytes requests requests' s r counts share share' words words' room all;
    }

-- A WRITE TO $4000..$4013 IN RANGE IS DONE
module _ (register value : ℕ) (low : 0x4000 ≤ register) (high : register ≤ 0x4013) where
  is_done_lem : (s : State) → in_range s ≡ true → access_answer (Write register value) s ≡ done_access (Write register value) s
  unfolding access_answer allowed is_register
  is_done_lem s h = rw (h, le-leb 0x4000 register low, le-leb register 0x4013 high)

-- EITHER ORDER
pub either_order : WritesSwap
unfolding access_state access_byte
either_order register register' value value' apart byte byte' s h =
    let x : Access = Write register value in
    let y : Access = Write register' value' in
    let xs : State = access_state x s in
    let ys : State = access_state y s in
    let done : (s : State) → in_range s ≡ true → access_answer x s ≡ done_access x s = is_done_lem register value apart.low apart.high in
    let done' : (s : State) → in_range s ≡ true → access_answer y s ≡ done_access y s = is_done_lem register' value' apart.low' apart.high' in
    let rx : in_range xs ≡ true = access_kept x s byte h in
    let ry : in_range ys ≡ true = access_kept y s byte' h in
    let xy : followed x y s ≡ done_access y xs = ap (λ (a : Answered). access_answer y a.state) (done s h) ∙ done' xs rx in
    let yx : followed y x s ≡ done_access x ys = ap (λ (a : Answered). access_answer x a.state) (done' s h) ∙ done ys ry in
    let same : access_state y xs ≡ access_state x ys = writes_swap register register' value value' apart s in
    let ends : (followed x y s).state ≡ (followed y x s).state =
    ap (λ (a : Answered). a.state) xy ∙ (same ∙ sym (ap (λ (a : Answered). a.state) yx)) in
    record {
      first = ap (λ (a : Answered). a.number) (done s h);
      first' = ap (λ (a : Answered). a.number) (done' s h);
      second = ap (λ (a : Answered). a.number) xy;
      second' = ap (λ (a : Answered). a.number) yx;
      state = ends;
      level = ap (λ (a : Answered). a.level) xy ∙ (ap state_level same ∙ sym (ap (λ (a : Answered). a.level) yx));
      byte = ap (λ (a : Answered). a.byte) xy ∙ sym (ap (λ (a : Answered). a.byte) yx);
      runs = subst (SameRuns (followed x y s).state) ends
          (by_room (followed x y s).state (ap (λ (a : Answered). in_range a.state) xy ∙ access_kept y xs byte' rx));
    }

-- A wait by runs: a run's state is so many clocks on as it did, and it does one at least. Assumes nothing.
use Prim.Native.Nat.{ℕ, zero, suc, ◌+◌, ◌-◌, ◌/◌, ◌≤◌, ◌<◌, min}
use mathlib.Core.Path.{◌≡◌, refl, sym, ap, ◌∙◌}
use mathlib.Core.Bool.{true, false}
use mathlib.Core.List.{List}
use native.Mathlib.Omega.{arith}
use lib.ListN.{length}
use borrow.Author.Tests.{eq-eqb, eqb-true}
use Rattle.arith.specs.Iterate.{iterate}
use Rattle.arith.specs.Pick.{both}
use Rattle.arith.proofs.IterateLaws.{iterate_add}
use Rattle.arith.proofs.PickLaws.{both_left, both_right}
use Rattle.reading.specs.Reading.{Clockwork, plain}
use Rattle.reading.proofs.ReadingLaws.{plain_went}
use Rattle.chip.specs.Clock.{chip_clock}
use Rattle.chip.specs.Range.{in_range, Bytes}
use Rattle.chip.specs.declared.State.{State}
use Rattle.chip_api.specs.Answer.{is_memory}
use Rattle.run_answer.specs.Run.{chip_clockwork, read_by, answered, uncounted_answer}
use Rattle.run_answer.specs.declared.Ran.{Ran}
use Rattle.run_answer.proofs.AnswerLaws.{number_none}
use Rattle.play_rules.proofs.RoomLaws.{plain_all, plain_most, plain_few, plain_room}
use Rattle.play_rules.proofs.WaitLaws.{plain_ranged}
use Rattle.play_walk.specs.Walk.{clocks_on}

-- so many of the clocks left as a run may do
abbrev pub portion : ℕ → ℕ
portion n = min n 1000000

module _ {S : Type 0} (m : Clockwork S) where
  -- with room for a record and a clock to do, a machine that is never full does a clock at least
  pub plain_some : ((x : S) → m.full x ≡ false) → (room n : ℕ) (s : S) → 0 < room → 0 < n → 0 < (plain m room n s).done
  plain_some never room n s h k = by (plain m room n s).room refl
    where
      by : (r : ℕ) → (plain m room n s).room ≡ r → 0 < (plain m room n s).done
      by zero e = omega (arith, plain_few m room n s, plain_room m room n s, e)
      by (suc r) e = let all = plain_all m room n s never (omega (arith, e)) in omega (arith, all)

-- a run of a part of the clocks left
pub record Nearer (memory : List ℕ) (s : State) (left : ℕ) (r : Ran) : Type 0 where
  pub some : 0 < r.done
  pub most : r.done ≤ left
  pub ranged : in_range r.state ≡ true
  pub same : iterate (chip_clock memory) (left - r.done) r.state ≡ iterate (chip_clock memory) left s

pub nearer : (memory : List ℕ) (s : State) (left : ℕ) (words : List ℕ) (r : Ran) → length memory ≡ 32768 → Bytes memory → in_range s ≡ true → 2 ≤ length words → 0 < left
    → r ≡ uncounted_answer memory s (portion left) words → Nearer memory s left r
unfolding uncounted_answer answered read_by
nearer memory s left words r long bytes fine room some e =
    let n = portion left in
    let p = plain (chip_clockwork memory) (length words / 2) n s in
    let low : n ≤ 1000000 = omega arith in
    let is : r ≡ record { number = 0; state = p.state; done = p.done; records = length p.marks } = e ∙ rw (number_none memory s n long fine low) refl in
    let d : 0 < p.done = plain_some (chip_clockwork memory) (λ x. refl) (length words / 2) n s (omega arith) (omega arith) in
    let most : p.done ≤ n = plain_most (chip_clockwork memory) (length words / 2) n s in
    let split : left ≡ p.done + (left - p.done) = omega (arith, most) in
    rw is
    (record {
      some = d;
      most = omega (arith, most);
      ranged = plain_ranged memory bytes (length words / 2) n s fine;
      same =
          ap (iterate (chip_clock memory) (left - p.done)) (plain_went (chip_clockwork memory) (length words / 2) n s)
          ∙ (sym (iterate_add (chip_clock memory) p.done (left - p.done) s) ∙ ap (λ (k : ℕ). iterate (chip_clock memory) k s) (sym split));
    })

-- with a sample memory of its length and a state in range, all the clocks are worked
pub clocks_on_is : (memory : List ℕ) (n : ℕ) (s : State) → length memory ≡ 32768 → in_range s ≡ true → clocks_on memory n s ≡ iterate (chip_clock memory) n s
unfolding clocks_on
clocks_on_is memory n s long fine = rw (eq-eqb (length memory) 32768 long, fine)

pub worked : (memory : List ℕ) (s : State) → both (is_memory memory) (in_range s) ≡ true → (length memory ≡ 32768) × (in_range s ≡ true)
worked memory s e = (eqb-true (length memory) 32768 (both_left (is_memory memory) (in_range s) e), both_right (is_memory memory) (in_range s) e)

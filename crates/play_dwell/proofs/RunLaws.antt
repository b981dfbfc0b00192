-- A wait by runs: the counts of a run are those of the clocks that it did, and no count stops it. Assumes nothing.
use Prim.Native.Nat.{ℕ, ◌+◌, ◌-◌, ◌≤◌, ◌<◌}
use mathlib.Core.Path.{◌≡◌, refl, sym, ap, ap₂, ◌∙◌}
use mathlib.Core.Bool.{true, false}
use mathlib.Core.List.{List}
use native.Mathlib.Omega.{arith}
use lib.ListN.{length, get_or}
use Rattle.arith.specs.Iterate.{iterate}
use Rattle.reading.specs.Reading.{Progress, plain}
use Rattle.reading.specs.Counting.{Beside, sum}
use Rattle.reading.proofs.ReadingLaws.{plain_went}
use Rattle.reading.proofs.CountingLaws.{tallied, counting_times}
use Rattle.chip.specs.Clock.{chip_clock}
use Rattle.chip.specs.Level.{state_level}
use Rattle.chip.specs.Range.{in_range, Bytes}
use Rattle.chip.specs.declared.State.{State}
use Rattle.run_answer.specs.Run.{number, room_of, answered, uncounted_answer}
use Rattle.run_answer.proofs.AnswerLaws as answers
use Rattle.run_dwell.specs.Dwell.{dwell_limit, dwell_place, dwell_clockwork, dwell_number, dwell_by, run_answered, run_answer}
use Rattle.run_dwell.specs.Kept.{dwell_places}
use Rattle.run_dwell.specs.declared.Counted.{Counted}
use Rattle.run_dwell.proofs.DwellLaws.{number_none, dwell_alike}
use Rattle.run_dwell.proofs.WithinLaws.{within_all}
use Rattle.play_walk.proofs.ClockLaws.{portion, nearer}
use Rattle.play_dwell.specs.Dwelling.{dwelling}
use Rattle.play_dwell.specs.Walking.{dwelt_of, clocks_on}
use Rattle.play_dwell.proofs.CountLaws.{count_most, dwelling_tallied, dwelling_add, dwelling_length, dwelling_sum}

-- a run of a part of the clocks left, and its counts
pub record Onward (memory : List ℕ) (s : State) (counts : List ℕ) (left : ℕ) (r : Counted) : Type 0 where
  pub some : 0 < r.ran.done
  pub most : r.ran.done ≤ left
  pub ranged : in_range r.ran.state ≡ true
  pub size : length r.counts ≡ 128
  pub total : sum r.counts ≡ sum counts + r.ran.done
  pub same : clocks_on memory (left - r.ran.done) r.ran.state r.counts ≡ clocks_on memory left s counts

module _ (memory : List ℕ) (s : State) (counts : List ℕ) (left : ℕ) (words : List ℕ) (r : Counted) where
  abbrev read : Progress (Beside State)
  read = dwell_by memory s counts (portion left) words

  -- the state and the counts that a run leaves
  went : read.state ≡ record { state = iterate (chip_clock memory) read.done s; counts = tallied (dwell_places memory s) read.done counts }
  unfolding dwell_by
  went =
      let t : Beside State = record { state = s; counts = counts } in
      let done = (plain (dwell_clockwork memory) (room_of words) (portion left) t).done in
      plain_went (dwell_clockwork memory) (room_of words) (portion left) t ∙ counting_times (chip_clock memory) dwell_place state_level dwell_limit done s counts

  module _ (long : length memory ≡ 32768) (fine : in_range s ≡ true) (few : sum counts + left ≤ 2000000000)
      (e : r ≡ run_answer memory s counts (portion left) words) where
    -- no count is near the limit
    low : (i : ℕ) → get_or counts i 0 + portion left ≤ dwell_limit
    low i = omega (arith, count_most counts i)

    plain_number : number memory s (portion left) ≡ 0
    plain_number = answers.number_none memory s (portion left) long fine (omega arith)

    fine_number : dwell_number memory s counts (portion left) ≡ 0
    fine_number = number_none memory s counts (portion left) plain_number (within_all dwell_limit counts (λ i h. omega (arith, low i)))

    ran : r
        ≡ record { ran = record { number = 0; state = read.state.state; done = read.done; records = length read.marks }; counts = read.state.counts }
    unfolding run_answer run_answered
    ran = e ∙ rw fine_number refl

    -- as a run without counts
    alike : r.ran ≡ uncounted_answer memory s (portion left) words
    unfolding uncounted_answer answered
    alike =
        ap (λ (x : Counted). x.ran) ran
        ∙ rw plain_number
        (ap (λ (p : Progress State). record { number = 0; state = p.state; done = p.done; records = length p.marks })
        (dwell_alike memory s counts (portion left) words low))

    run_state : r.ran.state ≡ iterate (chip_clock memory) r.ran.done s
    run_state = rw ran (ap (λ (x : Beside State). x.state) went)

    run_counts : r.counts ≡ dwelling memory r.ran.done s counts
    run_counts = rw ran (ap (λ (x : Beside State). x.counts) went ∙ sym (dwelling_tallied memory read.done s counts))

    pub onward : Bytes memory → length counts ≡ 128 → 2 ≤ length words → 0 < left → Onward memory s counts left r
    unfolding clocks_on
    onward bytes size room some =
        let n = nearer memory s left words r.ran long bytes fine room some alike in
        let d = r.ran.done in
        let split : left ≡ d + (left - d) = omega (arith, n.most) in
        let counted : dwelling memory (left - d) r.ran.state r.counts ≡ dwelling memory left s counts =
        ap₂ (dwelling memory (left - d)) run_state run_counts
        ∙ (sym (dwelling_add memory d (left - d) s counts) ∙ ap (λ (k : ℕ). dwelling memory k s counts) (sym split)) in
        record {
          some = n.some;
          most = n.most;
          ranged = n.ranged;
          size = ap length run_counts ∙ (dwelling_length memory d s counts ∙ size);
          total = ap sum run_counts ∙ dwelling_sum memory bytes d s counts fine size;
          same = ap₂ (dwelt_of false) n.same counted;
        }

-- no clock
pub clocks_none : (memory : List ℕ) (n : ℕ) (s : State) (counts : List ℕ) → n ≡ 0 → clocks_on memory n s counts ≡ dwelt_of false s counts
unfolding clocks_on dwelling iterate
clocks_none memory n s counts z = rw z

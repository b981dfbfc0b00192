-- Clocks run by run, their levels by the records that a run leaves. Assumes nothing.
use Prim.Native.Nat.{ℕ, ◌+◌, ◌-◌, ◌*◌, ◌≤◌, ◌<◌}
use mathlib.Core.Path.{◌≡◌, refl, sym, ap, ◌∙◌}
use mathlib.Core.Bool.{Bool, true}
use mathlib.Core.List.{List, [], ◌∷◌, ◌++◌}
use native.Mathlib.Omega.{arith}
use lib.ListN.{length, length-append, drop}
use Rattle.arith.specs.Iterate.{iterate}
use Rattle.arith.specs.Over.{over}
use Rattle.arith.proofs.IterateLaws.{iterate_add, iterate_zero}
use Rattle.reading.specs.Reading.{Mark}
use Rattle.chip.specs.Clock.{chip_clock}
use Rattle.chip.specs.Level.{state_level}
use Rattle.chip.specs.Range.{in_range, Bytes}
use Rattle.chip.specs.declared.State.{State}
use Rattle.run_answer.specs.Run.{flat, uncounted_answer, uncounted_lent}
use Rattle.run_answer.specs.declared.Ran.{Ran}
use Rattle.run_answer.proofs.AnswerLaws.{number_none}
use Rattle.run_levels.specs.Levels.{clocks_levels, held_levels}
use Rattle.run_levels.proofs.LevelLaws.{levels_add, levels_length, levels_most}
use Rattle.run_levels.proofs.RecordLaws.{run_sounds}
use Rattle.play_walk.proofs.ClockLaws.{portion, nearer}
use Rattle.wav_sample.specs.declared.Sampler.{Sampler}
use Rattle.play_samples.specs.Writing.{Fit, size_of, Writes, marks_in, word_levels, Recorded}
use Rattle.play_samples.proofs.WriteLaws.{Ahead, ahead_on, ahead_end, writes_none, size_join, fit_less, fit_on, marks_stored}

flat_length : (l : List Mark) → length (flat l) ≡ 2 * length l
unfolding flat
flat_length [] = refl
flat_length (m ∷ l) = let e = flat_length l in omega (arith, e)

stored_size : (words : List ℕ) (marks : List Mark) (old : List ℕ) → words ≡ over (flat marks) old → 2 * length marks ≤ length words
unfolding over
stored_size words marks old e =
    let l = ap length e ∙ length-append (flat marks) (drop (length (flat marks)) old) in
    omega (arith, l, flat_length marks)

-- some of the clocks, and the rest
levels_split : (memory : List ℕ) (left done : ℕ) (s : State) → done ≤ left
    → clocks_levels memory left s ≡ clocks_levels memory done s ++ clocks_levels memory (left - done) (iterate (chip_clock memory) done s)
levels_split memory left done s h =
    let e : left ≡ done + (left - done) = omega arith in
    ap (λ (k : ℕ). clocks_levels memory k s) e ∙ levels_add memory done (left - done) s

-- a run of a part of the clocks left, and what its records hold
pub record Ranged (memory : List ℕ) (s : State) (left : ℕ) (pal : Bool) (rate : ℕ) (a : Sampler) (out : List ℕ) (at : ℕ) (after : List ℕ) (r : Ran) : Type 0 where
  pub some : 0 < r.done
  pub most : r.done ≤ left
  pub fine : in_range r.state ≡ true
  pub state : r.state ≡ iterate (chip_clock memory) r.done s
  pub fit : Fit pal rate a r.done
  pub recorded : Recorded after r.records r.done
  pub levels : word_levels (state_level s) r.records after r.done ≡ clocks_levels memory r.done s
  pub room : at + size_of pal rate a (word_levels (state_level s) r.records after r.done) ≤ length out

pub run_ranged : (memory : List ℕ) (s : State) (left : ℕ) (pal : Bool) (rate : ℕ) (a : Sampler) (out : List ℕ) (at : ℕ) (words after : List ℕ) (r : Ran)
    → length memory ≡ 32768 → Bytes memory → in_range s ≡ true → 2 ≤ length words → 0 < left → Fit pal rate a left
    → at + size_of pal rate a (clocks_levels memory left s) ≤ length out → r ≡ uncounted_answer memory s (portion left) words
    → after ≡ uncounted_lent memory s (portion left) words → Ranged memory s left pal rate a out at after r
unfolding word_levels
run_ranged memory s left pal rate a out at words after r long bytes fine two some fit room e f =
    let n = nearer memory s left words r long bytes fine two some e in
    let h = run_sounds memory s (portion left) words after r (number_none memory s (portion left) long fine (omega arith)) e f in
    let size = stored_size after h.marks words h.stored in
    let rec : Recorded after r.records r.done =
    record { marks = h.marks; old = words; count = h.count; stored = h.stored; size = omega (arith, size, h.count); ordered = h.ordered } in
    let l : held_levels 0 (state_level s) (marks_in r.records after) r.done ≡ clocks_levels memory r.done s =
    ap (λ (x : List Mark). held_levels 0 (state_level s) x r.done) (marks_stored after r.records r.done rec) ∙ h.levels in
    let rest = clocks_levels memory (left - r.done) (iterate (chip_clock memory) r.done s) in
    let j = ap (size_of pal rate a) (levels_split memory left r.done s n.most) ∙ size_join pal rate a (clocks_levels memory r.done s) rest in
    let k = ap (size_of pal rate a) l in
    record {
      some = n.some;
      most = n.most;
      fine = n.ranged;
      state = h.state;
      fit = fit_less pal rate a left r.done n.most fit;
      recorded = rec;
      levels = l;
      room = omega (arith, j, k, room);
    }

-- WHERE CLOCKS ARE HEARD run by run: those left lead to where all of them lead
pub record Running (memory : List ℕ) (pal : Bool) (rate k : ℕ) (s₀ : State) (out₀ : List ℕ) (a₀ : Sampler) (out : List ℕ) (at : ℕ) (a : Sampler) (left : ℕ) (s : State) : Type 0 where
  pub fine : in_range s ≡ true
  pub fit : Fit pal rate a left
  pub state : iterate (chip_clock memory) left s ≡ iterate (chip_clock memory) k s₀
  pub ahead : Ahead pal rate out at a (clocks_levels memory left s) out₀ 0 a₀ (clocks_levels memory k s₀)

module _ (memory : List ℕ) (pal : Bool) (rate k : ℕ) (s₀ : State) (out₀ : List ℕ) (a₀ : Sampler) (out : List ℕ) (at : ℕ) (a : Sampler) (left : ℕ) (s : State)
    (g : Running memory pal rate k s₀ out₀ a₀ out at a left s) where
  pub running_room : size_of pal rate a₀ (clocks_levels memory k s₀) ≤ length out₀ → at + size_of pal rate a (clocks_levels memory left s) ≤ length out
  running_room h = omega (arith, h, g.ahead.room, g.ahead.size)

  pub running_on : (done : ℕ) (far : State) (out' : List ℕ) (r : ℕ) (b : Sampler) → done ≤ left → in_range far ≡ true → far ≡ iterate (chip_clock memory) done s
      → Writes pal rate out at a (clocks_levels memory done s) out' r b → Running memory pal rate k s₀ out₀ a₀ out' r b (left - done) far
  running_on done far out' r b h fine e w =
      let split : left ≡ done + (left - done) = omega arith in
      let l = levels_length memory done s in
      let there = iterate (chip_clock memory) done s in
      record {
        fine = fine;
        fit = fit_on pal rate a b left (left - done) (clocks_levels memory done s) (λ i. omega (arith, levels_most memory done s i)) (omega (arith, l)) w.sampler g.fit;
        state =
            rw e (sym (iterate_add (chip_clock memory) done (left - done) s) ∙ (ap (λ (n : ℕ). iterate (chip_clock memory) n s) (sym split) ∙ g.state));
        ahead =
            ahead_on pal rate out at a (clocks_levels memory left s) out₀ 0 a₀ (clocks_levels memory k s₀) out' r b (clocks_levels memory done s)
            (clocks_levels memory (left - done) far) (rw e (levels_split memory left done s h)) w g.ahead;
      }

  pub running_end : left ≡ 0 → (s ≡ iterate (chip_clock memory) k s₀) × Writes pal rate out₀ 0 a₀ (clocks_levels memory k s₀) out at a
  unfolding clocks_levels
  running_end z = (
    sym (iterate_zero (chip_clock memory) s) ∙ (ap (λ (n : ℕ). iterate (chip_clock memory) n s) (sym z) ∙ g.state),
    ahead_end pal rate out at a (clocks_levels memory left s) out₀ 0 a₀ (clocks_levels memory k s₀) out at a [] (ap (λ (n : ℕ). clocks_levels memory n s) z) (writes_none pal rate out at a)
        g.ahead,
  )

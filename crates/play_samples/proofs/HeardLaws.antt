-- The clocks of a step: their samples have room, and are what the step says. Assumes nothing.
use Prim.Native.Nat.{ℕ, ◌+◌, ◌-◌, ◌*◌, ◌/◌, ◌≤◌, min}
use mathlib.Core.Path.{◌≡◌, refl, ap, ◌∙◌}
use mathlib.Core.Bool.{Bool, true, false}
use mathlib.Core.List.{List, ◌++◌}
use native.Mathlib.Omega.{arith}
use borrow.Author.Tests.{leb-true, leb-false}
use lib.Dec.{leb}
use lib.ListN.{length, get_or, drop}
use lib.Seq.{sets-eq}
use Rattle.arith.specs.Iterate.{iterate}
use Rattle.arith.specs.Over.{over}
use Rattle.chip.specs.Clock.{chip_clock}
use Rattle.chip.specs.declared.State.{State}
use Rattle.run_levels.specs.Levels.{clocks_levels}
use Rattle.run_levels.proofs.LevelLaws.{levels_length, levels_most}
use Rattle.wav_sample.specs.declared.Sampler.{Sampler}
use Rattle.wav_sample.specs.Samples.{clocks_before}
use Rattle.wav_sample.specs.Sampler.{sampled_from, sampler_after}
use Rattle.wav_sample.proofs.FeedLaws.{after_clock, after_sample}
use Rattle.wav_sample.proofs.OrderLaws.{ordered}
use Rattle.wav_write.specs.Bytes.{sample_bytes}
use Rattle.play_walk.specs.Walk.{moment_of}
use Rattle.play_samples.specs.declared.Place.{Place}
use Rattle.play_samples.specs.declared.Next.{Next}
use Rattle.play_samples.specs.Writing.{Fit, size_of, Writes}
use Rattle.play_samples.specs.Stepping.{place_of, sampler_at, clocks_in, clocks_step, heard, passed_of, passed}
use Rattle.play_samples.proofs.WriteLaws.{fit_less, fit_on, size_bytes}
use Rattle.play_samples.proofs.RoomLaws.{before_further}

module _ (pal : Bool) (rate : ℕ) where
  -- clocks that make no more than so many samples whole
  pub size_room : (a : Sampler) (left room : ℕ) (l : List ℕ) → ((i : ℕ) → get_or l i 0 ≤ 65535) → Fit pal rate a left
      → length l ≡ min left (clocks_before pal rate (a.sample + room) - a.clock)
      → (size_of pal rate a l ≤ 2 * room) × (size_of pal rate a l ≤ 2 * length l)
  unfolding size_of
  size_room a left room l low f e =
      let s = after_sample pal rate l a in
      let b = sampler_after pal rate a l in
      let fit = fit_on pal rate a b left 0 l low (omega (arith, e)) refl f in
      let o = (ordered pal rate b fit.order).begun in
      let c = after_clock pal rate l a in
      let z : b.sample ≤ a.sample + room = by (leb b.sample (a.sample + room)) refl s o c in
      (omega (arith, s.0, z), omega (arith, s.1))
    where
      by : (t : Bool) → leb (sampler_after pal rate a l).sample (a.sample + room) ≡ t
          → ((sampler_after pal rate a l).sample ≡ a.sample + length (sampled_from pal rate a l)) × (length (sampled_from pal rate a l) ≤ length l)
          → clocks_before pal rate (sampler_after pal rate a l).sample ≤ (sampler_after pal rate a l).clock
          → (sampler_after pal rate a l).clock ≡ a.clock + length l → (sampler_after pal rate a l).sample ≤ a.sample + room
      by true t s o c = leb-true _ _ t
      by false t s o c =
          let h = leb-false (sampler_after pal rate a l).sample (a.sample + room) t in
          let n = a.sample + room in
          let m = (sampler_after pal rate a l).sample in
          let q : n + (m - n) ≡ m = omega (arith, h) in
          let g = rw q at (before_further pal rate f.right n (m - n)) in
          absurd (omega (arith, h, g, o, c, s.0, s.1, e))

-- what the step of k clocks answers, and what it leaves in the lent bytes
module _ (memory : List ℕ) (rate k : ℕ) (p : Place) (out out' : List ℕ) (r : ℕ) (b : Sampler) (far : State)
    (w : Writes p.moment.state.pal rate out 0 (sampler_at p) (clocks_levels memory k p.moment.state) out' r b) where
  pub clocks_said : far ≡ iterate (chip_clock memory) k p.moment.state
      → passed_of (Next.Heard (r / 2)) (place_of (moment_of p.moment.cursor far (p.moment.time + k)) (p.left - k) b.sample b.sum) ≡ passed (clocks_step memory rate k p)
  unfolding clocks_step size_of
  clocks_said e =
      let l = sampled_from p.moment.state.pal rate (sampler_at p) (clocks_levels memory k p.moment.state) in
      let half : r / 2 ≡ length l = omega (arith, w.place) in
      rw (half, e, w.sampler) refl

  pub clocks_bytes : size_of p.moment.state.pal rate (sampler_at p) (clocks_levels memory k p.moment.state) ≤ length out
      → out' ≡ over (sample_bytes (heard (clocks_step memory rate k p).said)) out
  unfolding clocks_step heard over
  clocks_bytes h =
      let l = sample_bytes (sampled_from p.moment.state.pal rate (sampler_at p) (clocks_levels memory k p.moment.state)) in
      let s = size_bytes p.moment.state.pal rate (sampler_at p) (clocks_levels memory k p.moment.state) in
      let z : 0 + length l ≡ length l = omega arith in
      w.bytes ∙ (sets-eq l out 0 (omega (arith, s, h)) ∙ ap (λ (j : ℕ). l ++ drop j out) z)

-- the clocks that one step works may be fed, and their samples have room
pub clocks_fit : (memory : List ℕ) (rate room : ℕ) (p : Place) (k : ℕ) → k ≡ clocks_in rate room p → Fit p.moment.state.pal rate (sampler_at p) p.left
    → Fit p.moment.state.pal rate (sampler_at p) k
    × (size_of p.moment.state.pal rate (sampler_at p) (clocks_levels memory k p.moment.state) ≤ 2 * room)
    × (size_of p.moment.state.pal rate (sampler_at p) (clocks_levels memory k p.moment.state) ≤ 2 * k)
unfolding clocks_in
clocks_fit memory rate room p k e f =
    let s = p.moment.state in
    let l = levels_length memory k s in
    let z = size_room s.pal rate (sampler_at p) p.left room (clocks_levels memory k s) (λ i. omega (arith, levels_most memory k s i)) f (l ∙ e) in
    (fit_less s.pal rate (sampler_at p) p.left k (omega (arith, e)) f, z.0, omega (arith, z.1, l))

-- How many samples there are. Assumes nothing.
use Prim.Native.Nat.{ℕ, zero, suc, ◌+◌, ◌-◌, ◌≤◌}
use mathlib.Core.Path.{◌≡◌, refl, sym, ap, ◌∙◌}
use mathlib.Core.Bool.{Bool, true, false}
use mathlib.Core.List.{List}
use native.Mathlib.Omega.{arith}
use lib.Dec.{leb}
use lib.ListN.{length, replicate, length-replicate}
use borrow.Author.Tests.{leb-true, leb-false}
use Rattle.wav_sample.specs.Samples.{rate_right, samples_from, samples_of, samples_in}
use Rattle.wav_sample.specs.Closed.{whole_by}
use Rattle.wav_sample.proofs.ClockLaws.{whole_ends, whole_past, whole_most}
use Rattle.wav_sample.proofs.Given.{samples_none, samples_first}

module _ (pal : Bool) (rate : ℕ) (right : rate_right rate ≡ true) where
  -- the samples from n on
  count_from : (levels : List ℕ) (k n : ℕ) → whole_by pal rate (length levels) ≤ n + k → length (samples_from pal rate levels k n) ≡ whole_by pal rate (length levels) - n
  unfolding samples_from
  count_from levels zero n h = omega arith
  count_from levels (suc k) n h = go (leb (n + 1) (whole_by pal rate (length levels))) refl (count_from levels k (n + 1) (omega arith))
    where
      go : (t : Bool) → leb (n + 1) (whole_by pal rate (length levels)) ≡ t → length (samples_from pal rate levels k (n + 1)) ≡ whole_by pal rate (length levels) - (n + 1)
          → length (samples_from pal rate levels (suc k) n) ≡ whole_by pal rate (length levels) - n
      go true e rest =
          let more = leb-true (n + 1) (whole_by pal rate (length levels)) e in
          ap length (samples_first pal rate levels k n (whole_ends pal rate right (n + 1) (length levels) more)) ∙ omega arith
      go false e rest =
          let done = leb-false (n + 1) (whole_by pal rate (length levels)) e in
          ap length (samples_none pal rate levels (suc k) n (whole_past pal rate right (n + 1) (length levels) done)) ∙ omega arith

  -- ALL OF THEM
  pub count_whole : (levels : List ℕ) → length (samples_of pal rate levels) ≡ whole_by pal rate (length levels)
  unfolding samples_of
  count_whole levels = let m = whole_most pal rate right (length levels) in count_from levels (length levels) 0 (omega arith) ∙ omega arith

  pub samples_in_lem : (clocks : ℕ) → samples_in pal rate clocks ≡ whole_by pal rate clocks
  unfolding samples_in
  samples_in_lem clocks = rw right (count_whole (replicate clocks 0) ∙ ap (whole_by pal rate) (length-replicate {A = ℕ} clocks 0))

  -- as many as so many clocks have
  pub count_in : (levels : List ℕ) → length (samples_of pal rate levels) ≡ samples_in pal rate (length levels)
  count_in levels = count_whole levels ∙ sym (samples_in_lem (length levels))

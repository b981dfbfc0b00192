-- HOW LONG THE FILE IS: 44 bytes and two for each sample, and of those no more than 250,000,000. Assumes nothing.
use Prim.Native.Nat.{ℕ, ◌+◌, ◌*◌, ◌≤◌}
use mathlib.Core.Path.{◌≡◌, refl, ap, ◌∙◌}
use mathlib.Core.Bool.{Bool, true, false}
use mathlib.Core.List.{List, [], ◌∷◌}
use native.Mathlib.Nat.{div-lt_iff_lt-mul, mul-le-mul_left}
use native.Mathlib.Omega.{arith}
use lib.ListN.{length, length-append}
use Rattle.arith.specs.Iterate.{iterate}
use Rattle.c_bytes.specs.Numbers.{wide_bytes}
use Rattle.clock_rate.specs.Rate.{clock_rate}
use Rattle.log_line.specs.declared.Act.{Act}
use Rattle.log_line.specs.declared.Act.TheVariants.{Wait, Access}
use Rattle.recording.specs.Whole.{machine_of}
use Rattle.log_rules.specs.Tree.{acts, clocks, act_clocks}
use Rattle.recording.specs.Whole.{tree_of, check_of}
use Rattle.log_passing.proofs.ActLaws.{clocks_in, clocks_listed}
use Rattle.recording.proofs.Passing.{clear}
use Rattle.chip.specs.Clock.{chip_clock}
use Rattle.chip.specs.Range.{power_on}
use Rattle.chip.specs.declared.State.{State}
use Rattle.chip_access.specs.Access.{access_state}
use Rattle.run_levels.specs.Levels.{clocks_levels}
use Rattle.run_levels.proofs.LevelLaws.{levels_length}
use Rattle.wav_sample.specs.Samples.{rate_right, clocks_before, samples_in}
use Rattle.wav_sample.proofs.ClockLaws.{right_low, right_top, clock_rate_low, whole_ends}
use Rattle.wav_sample.proofs.CountLaws.{samples_in_lem, count_in}
use Rattle.wav_write.specs.Bytes.{sample_bytes}
use Rattle.wav_write.proofs.BytesLaws.{bytes_length}
use Rattle.wav_rules.specs.Sound.{levels_from, log_samples, wav_head, wav_bytes}

-- THE HEAD
pub head_length : (rate count : ℕ) → length (wav_head rate count) ≡ 44
unfolding wav_head wide_bytes
head_length rate count = refl

-- A LEVEL FOR EACH CLOCK
pub levels_count : (memory : List ℕ) (l : List Act) (s : State) → length (levels_from memory l s) ≡ clocks_in l
unfolding levels_from clocks_in act_clocks
levels_count memory [] s = refl
levels_count memory (Wait n ∷ l) s =
    let there = iterate (chip_clock memory) n s in
    length-append (clocks_levels memory n s) (levels_from memory l there) ∙ (let a = levels_length memory n s in let b = levels_count memory l there in omega (arith, a, b))
levels_count memory (Access x ∷ l) s = let e = levels_count memory l (access_state x s) in omega (arith, e)

-- THE SAMPLES are as many as the log's clocks have
pub samples_count : (log memory : List ℕ) (rate : ℕ) → rate_right rate ≡ true
    → length (log_samples log memory rate) ≡ samples_in (machine_of log) rate (clocks (tree_of log))
unfolding log_samples
samples_count log memory rate right =
    let l = levels_from memory (acts (tree_of log)) (power_on (machine_of log)) in
    count_in (machine_of log) rate right l
    ∙ ap (samples_in (machine_of log) rate) (levels_count memory (acts (tree_of log)) (power_on (machine_of log)) ∙ clocks_listed (tree_of log))

-- THE FILE
pub file_length : (log memory : List ℕ) (rate : ℕ) → length (wav_bytes log memory rate) ≡ 44 + 2 * length (log_samples log memory rate)
unfolding wav_bytes
file_length log memory rate =
    let l = log_samples log memory rate in
    length-append (wav_head rate (length l)) (sample_bytes l) ∙ (let a = head_length rate (length l) in let b = bytes_length l in omega (arith, a, b))

-- 2,000,000,000 CLOCKS HAVE AT MOST 250,000,000 SAMPLES, at any rate
right_few : (pal : Bool) (rate : ℕ) → rate_right rate ≡ true → (n c : ℕ) → c ≤ 2000000000 → clocks_before pal rate n ≤ c → n ≤ 250000000
unfolding clocks_before
right_few pal rate right n c low h =
    let some = right_low rate right in
    let m = (div-lt_iff_lt-mul {k = rate} {x = n * clock_rate pal} {y = c + 1} (omega arith)).0 (omega arith) in
    omega (arith, m, mul-le-mul_left n (clock_rate_low pal), mul-le-mul_left (c + 1) (right_top rate right))

wrong_none : (pal : Bool) (rate clocks : ℕ) → rate_right rate ≡ false → samples_in pal rate clocks ≡ 0
unfolding samples_in
wrong_none pal rate clocks e = rw e refl

pub samples_few : (pal : Bool) (rate clocks : ℕ) → clocks ≤ 2000000000 → samples_in pal rate clocks ≤ 250000000
samples_few pal rate clocks low = by (rate_right rate) refl
  where
    by : (t : Bool) → rate_right rate ≡ t → samples_in pal rate clocks ≤ 250000000
    by true e =
        let n = samples_in_lem pal rate e clocks in
        right_few pal rate e (samples_in pal rate clocks) clocks low (whole_ends pal rate e (samples_in pal rate clocks) clocks (omega (arith, n)))
    by false e = omega (arith, wrong_none pal rate clocks e)

-- SO A FILE'S SIZES FIT IN 32 BITS
pub log_few : (log memory : List ℕ) (rate : ℕ) → rate_right rate ≡ true → (check_of log).number ≡ 0 → length (log_samples log memory rate) ≤ 250000000
log_few log memory rate right h =
    let few = samples_few (machine_of log) rate (clocks (tree_of log)) (clear log h).in_clocks in
    omega (arith, samples_count log memory rate right, few)

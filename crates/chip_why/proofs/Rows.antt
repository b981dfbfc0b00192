-- The chains of reasons, test by test, held against what the channel gives. Assumes nothing.
use Prim.Native.Nat.{ℕ, zero, suc, ◌+◌, ◌*◌, ◌%◌, ◌≤◌, ◌<◌}
use mathlib.Core.Path.{◌≡◌, refl, ap}
use mathlib.Core.Bool.{Bool, true, false, not}
use native.Mathlib.Omega.{arith}
use lib.Dec.{leb, eqb, leb→le}
use lib.ListN.{get_or}
use borrow.Author.Tests.{ne_eqb}
use Rattle.arith.specs.Pick.{pick, both, either}
use Rattle.arith.specs.Bit.{bit_set}
use Rattle.arith.proofs.TableLaws.{at}
use Rattle.chip_envelope.specs.Envelope.{volume}
use Rattle.chip_sweep.specs.Sweep.{low_period, high_target, muted}
use Rattle.chip_length.specs.declared.Length.{Length}
use Rattle.chip_length.proofs.RangeLaws.{LengthRanged}
use Rattle.chip_square.specs.Sequencer.{duties, duty_bit}
use Rattle.chip_square.specs.Square.{square_output}
use Rattle.chip_square.specs.declared.Square.{Square}
use Rattle.chip_square.proofs.Muted.{gives}
use Rattle.chip_square.proofs.RangeLaws.{SquareRanged}
use Rattle.chip_noise.specs.Noise.{noise_amount, noise_output}
use Rattle.chip_noise.specs.declared.Noise.{Noise}
use Rattle.chip_noise.proofs.RangeLaws.{NoiseRanged}
use Rattle.chip_why.specs.Given.{of_sweep}
use Rattle.chip_why.specs.Why.{first_reason, square_why, noise_why}
use Rattle.chip_why.specs.declared.Reason.{Reason}
use Rattle.chip_why.specs.declared.Reason.TheVariants.{Refused, NotEnabled, LengthZero, PeriodLow, TargetHigh, StepLow, VolumeZero, Sounds}

-- the number that an answer says is heard: 0 where it says that nothing is
abbrev pub heard : Reason → ℕ
heard (Refused n) = 0
heard NotEnabled = 0
heard LengthZero = 0
heard PeriodLow = 0
heard TargetHigh = 0
heard StepLow = 0
heard VolumeZero = 0
heard (Sounds n) = n

-- an answer that sounds with number 0: never given
abbrev pub hollow : Reason → Bool
hollow (Refused n) = false
hollow NotEnabled = false
hollow LengthZero = false
hollow PeriodLow = false
hollow TargetHigh = false
hollow StepLow = false
hollow VolumeZero = false
hollow (Sounds n) = eqb n 0

-- an answer about a channel that gives n
pub record Fair (r : Reason) (n : ℕ) : Type 0 where
  pub says : heard r ≡ n
  pub sure : hollow r ≡ false

-- a duty bit is 0 or 1
duty_most : (duty position : ℕ) → duty_bit duty position ≤ 1
unfolding duty_bit
duty_most duty position =
    let i : duty % 4 * 8 + position % 8 < 32 = omega arith in
    leb→le (get_or duties (duty % 4 * 8 + position % 8) 0) 1 (at (λ k x. leb x 1) duties tt (duty % 4 * 8 + position % 8) i)

not_one : (bit : ℕ) → bit ≤ 1 → eqb bit 0 ≡ not (eqb bit 1)
not_one zero h = refl
not_one (suc zero) h = refl
not_one (suc (suc bit)) h = absurd (omega arith)

some : (v : ℕ) → eqb (suc v) 0 ≡ false
some v = ne_eqb (suc v) 0 (λ z. omega arith)

-- a length that isn't enabled is 0
idle_short : (l : Length) → LengthRanged l → l.enabled ≡ false → eqb l.count 0 ≡ true
idle_short l h e = rw (h.idle e)

square_row : (on short low high one : Bool) (v : ℕ) → (on ≡ false → short ≡ true)
    → Fair
    (first_reason (not on) short low high (not one) (eqb v 0) (pick (both one (both (not short) (not (either low high)))) v 0))
    (pick (both one (both (not short) (not (either low high)))) v 0)
unfolding first_reason
square_row false false low high one v h = let z : ◌≡◌ {A = ℕ} 0 1 = cc (h refl) in absurd (omega arith)
square_row false true low high true v h = record { says = refl; sure = refl }
square_row false true low high false v h = record { says = refl; sure = refl }
square_row true true low high true v h = record { says = refl; sure = refl }
square_row true true low high false v h = record { says = refl; sure = refl }
square_row true false true high true v h = record { says = refl; sure = refl }
square_row true false true high false v h = record { says = refl; sure = refl }
square_row true false false true true v h = record { says = refl; sure = refl }
square_row true false false true false v h = record { says = refl; sure = refl }
square_row true false false false false v h = record { says = refl; sure = refl }
square_row true false false false true zero h = record { says = refl; sure = refl }
square_row true false false false true (suc v) h = record { says = rw (some v); sure = simp (some v) }

-- A SQUARE'S ANSWER IS FAIR
pub square_fair : (second : Bool) (s : Square) → SquareRanged s → Fair (square_why second s) (square_output second s)
unfolding square_why muted
square_fair second s h =
    let p = s.sequencer.timer.period in
    let bit = duty_bit s.duty s.sequencer.position in
    rw (gives second s, not_one bit (duty_most s.duty s.sequencer.position))
    (square_row s.length.enabled (eqb s.length.count 0) (low_period p) (high_target second s.sweep p) (eqb bit 1) (volume s.envelope) (idle_short s.length h.length))

noise_row : (on short set : Bool) (v : ℕ) → (on ≡ false → short ≡ true)
    → Fair (first_reason (not on) short false false set (eqb v 0) (pick set 0 (pick short 0 v))) (pick set 0 (pick short 0 v))
unfolding first_reason
noise_row false false set v h = let z : ◌≡◌ {A = ℕ} 0 1 = cc (h refl) in absurd (omega arith)
noise_row false true true v h = record { says = refl; sure = refl }
noise_row false true false v h = record { says = refl; sure = refl }
noise_row true true true v h = record { says = refl; sure = refl }
noise_row true true false v h = record { says = refl; sure = refl }
noise_row true false true v h = record { says = refl; sure = refl }
noise_row true false false zero h = record { says = refl; sure = refl }
noise_row true false false (suc v) h = record { says = rw (some v); sure = simp (some v) }

-- SO IS THE NOISE'S
pub noise_fair : (c : Noise) {top : ℕ} → NoiseRanged top c → Fair (noise_why c) (noise_output c)
unfolding noise_why noise_output noise_amount
noise_fair c h =
    noise_row c.length.enabled (eqb c.length.count 0) (bit_set c.shifter.register 0) (volume c.envelope) (idle_short c.length h.length)

sweep_row : (off short low high still quiet : Bool) (n : ℕ) → off ≡ false → short ≡ false
    → of_sweep (first_reason off short low high still quiet n) ≡ either low high
unfolding first_reason
sweep_row true short low high still quiet n e f = let z : ◌≡◌ {A = ℕ} 0 1 = cc in absurd (omega arith)
sweep_row false true low high still quiet n e f = let z : ◌≡◌ {A = ℕ} 0 1 = cc in absurd (omega arith)
sweep_row false false true high still quiet n e f = refl
sweep_row false false false true still quiet n e f = refl
sweep_row false false false false true quiet n e f = refl
sweep_row false false false false false true n e f = refl
sweep_row false false false false false false n e f = refl

-- THE TWO SWEEP REASONS ARE MUTING: an enabled square with a length is told one of them exactly where the sweep mutes it
pub muted_told : (second : Bool) (s : Square) → s.length.enabled ≡ true → eqb s.length.count 0 ≡ false
    → of_sweep (square_why second s) ≡ muted second s.sweep s.sequencer.timer.period
unfolding square_why muted
muted_told second s e f =
    let p = s.sequencer.timer.period in
    sweep_row (not s.length.enabled) (eqb s.length.count 0) (low_period p) (high_target second s.sweep p) (eqb (duty_bit s.duty s.sequencer.position) 0) (eqb (volume s.envelope) 0) (square_output second s) (ap not e) f

noise_sweep_row : (off short still quiet : Bool) (n : ℕ) → of_sweep (first_reason off short false false still quiet n) ≡ false
unfolding first_reason
noise_sweep_row true short still quiet n = refl
noise_sweep_row false true still quiet n = refl
noise_sweep_row false false true quiet n = refl
noise_sweep_row false false false true n = refl
noise_sweep_row false false false false n = refl

-- and the noise is never told one
pub noise_no_sweep : (c : Noise) → of_sweep (noise_why c) ≡ false
unfolding noise_why
noise_no_sweep c =
    noise_sweep_row (not c.length.enabled) (eqb c.length.count 0) (bit_set c.shifter.register 0) (eqb (volume c.envelope) 0) (noise_output c)

-- A CHANNEL THAT ISN'T ENABLED HAS LENGTH 0 TOO, and is told that it isn't enabled
pub square_not_enabled : (second : Bool) (s : Square) → SquareRanged s → s.length.enabled ≡ false
    → (s.length.count ≡ 0) × (square_why second s ≡ NotEnabled)
unfolding square_why first_reason
square_not_enabled second s h e = (h.length.idle e, rw e)

pub noise_not_enabled : (c : Noise) {top : ℕ} → NoiseRanged top c → c.length.enabled ≡ false → (c.length.count ≡ 0) × (noise_why c ≡ NotEnabled)
unfolding noise_why first_reason
noise_not_enabled c h e = (h.length.idle e, rw e)

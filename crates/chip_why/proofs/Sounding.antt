-- "'Sounds' is answered exactly when the channel gives a nonzero number." Assumes nothing.
use Prim.Native.Nat.{ℕ, ◌≤◌}
use mathlib.Core.Path.{◌≡◌, refl, sym, ap, ◌∙◌}
use mathlib.Core.Bool.{Bool, true, false}
use native.Mathlib.Omega.{arith}
use lib.Dec.{eqb}
use borrow.Author.Tests.{eqb-false}
use Rattle.arith.specs.Pick.{pick}
use Rattle.arith.proofs.PickLaws.{pick_true, pick_both}
use Rattle.chip_square.proofs.RangeLaws.{square_output_most}
use Rattle.chip_noise.proofs.RangeLaws.{noise_output_most}
use Rattle.chip.specs.Level.{state_level}
use Rattle.chip.specs.Range.{in_range}
use Rattle.chip.specs.declared.State.{State}
use Rattle.chip.proofs.RangeLaws.{StateRanged, state_in_lem}
use Rattle.chip_why.specs.Given.{given_by, MixedFrom, SoundsWhere, SoundsOnly, of_sweep, NeverNoise}
use Rattle.chip_why.specs.Why.{channel_why, why_answer}
use Rattle.chip_why.specs.declared.Reason.{Reason}
use Rattle.chip_why.specs.declared.Reason.TheVariants.{Refused, NotEnabled, LengthZero, PeriodLow, TargetHigh, StepLow, VolumeZero, Sounds}
use Rattle.chip_why.proofs.Rows.{heard, hollow, Fair, square_fair, noise_fair, noise_no_sweep}

-- WHAT IT GIVES IS WHAT THE LEVEL IS MIXED FROM
pub level_of_given : MixedFrom
unfolding state_level given_by
level_of_given s = refl

fair_pick : (t : Bool) {a b : Reason} {m n : ℕ} → Fair a m → Fair b n → Fair (pick t a b) (pick t m n)
fair_pick true p q = p
fair_pick false p q = q

channel_fair : (channel : ℕ) (s : State) → StateRanged s → Fair (channel_why channel s) (given_by channel s)
unfolding channel_why given_by
channel_fair channel s h =
    fair_pick (eqb channel 0) (square_fair false s.square1 h.square1)
    (fair_pick (eqb channel 1) (square_fair true s.square2 h.square2)
    (fair_pick (eqb channel 3) (noise_fair s.noise h.noise) (record { says = refl; sure = refl })))

given_most : (channel : ℕ) (s : State) → StateRanged s → given_by channel s ≤ 15
unfolding given_by
given_most channel s h =
    let P : ℕ → Type 0 = λ k. k ≤ 15 in
    pick_both P (eqb channel 0) (square_output_most false s.square1 h.square1)
    (pick_both P (eqb channel 1) (square_output_most true s.square2 h.square2)
    (pick_both P (eqb channel 3) (noise_output_most s.noise h.noise) (omega arith)))

loud : (r : Reason) (n : ℕ) → heard r ≡ n → (n ≡ 0 → ⊥) → r ≡ Sounds n
loud (Refused k) n e f = absurd (f (sym e))
loud NotEnabled n e f = absurd (f (sym e))
loud LengthZero n e f = absurd (f (sym e))
loud PeriodLow n e f = absurd (f (sym e))
loud TargetHigh n e f = absurd (f (sym e))
loud StepLow n e f = absurd (f (sym e))
loud VolumeZero n e f = absurd (f (sym e))
loud (Sounds k) n e f = ap Sounds e

answered : (channel : ℕ) (s : State) → in_range s ≡ true → why_answer channel s ≡ channel_why channel s
unfolding why_answer
answered channel s e = pick_true (in_range s) _ _ e

-- A CHANNEL THAT GIVES A NUMBER IS TOLD THAT IT SOUNDS, with that number
pub sounds : SoundsWhere
sounds channel s e f =
    answered channel s e ∙ loud (channel_why channel s) (given_by channel s) (channel_fair channel s (state_in_lem s e)).says f

-- only a state in range is told that a channel sounds
ranged : (t : Bool) (r : Reason) (n : ℕ) → pick t r (Refused 2) ≡ Sounds n → t ≡ true
ranged true r n e = refl
ranged false r n e = let z : ◌≡◌ {A = ℕ} 0 1 = cc in absurd (omega arith)

-- ONLY SUCH A CHANNEL IS: the number is what it gives, from 1 to 15
pub sounds_only : SoundsOnly
unfolding why_answer
sounds_only channel s n e =
    let r : in_range s ≡ true = ranged (in_range s) (channel_why channel s) n e in
    let h = state_in_lem s r in
    let f = channel_fair channel s h in
    let c : channel_why channel s ≡ Sounds n = sym (pick_true (in_range s) (channel_why channel s) (Refused 2) r) ∙ e in
    let g : n ≡ given_by channel s = sym (ap heard c) ∙ f.says in
    let z : eqb n 0 ≡ false = sym (ap hollow c) ∙ f.sure in
    let b = given_most channel s h in
    let p : (n ≡ 0 → ⊥) = eqb-false n 0 z in
    record { given = g; least = omega (arith, p); most = omega arith }

-- "The two sweep reasons are for squares only."
pub noise_never : NeverNoise
unfolding why_answer channel_why
noise_never s = pick_both (λ (r : Reason). of_sweep r ≡ false) (in_range s) (noise_no_sweep s.noise) refl

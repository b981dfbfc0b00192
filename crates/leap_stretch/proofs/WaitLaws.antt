-- A channel that is not due at an event stays as it is. Assumes nothing.
use Rattle.std.proofs.Common.{◌≡◌, ℕ, ◌<◌, List, refl, arith, eq-eqb, ne_eqb}
use Rattle.leap_noise.specs.Lag.{noise_renewed}
use Rattle.leap_dmc.specs.Lag.{dmc_renewed}
use Rattle.leap_stretch.specs.Lagged.{renewed_with, renewed, sounds_renewed, voices_renewed}
use Rattle.leap_stretch.specs.declared.Lags.{Lags}
use Rattle.leap_noise.specs.declared.lag.NoiseLag.{NoiseLag}
use Rattle.leap_dmc.specs.declared.lag.DmcLag.{DmcLag}

noise_waits : (l : NoiseLag) (e : ℕ) → e < l.next → noise_renewed l e ≡ l
unfolding noise_renewed
noise_waits l e h = let ne : l.next ≡ e → ⊥ = λ q. omega arith in rw (ne_eqb l.next e ne) refl

dmc_waits : (memory : List ℕ) (l : DmcLag) (e : ℕ) → e < l.next → dmc_renewed memory l e ≡ l
unfolding dmc_renewed
dmc_waits memory l e h = let ne : l.next ≡ e → ⊥ = λ q. omega arith in rw (ne_eqb l.next e ne) refl

-- an event at which the DMC isn't due
pub sounds_renewed_lem : (memory : List ℕ) (l : Lags) (e : ℕ) → e < l.dmc.next → sounds_renewed l e ≡ renewed memory l e
unfolding sounds_renewed renewed
sounds_renewed_lem memory l e h = rw (dmc_waits memory l.dmc e h) refl

-- an event of squares and triangle at which neither noise nor DMC is due
pub voices_renewed_lem : (memory : List ℕ) (l : Lags) (e : ℕ) → l.soon ≡ e → e < l.noise.next → e < l.dmc.next
    → voices_renewed l e ≡ renewed memory l e
unfolding voices_renewed renewed renewed_with
voices_renewed_lem memory l e z g h = rw (eq-eqb l.soon e z, noise_waits l.noise e g, dmc_waits memory l.dmc e h) refl

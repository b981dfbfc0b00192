-- What a call answers, by what refuses the place and by whether the head is written. Assumes nothing.
use Prim.Native.Nat.{ℕ}
use mathlib.Core.Path.{◌≡◌, sym}
use mathlib.Core.Bool.{Bool, true, false}
use mathlib.Core.List.{List}
use lib.Dec.{eqb}
use borrow.Author.Tests.{eq-eqb, ne_eqb}
use Rattle.play_samples.specs.Stepping.{refusal_of}
use Rattle.wav_rules.specs.declared.Wav.{Wav}
use Rattle.play_wav.specs.declared.Sounded.{Sounded}
use Rattle.play_wav.specs.Pieces.{Untouched, Headed, Answered, Where, WrittenOn}
use Rattle.play_wav.proofs.LoopLaws.{no_flag}

module _ (log memory : List ℕ) (w : Wav) (before after : List ℕ) (r : Sounded) where
  abbrev refusal : ℕ
  refusal = refusal_of memory w.rate w.place

  abbrev Chosen : Bool → Bool → Type 0
  Chosen t u = Where t (Where u (Answered log memory w before after r) (Headed w before after r)) (Untouched w refusal 0 before after r)

  pub written_refused : (refusal ≡ 0 → ⊥) → Untouched w refusal 0 before after r → WrittenOn log memory w before after r
  unfolding WrittenOn
  written_refused h x = by (eqb refusal 0) w.begun (ne_eqb refusal 0 h)
    where
      by : (t u : Bool) → t ≡ false → Chosen t u
      by true u e = no_flag (sym e)
      by false u e = x

  module _ (none : refusal ≡ 0) where
    pub written_samples : w.begun ≡ true → Answered log memory w before after r → WrittenOn log memory w before after r
    unfolding WrittenOn
    written_samples h x = by (eqb refusal 0) w.begun (eq-eqb refusal 0 none) h
      where
        by : (t u : Bool) → t ≡ true → u ≡ true → Chosen t u
        by true true e f = x
        by true false e f = no_flag f
        by false u e f = no_flag e

    pub written_head : w.begun ≡ false → Headed w before after r → WrittenOn log memory w before after r
    unfolding WrittenOn
    written_head h x = by (eqb refusal 0) w.begun (eq-eqb refusal 0 none) h
      where
        by : (t u : Bool) → t ≡ true → u ≡ false → Chosen t u
        by true true e f = no_flag (sym f)
        by true false e f = x
        by false u e f = no_flag e

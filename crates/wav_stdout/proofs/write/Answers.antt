-- What `begin` answers says whether it is the file or the line. Assumes nothing.
use mathlib.Core.Path.{◌≡◌, refl, sym, ap}
use Prim.Native.Nat.{ℕ}
use mathlib.Core.Bool.{Bool, true, false}
use mathlib.Core.List.{List}
use lib.Dec.{eqb}
use lib.ListN.{length}
use borrow.Author.Tests.{eqb-true, eqb-false}
use Rattle.arith.specs.Pick.{pick}
use Rattle.text_lines.specs.Lines.{refused_line}
use Rattle.wav_rules.specs.declared.Wav.{Wav}
use Rattle.wav_rules.specs.Sound.{log_samples, wav_bytes, wav_number, wav_place}
use Rattle.wav_rules.specs.Turns.{wav_start}
use Rattle.play_wav.specs.declared.Begun.{Begun}
use Rattle.play_wav.specs.Pieces.{begun_of}
use Rattle.wav_stdout.specs.Text.{wav_text}
use Rattle.wav_stdout.proofs.write.Goals as goal

module _ (log memory : List ℕ) (rate : ℕ) where
  abbrev fresh : Wav
  fresh = wav_start log rate (length (log_samples log memory rate))

  -- where there is a file: its beginning and its bytes; where there is none, the line
  record Begins (b : Begun) : Type 0 where
    pub numbered : b.number ≡ wav_number log memory rate
    pub file : b.number ≡ 0 → (wav_number log memory rate ≡ 0) × (b.wav ≡ fresh) × (wav_text log memory rate ≡ wav_bytes log memory rate)
    pub line : (b.number ≡ 0 → ⊥) → wav_text log memory rate ≡ refused_line b.number b.place

  begins : Begins (begun_of log memory rate)
  unfolding begun_of wav_text
  begins = by (eqb (wav_number log memory rate) 0) refl
    where
      by : (t : Bool) → eqb (wav_number log memory rate) 0 ≡ t
          → Begins
          (pick t (record { number = 0; place = 0; size = length (wav_bytes log memory rate); wav = fresh })
          (record { number = wav_number log memory rate; place = wav_place log memory; size = 0; wav = wav_start log 0 0 }))
      by true e =
          let z = eqb-true (wav_number log memory rate) 0 e in
          record { numbered = sym z; file = λ h. (z, refl, rw e refl); line = λ h. absurd (h refl) }
      by false e =
          let z = eqb-false (wav_number log memory rate) 0 e in
          record { numbered = refl; file = λ h. absurd (z h); line = λ h. rw e refl }

  begun : (b : Begun) → b ≡ begun_of log memory rate → Begins b
  begun b e = rw e begins

  -- a file at its beginning, by its own rate
  own : (w : Wav) → wav_number log memory rate ≡ 0 → w ≡ fresh
      → (wav_number log memory w.rate ≡ 0) × (w ≡ wav_start log w.rate (length (log_samples log memory w.rate)))
  own w z e = rw e (z, refl)

pub all-done-requires : goal.all-done-requires
all-done-requires c =
    let a = c.args in
    let b = c.begin-b in
    let f = (begun a.log.now a.memory.now a.rate b.result b.ensures).file c.if-number-eq0.true in let pair = own a.log.now a.memory.now a.rate b.result.wav f.0 f.1 in record { rate_value = pair.0; w_value = pair.1 }

pub returns-then-number-eq0 : goal.returns-then-number-eq0
returns-then-number-eq0 c =
    let a = c.args in
    let b = c.begin-b in
    let g = begun a.log.now a.memory.now a.rate b.result b.ensures in
    let f = g.file c.if-number-eq0.true in
    let same : b.result.wav.rate ≡ a.rate = ap (λ (w : Wav). w.rate) f.1 in record { number_value = sym f.0; writes = rw f.2 (rw same at c.all-done.ensures) }

pub returns : goal.returns
returns c =
    let a = c.args in
    let b = c.begin-b in
    let g = begun a.log.now a.memory.now a.rate b.result b.ensures in record { number_value = g.numbered; writes = rw (g.line c.if-number-eq0.false) c.refused-done.ensures }

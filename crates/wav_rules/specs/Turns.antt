-- A log as a teller that says its samples, at each turn a line of the log or one clock, for any place and any bytes. From the beginning of a log that passes
-- the samples said, joined, are the log's (proofs/Said).
use Rattle.std.specs.Prelude.{ℕ, suc, ◌≡◌, Bool, false, List, [], ◌++◌}
use Rattle.reading.specs.Saying.{on, says}
use Rattle.play_samples.specs.declared.Place.{Place}
use Rattle.play_samples.specs.Stepping.{Go, place_start, step_by}
use Rattle.wav_rules.specs.declared.Wav.{Wav}

-- ONE TURN: a line of the log, or one clock of a wait
abbrev pub turn_of : List ℕ → List ℕ → ℕ → Place → Go
turn_of log memory rate p = step_by log memory rate 1 p

-- from a place, in so many turns, to another, with the samples that are said on the way
pub data Sounds (turn : Place → Go) : Place → List ℕ → ℕ → Place → Type 0 where
  here : {p : Place} → Sounds turn p [] 0 p
  quietly : {p q : Place} {l : List ℕ} {n : ℕ} → (turn p).said ≡ on → Sounds turn (turn p).state l n q → Sounds turn p l (suc n) q
  sounding : {p q : Place} {l m : List ℕ} {n : ℕ} → (turn p).said ≡ says m → Sounds turn (turn p).state l n q → Sounds turn p (m ++ l) (suc n) q

abbrev pub wav_of : ℕ → ℕ → Bool → Place → Wav
wav_of rate count begun p = record { rate = rate; count = count; begun = begun; place = p }

-- a file of so many samples at its beginning
abbrev pub wav_start : List ℕ → ℕ → ℕ → Wav
wav_start log rate count = wav_of rate count false (place_start log)

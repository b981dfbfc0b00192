-- A log as a WAV file in pieces: where it begins, and what a call of `wav_on` promises, for any file under way and any bytes.
use Rattle.std.specs.Prelude.{ℕ, ◌≤◌, ◌<◌, ◌≡◌, ◌⊎◌, Bool, true, false, List, [], eqb, leb, length, take, drop}
use Rattle.arith.specs.Pick.{pick}
use Rattle.reading.specs.Saying.{over, refused}
use Rattle.text_print.specs.Printed.{printed}
use Rattle.play_samples.specs.declared.Place.{Place}
use Rattle.play_samples.specs.Stepping.{refusal_of}
use Rattle.wav_write.specs.Bytes.{sample_bytes}
use Rattle.wav_rules.specs.Sound.{log_samples, wav_head, wav_bytes, wav_number, wav_place}
use Rattle.wav_rules.specs.Turns.{turn_of, Sounds, wav_of, wav_start}
use Rattle.wav_rules.specs.declared.Wav.{Wav}
use Rattle.play_wav.specs.declared.Begun.{Begun}
use Rattle.play_wav.specs.declared.Sounded.{Sounded}

-- WHAT `begin` ANSWERS: the file at its beginning, and how many bytes it has in all; refused, no bytes, and a file at the rate 0, which every call refuses
unfoldable pub begun_of : List ℕ → List ℕ → ℕ → Begun
begun_of log memory rate =
    pick (eqb (wav_number log memory rate) 0)
    (record { number = 0; place = 0; size = length (wav_bytes log memory rate); wav = wav_start log rate (length (log_samples log memory rate)) })
    (record { number = wav_number log memory rate; place = wav_place log memory; size = 0; wav = wav_start log 0 0 })

abbrev pub sounded_of : ℕ → ℕ → Wav → ℕ → Bool → Sounded
sounded_of number place w n all = record { number = number; place = place; wav = w; length = n; over = all }

-- nothing is written, and the file comes back as it was
pub record Untouched (w : Wav) (number place : ℕ) (before after : List ℕ) (r : Sounded) : Type 0 where
  pub answer : r ≡ sounded_of number place w 0 false
  pub stays : after ≡ before

-- THE FIRST PIECE is the head alone, into 44 bytes or more; into fewer nothing is written
pub record Headed (w : Wav) (before after : List ℕ) (r : Sounded) : Type 0 where
  pub answer : r ≡ pick (leb 44 (length before)) (sounded_of 0 0 (wav_of w.rate w.count true w.place) 44 false) (sounded_of 0 0 w 0 false)
  pub bytes : after ≡ printed before 0 (wav_head w.rate w.count)

-- ANY OTHER is whole samples. How full it gets is left free: `samples` are its samples, `turns` how far it went in the log.
pub record Piece (log memory : List ℕ) (w : Wav) (before after : List ℕ) (r : Sounded) : Type 0 where
  pub samples : List ℕ
  pub turns : ℕ
  -- the bytes behind them stay
  pub fits : r.length ≤ length before
  pub piece : take r.length after ≡ sample_bytes samples
  pub rest : drop r.length after ≡ drop r.length before
  -- the file went on by just these samples, and is over where it says so
  pub went : Sounds (turn_of log memory w.rate) w.place samples turns r.wav.place
  pub kept : r.wav ≡ wav_of w.rate w.count true r.wav.place
  pub over : r.over ≡ true → (turn_of log memory w.rate r.wav.place).said ≡ over
  -- nothing is written only into less than two bytes; or where it is over; or behind 4,000,010 turns, of which a log that passes has none that say nothing in
  -- a row
  pub gets : samples ≡ [] → r.over ≡ false → (length before < 2) ⊎ (4000010 ≤ turns)

-- a line of the log that the file comes to before any sample is refused
pub record Halted (log memory : List ℕ) (w : Wav) (number place : ℕ) : Type 0 where
  pub turns : ℕ
  pub at : Place
  pub went : Sounds (turn_of log memory w.rate) w.place [] turns at
  pub refuses : (turn_of log memory w.rate at).said ≡ refused number place

-- samples, or what the file comes to
abbrev pub Answered : List ℕ → List ℕ → Wav → List ℕ → List ℕ → Sounded → Type 0
Answered log memory w before after r =
    ((r.number ≡ 0) × (r.place ≡ 0) × Piece log memory w before after r)
    ⊎ (Halted log memory w r.number r.place × Untouched w r.number r.place before after r)

-- the one or the other
abbrev pub Where : Bool → Type 0 → Type 0 → Type 0
Where true a b = a
Where false a b = b

-- WHAT `wav_on` PROMISES: what refuses the place or the rate (1, 2, 3, 9, 33, at 0), then the head, then samples or what the file comes to
unfoldable pub WrittenOn : List ℕ → List ℕ → Wav → List ℕ → List ℕ → Sounded → Type 0
WrittenOn log memory w before after r =
    Where (eqb (refusal_of memory w.rate w.place) 0)
    (Where w.begun (Answered log memory w before after r) (Headed w before after r))
    (Untouched w (refusal_of memory w.rate w.place) 0 before after r)

-- Helper: nobody has to believe this; what the loop of `wav_on` goes by, and what it answers.
use Rattle.std.specs.Prelude.{ℕ, ◌+◌, ◌-◌, ◌*◌, ◌/◌, ◌≤◌, ◌≡◌, Bool, true, false, List, length, eqb, leb, ltb}
use Rattle.std.proofs.lemmas.List.Edits.{sets}
use Rattle.arith.specs.Pick.{pick, both}
use Rattle.play_samples.specs.declared.Next.{Next}
use Rattle.play_samples.specs.declared.Place.{Place}
use Rattle.play_samples.specs.Stepping.{Go, step_of, next_of, heard}
use Rattle.wav_write.specs.Bytes.{sample_bytes}
use Rattle.wav_rules.specs.declared.Wav.{Wav}
use Rattle.wav_rules.specs.Turns.{wav_of}
use Rattle.play_wav.specs.declared.Sounded.{Sounded}
use Rattle.play_wav.specs.declared.Taken.{Taken}
use Rattle.play_wav.specs.Pieces.{sounded_of}

abbrev pub taken_of : Next → Place → ℕ → Taken
taken_of n p length = record { next = n; place = p; length = length }

-- what a step at t brought, and the place behind it: where it found the end or a refusal, the place stays
unfoldable pub taken_by : Taken → Next → Place → Taken
taken_by t Next.Over q = taken_of Next.Over t.place t.length
taken_by t Next.Moved q = taken_of Next.Moved q t.length
taken_by t (Next.Heard k) q = taken_of (Next.Heard k) q (t.length + 2 * k)
taken_by t (Next.Refused k r) q = taken_of (Next.Refused k r) t.place t.length

-- the step, into what is left of so many bytes
abbrev pub step_from : List ℕ → List ℕ → ℕ → ℕ → Taken → Go
step_from log memory rate size t = step_of log memory rate ((size - t.length) / 2) t.place

-- what a step on comes to, and the bytes behind it
pub record Took (log memory : List ℕ) (rate : ℕ) (t : Taken) (before after : List ℕ) (r : Taken) : Type 0 where
  pub taken : r ≡ taken_by t (next_of (step_from log memory rate (length before) t).said) (step_from log memory rate (length before) t).state
  pub bytes : after ≡ sets before t.length (sample_bytes (heard (step_from log memory rate (length before) t).said))
  pub fits : r.length ≤ length before

-- samples that a step tells of
abbrev pub count_of : Next → ℕ
count_of Next.Over = 0
count_of Next.Moved = 0
count_of (Next.Heard k) = k
count_of (Next.Refused k r) = 0

-- neither over nor refused
abbrev pub is_on : Next → Bool
is_on Next.Over = false
is_on Next.Moved = true
is_on (Next.Heard k) = true
is_on (Next.Refused k r) = false

-- and two bytes left, and fewer than 4,000,010 steps
unfoldable pub goes_on : Taken → ℕ → ℕ → Bool
goes_on t size count = both (is_on t.next) (both (leb (t.length + 2) size) (ltb count 4000010))

-- WHAT IT ANSWERS: the samples; or the refusal, where there was no sample before it
abbrev pub piece_of : Wav → Taken → Bool → Sounded
piece_of w t all = sounded_of 0 0 (wav_of w.rate w.count true t.place) t.length all

unfoldable pub answer_by : Wav → Taken → Next → Sounded
answer_by w t Next.Over = piece_of w t true
answer_by w t Next.Moved = piece_of w t false
answer_by w t (Next.Heard k) = piece_of w t false
answer_by w t (Next.Refused k r) = pick (eqb t.length 0) (sounded_of k r w 0 false) (piece_of w t false)

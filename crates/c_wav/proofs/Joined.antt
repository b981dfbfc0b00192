-- THE PIECES THAT A CALLER JOINS ARE THE WHOLE FILE, for any list of calls of `wav_on` behind a `begin`. Assumes nothing.
use Prim.Native.Nat.{ℕ, ◌+◌, ◌*◌, ◌/◌, ◌%◌, ◌^◌, ◌≤◌, ◌<◌}
use mathlib.Core.Path.{◌≡◌, refl, ap, ◌∙◌}
use mathlib.Core.Bool.{Bool, true, false}
use mathlib.Core.List.{List, ◌++◌}
use native.Mathlib.Omega.{arith}
use borrow.Author.Tests.{eq-eqb, ne_eqb, eqb-true}
use lib.ListN.{length, take}
use lib.Dec.{eqb, leb}
use Rattle.arith.specs.Pick.{pick}
use Rattle.c_bytes.specs.Fields.{flag_byte}
use Rattle.chip.specs.Range.{Bytes}
use Rattle.chip_api.specs.Answer.{is_memory}
use Rattle.c_log.specs.Logs.{log_packed}
use Rattle.c_recording.proofs.Calls.{beginning_fits}
use Rattle.wav_sample.proofs.ClockLaws.{right_top}
use Rattle.wav_rules.specs.declared.Wav.{Wav}
use Rattle.wav_rules.specs.Sound.{log_samples, wav_bytes, wav_number, wav_place}
use Rattle.wav_rules.specs.Turns.{wav_start}
use Rattle.wav_rules.proofs.SizeLaws.{log_few}
use Rattle.play_wav.specs.declared.Begun.{Begun}
use Rattle.play_wav.specs.declared.Sounded.{Sounded}
use Rattle.play_wav.specs.Pieces.{begun_of, WrittenOn}
use Rattle.play_wav.specs.Calls as calling
use Rattle.play_wav.proofs.Whole.{right, Beginning, pieces_whole, call_on, comes_to_end}
use Rattle.c_wav.specs.Wavs.{wav_size, encoded_wav, wav_in, WavFits}
use Rattle.c_chip.specs.Boundary.{other_length}
use Rattle.c_wav.specs.Files.{wav_after, begin_number, begin_place, begin_size, begin_packed, begin_bytes, Continued}
use Rattle.c_wav.specs.Pieces.{number_of, size_of, over_of, Pieces, none, piece}
use Rattle.c_wav.proofs.CodeLaws.{written_in}
use Rattle.c_wav.proofs.FileLaws.{begun_low}

-- what the answer of a piece says

size_is : (t : Bool) (l : ℕ) → size_of (2 ^ 8 * flag_byte t + 2 ^ 32 * l) ≡ l
size_is true l = omega arith
size_is false l = omega arith

over_is : (t : Bool) (l : ℕ) → over_of (2 ^ 8 * flag_byte t + 2 ^ 32 * l) ≡ t
over_is true l = eq-eqb ((2 ^ 8 * 1 + 2 ^ 32 * l) / 2 ^ 8 % 2) 1 (omega arith)
over_is false l = ne_eqb ((2 ^ 8 * 0 + 2 ^ 32 * l) / 2 ^ 8 % 2) 1 (λ h. omega arith)

module _ (log memory : List ℕ) (rate : ℕ) where
  abbrev start : Wav
  start = wav_start log rate (length (log_samples log memory rate))

  start_fits : wav_number log memory rate ≡ 0 → WavFits start
  start_fits h =
      let t = right log memory rate h in
      let top = right_top rate t.speed in
      let few = log_few log memory rate t.speed t.passed in
      record {
        rate = omega arith;
        count = omega arith;
        left = omega arith;
        sample = omega arith;
        sum = omega arith;
        time = omega arith;
        cursor = beginning_fits;
      }

  -- WHAT A BEGINNING THAT IS NOT REFUSED LEAVES, AND THE SIZE THAT IT SAYS
  pub record Opened (b : List ℕ) : Type 0 where
    pub passes : wav_number log memory rate ≡ 0
    pub bytes : begin_bytes log memory rate b ≡ encoded_wav start
    pub size : size_of (begin_packed log memory rate b) ≡ length (wav_bytes log memory rate)

  abbrev done : Begun
  done = record { number = 0; place = 0; size = length (wav_bytes log memory rate); wav = start }

  abbrev halted : Begun
  halted = record { number = wav_number log memory rate; place = wav_place log memory; size = 0; wav = wav_start log 0 0 }

  begun_is : wav_number log memory rate ≡ 0 → begun_of log memory rate ≡ done
  unfolding begun_of
  begun_is h = rw (eq-eqb (wav_number log memory rate) 0 h)

  begun_passes : (begun_of log memory rate).number ≡ 0 → wav_number log memory rate ≡ 0
  unfolding begun_of
  begun_passes h = by (eqb (wav_number log memory rate) 0) refl h
    where
      by : (t : Bool) → eqb (wav_number log memory rate) 0 ≡ t → (pick t done halted).number ≡ 0 → wav_number log memory rate ≡ 0
      by true e z = eqb-true (wav_number log memory rate) 0 e
      by false e z = z

  low_number : (k p n : ℕ) → k ≤ 36 → number_of (log_packed k p n) ≡ 0 → k ≡ 0
  low_number k p n l h = omega arith

  low_size : (n : ℕ) → size_of (log_packed 0 0 n) ≡ n
  low_size n = omega arith

  other : (t : Bool) → number_of (log_packed (pick t 2 1) 0 0) ≡ 0 → ⊥
  other true h = omega arith
  other false h = omega arith

  pub opened : (b : List ℕ) → number_of (begin_packed log memory rate b) ≡ 0 → Opened b
  unfolding begin_number begin_place begin_size
  opened b h = let r = by (eqb (length b) wav_size) h in record { passes = r.0; bytes = r.1; size = r.2 }
    where
      by : (t : Bool) → number_of (log_packed (pick t (begun_of log memory rate).number (other_length memory)) (pick t (begun_of log memory rate).place 0) (pick t (begun_of log memory rate).size 0)) ≡ 0
          → (wav_number log memory rate ≡ 0)
          × (wav_after (pick t (begun_of log memory rate).number (other_length memory)) (begun_of log memory rate).wav b ≡ encoded_wav start)
          × (size_of (log_packed (pick t (begun_of log memory rate).number (other_length memory)) (pick t (begun_of log memory rate).place 0) (pick t (begun_of log memory rate).size 0)) ≡ length (wav_bytes log memory rate))
      by true z =
          let passes = begun_passes (low_number (begun_of log memory rate).number (begun_of log memory rate).place (begun_of log memory rate).size (begun_low log memory rate).number z) in
          (passes, rw (begun_is passes), rw (begun_is passes) (low_size (length (wav_bytes log memory rate))))
      by false z = absurd (other (is_memory memory) z)

  -- bytes of a file go on as the file
  going : (b out out' : List ℕ) (w : Wav) (r : Sounded) → b ≡ encoded_wav w → WavFits w → WrittenOn log memory (wav_in b) out out' r → WrittenOn log memory w out out' r
  going b out out' w r e f d =
      let a : wav_in b ≡ w = ap wav_in e ∙ written_in w f in
      rw a at d

  -- a list of calls with bytes is a list of calls with the files that they stand for
  pub record Held (b joined : List ℕ) (count : ℕ) (over : Bool) : Type 0 where
    pub wav : Wav
    pub calls : calling.Calls log memory start joined count wav over
    pub bytes : b ≡ encoded_wav wav
    pub fits : WavFits wav
    pub passes : wav_number log memory rate ≡ 0

  -- a call goes on from there, and is not refused; and with room for 44 bytes or more there are bytes, or it is the end
  pub record Gone (b' joined : List ℕ) (count : ℕ) (out out' : List ℕ) (answer : ℕ) : Type 0 where
    pub done : answer ≡ 2 ^ 8 * flag_byte (over_of answer) + 2 ^ 32 * size_of answer
    pub some : 44 ≤ length out → over_of answer ≡ false → 0 < size_of answer
    pub held : Held b' (joined ++ take (size_of answer) out') (pick (leb 44 (length out)) (count + 1) count) (over_of answer)

  module _ (memory-bytes : Bytes memory) where
    gone : (b b' joined : List ℕ) (count : ℕ) (out out' : List ℕ) (answer : ℕ) → Held b joined count false → Continued log memory b b' out out' answer
        → Gone b' joined count out out' answer
    gone b b' joined count out out' answer h k =
        let r = k.sounded in
        let does = going b out out' h.wav r h.bytes h.fits k.does in
        let on = call_on log memory rate memory-bytes h.passes h.calls out out' r does in
        let says : answer ≡ 2 ^ 8 * flag_byte r.over + 2 ^ 32 * r.length = rw on.number at k.says in
        let w : size_of answer ≡ r.length = ap (λ (x : ℕ). size_of x) says ∙ size_is r.over r.length in
        let o : over_of answer ≡ r.over = ap (λ (x : ℕ). over_of x) says ∙ over_is r.over r.length in
        record {
          done = rw (o, w) says;
          some = rw (o, w) on.some;
          held =
              rw (o, w)
              (record {
                wav = r.wav;
                calls = calling.call out out' r h.calls does;
                bytes = k.keeps ∙ rw (eq-eqb r.number 0 on.number);
                fits = k.fits;
                passes = h.passes;
              });
        }

    pub held : {b joined : List ℕ} {n : ℕ} {over : Bool} → Pieces log memory rate b joined n over → Held b joined n over
    held (none b e) =
        let o = opened b e in
        record { wav = start; calls = calling.none; bytes = o.bytes; fits = start_fits o.passes; passes = o.passes }
    held (piece {b = b} {joined = joined} {n = n} b' out out' answer p k) = (gone b b' joined n out out' answer (held p) k).held

    -- THE PIECES JOINED ARE A BEGINNING OF THE FILE, AND ALL OF IT WHEN THE LAST CALL SAID OVER
    pub pieces_joined : {b joined : List ℕ} {n : ℕ} {over : Bool} (p : Pieces log memory rate b joined n over) → Beginning log memory rate memory-bytes (held p).passes joined over
    pieces_joined p = pieces_whole log memory rate memory-bytes (held p).passes (held p).calls

    -- NO CALL IS REFUSED, AND WITH ROOM FOR 44 BYTES OR MORE THERE ARE BYTES UNTIL THE FILE IS OVER
    pub piece_on : {b joined : List ℕ} {n : ℕ} → Pieces log memory rate b joined n false → (b' out out' : List ℕ) (answer : ℕ) → Continued log memory b b' out out' answer
        → Gone b' joined n out out' answer
    piece_on {b = b} {joined = joined} {n = n} p b' out out' answer k = gone b b' joined n out out' answer (held p) k

    -- SO THEY COME TO AN END: behind two more such pieces than there are samples the last call said over
    pub pieces_end : {b joined : List ℕ} {n : ℕ} (over : Bool) → Pieces log memory rate b joined n over → length (log_samples log memory rate) + 2 ≤ n → over ≡ true
    pieces_end over p more = comes_to_end log memory rate memory-bytes (held p).passes over (held p).calls more

-- A piece at the boundary: one that is written to the first bytes of a buffer is one that is written to the buffer; and the file's bytes after it. Assumes
-- nothing.
use Prim.Native.Nat.{ℕ, ◌+◌, ◌^◌, ◌≤◌, ◌<◌}
use mathlib.Core.Path.{◌≡◌, refl, ap, sym, ◌∙◌}
use mathlib.Core.Logic.{◌⊎◌, inl, inr}
use mathlib.Core.Bool.{Bool, true, false}
use mathlib.Core.List.{List, ◌++◌, append_assoc}
use native.Mathlib.Omega.{arith}
use borrow.Author.Tests.{eq-eqb, ne_eqb, le-leb, lt-leb, leb-true, leb-false, eqb-true}
use lib.ListN.{length, take, drop, take-append-drop}
use lib.Seq.{sets-eq, length-take-le, take-append-le, drop-append-le}
use lib.Dec.{eqb, leb}
use Rattle.arith.specs.Pick.{pick}
use Rattle.arith.proofs.PickLaws.{pick_both, pick_each}
use Rattle.text_print.specs.Printed.{printed}
use Rattle.text_print.proofs.StoreLaws.{printed_in, kept}
use Rattle.chip.specs.Range.{in_range}
use Rattle.chip_api.specs.Answer.{is_memory}
use Rattle.recording.specs.Whole.{check_of}
use Rattle.recording.proofs.Limits.{check_limits}
use Rattle.c_chip.proofs.StoreLaws.{written_by_lem}
use Rattle.c_log.specs.Logs.{log_packed}
use Rattle.play_begin.specs.Whole.{play_number, play_place}
use Rattle.play_samples.specs.Stepping.{refusal_of}
use Rattle.wav_sample.specs.Samples.{rate_right}
use Rattle.wav_rules.specs.declared.Wav.{Wav}
use Rattle.wav_rules.specs.Sound.{wav_head, wav_number, wav_place}
use Rattle.wav_rules.specs.Turns.{wav_of}
use Rattle.wav_rules.proofs.TurnLaws.{none_fine}
use Rattle.wav_rules.proofs.SizeLaws.{head_length, file_length, log_few}
use Rattle.play_wav.specs.declared.Begun.{Begun}
use Rattle.play_wav.specs.declared.Sounded.{Sounded}
use Rattle.play_wav.specs.Pieces.{begun_of, sounded_of, Piece, Untouched, Headed, Answered, Where, WrittenOn}
use Rattle.play_wav.proofs.Whole.{right}
use Rattle.c_wav.specs.Wavs.{wav_size, encoded_wav, wav_in, wav_encoded}
use Rattle.c_chip.specs.Boundary.{other_length}
use Rattle.c_wav.specs.Files.{wav_after, begin_number, begin_place, begin_size, begin_packed, begin_bytes}
use Rattle.c_wav.proofs.CodeLaws.{in_long}

where_on : {A B C D : Type 0} (t : Bool) → (A → C) → (B → D) → Where t A B → Where t C D
where_on true f g x = f x
where_on false f g x = g x

where_both : {A B C : Type 0} (t : Bool) → (A → C) → (B → C) → Where t A B → C
where_both true f g x = f x
where_both false f g x = g x

-- the first n bytes of a buffer are lent, all of a short one; `front` is what they are afterwards
module _ (log memory : List ℕ) (w : Wav) (out front : List ℕ) (n : ℕ) (r : Sounded) (h : n ≤ length out) (short : n < 44 → n ≡ length out)
    (same : length front ≡ length (take n out)) where
  long : length (take n out) ≡ n
  long = length-take-le n out h

  gets_whole : (turns : ℕ) → (length (take n out) < 2) ⊎ (4000010 ≤ turns) → (length out < 2) ⊎ (4000010 ≤ turns)
  gets_whole turns (inl q) =
      let l = long in
      let s : n ≡ length out = short (omega (arith, q)) in
      inl (omega (arith, q))
  gets_whole turns (inr q) = inr q

  piece_whole : Piece log memory w (take n out) front r → Piece log memory w out (front ++ drop n out) r
  piece_whole x =
      let l = long in
      let f : r.length ≤ length front = omega (arith, x.fits) in
      record {
        samples = x.samples;
        turns = x.turns;
        fits = omega (arith, x.fits);
        piece = take-append-le r.length front (drop n out) f ∙ x.piece;
        rest =
            drop-append-le r.length front (drop n out) f
            ∙ (ap (λ (s : List ℕ). s ++ drop n out) x.rest
            ∙ (sym (drop-append-le r.length (take n out) (drop n out) x.fits) ∙ ap (drop r.length) (take-append-drop n out)));
        went = x.went;
        kept = x.kept;
        over = x.over;
        gets = λ a b. gets_whole x.turns (x.gets a b);
      }

  untouched_whole : (number place : ℕ) → Untouched w number place (take n out) front r → Untouched w number place out (front ++ drop n out) r
  untouched_whole number place u =
      record { answer = u.answer; stays = ap (λ (s : List ℕ). s ++ drop n out) u.stays ∙ take-append-drop n out }

  -- the head
  room : leb 44 (length (take n out)) ≡ leb 44 (length out)
  room = by (leb 44 (length (take n out))) refl
    where
      by : (t : Bool) → leb 44 (length (take n out)) ≡ t → t ≡ leb 44 (length out)
      by true e = let l = long in let k = leb-true 44 (length (take n out)) e in sym (le-leb 44 (length out) (omega arith))
      by false e =
          let l = long in
          let k = leb-false 44 (length (take n out)) e in
          let s = short (omega arith) in
          sym (lt-leb 44 (length out) (omega arith))

  printed_whole : (v : List ℕ) → length v ≡ 44 → front ≡ printed (take n out) 0 v → front ++ drop n out ≡ printed out 0 v
  printed_whole v size e = by (leb 44 (length (take n out))) refl
    where
      by : (t : Bool) → leb 44 (length (take n out)) ≡ t → front ++ drop n out ≡ printed out 0 v
      by true i =
          let l = long in
          let k = leb-true 44 (length (take n out)) i in
          let f : 0 + length v ≤ length (take n out) = omega arith in
          ap (λ (s : List ℕ). s ++ drop n out) (e ∙ printed_in (take n out) 0 v f ∙ sets-eq v (take n out) 0 f)
          ∙ (append_assoc v (drop (0 + length v) (take n out)) (drop n out)
          ∙ (ap (λ (s : List ℕ). v ++ s) (sym (drop-append-le (0 + length v) (take n out) (drop n out) f) ∙ ap (drop (0 + length v)) (take-append-drop n out))
          ∙ sym (printed_in out 0 v (omega arith) ∙ sets-eq v out 0 (omega arith))))
      by false i =
          let l = long in
          let k = leb-false 44 (length (take n out)) i in
          let s = short (omega arith) in
          ap (λ (x : List ℕ). x ++ drop n out) (e ∙ sym (kept (take n out) 0 v 44 size (omega arith)).1)
          ∙ (take-append-drop n out ∙ (kept out 0 v 44 size (omega arith)).1)

  headed_whole : Headed w (take n out) front r → Headed w out (front ++ drop n out) r
  headed_whole x =
      record {
        answer = x.answer ∙ ap (λ (t : Bool). pick t (sounded_of 0 0 (wav_of w.rate w.count true w.place) 44 false) (sounded_of 0 0 w 0 false)) room;
        bytes = printed_whole (wav_head w.rate w.count) (head_length w.rate w.count) x.bytes;
      }

  answered_whole : Answered log memory w (take n out) front r → Answered log memory w out (front ++ drop n out) r
  answered_whole (inl a) = inl (a.0, a.1, piece_whole a.2)
  answered_whole (inr a) = inr (a.0, untouched_whole r.number r.place a.1)

  pub written_whole : WrittenOn log memory w (take n out) front r → WrittenOn log memory w out (front ++ drop n out) r
  unfolding WrittenOn
  written_whole x =
      where_on (eqb (refusal_of memory w.rate w.place) 0) (where_on w.begun answered_whole headed_whole)
      (untouched_whole (refusal_of memory w.rate w.place) 0) x

-- no more is written than was lent
module _ (log memory : List ℕ) (w : Wav) (before after : List ℕ) (r : Sounded) where
  untouched_fits : (number place : ℕ) → Untouched w number place before after r → r.length ≤ length before
  untouched_fits number place u = let e = ap (λ (x : Sounded). x.length) u.answer in omega arith

  headed_fits : Headed w before after r → r.length ≤ length before
  headed_fits x = by (leb 44 (length before)) refl x.answer
    where
      by : (t : Bool) → leb 44 (length before) ≡ t
          → r ≡ pick t (sounded_of 0 0 (wav_of w.rate w.count true w.place) 44 false) (sounded_of 0 0 w 0 false) → r.length ≤ length before
      by true i e = let k = leb-true 44 (length before) i in let l = ap (λ (x : Sounded). x.length) e in omega arith
      by false i e = let l = ap (λ (x : Sounded). x.length) e in omega arith

  answered_fits : Answered log memory w before after r → r.length ≤ length before
  answered_fits (inl a) = a.2.fits
  answered_fits (inr a) = untouched_fits r.number r.place a.1

  pub written_fits : WrittenOn log memory w before after r → r.length ≤ length before
  unfolding WrittenOn
  written_fits x =
      where_both (eqb (refusal_of memory w.rate w.place) 0) (where_both w.begun answered_fits headed_fits)
      (untouched_fits (refusal_of memory w.rate w.place) 0) x

-- only bytes of such a file's length are written over

wav_stored : (t : Bool) (w : Wav) (b : List ℕ) → (t ≡ true → length b ≡ wav_size) → pick t (wav_encoded w b) b ≡ pick t (encoded_wav w) b
unfolding wav_encoded
wav_stored t w b h = written_by_lem t (wav_encoded w b) (encoded_wav w) b (λ e. rw (eq-eqb (length b) wav_size (h e)))

-- a piece is done only for a state in range
written_done : (log memory : List ℕ) (w : Wav) (before after : List ℕ) (r : Sounded) → WrittenOn log memory w before after r
    → eqb r.number 0 ≡ true → in_range w.place.moment.state ≡ true
unfolding WrittenOn
written_done log memory w before after r x e = by (eqb (refusal_of memory w.rate w.place) 0) refl x
  where
    by : (t : Bool) → eqb (refusal_of memory w.rate w.place) 0 ≡ t
        → Where t (Where w.begun (Answered log memory w before after r) (Headed w before after r)) (Untouched w (refusal_of memory w.rate w.place) 0 before after r)
        → in_range w.place.moment.state ≡ true
    by true i y = (none_fine memory w.rate w.place (eqb-true (refusal_of memory w.rate w.place) 0 i)).ranged
    by false i y =
        let j : eqb (refusal_of memory w.rate w.place) 0 ≡ true = sym (ap (λ (x : Sounded). eqb x.number 0) y.answer) ∙ e in
        (none_fine memory w.rate w.place (eqb-true (refusal_of memory w.rate w.place) 0 j)).ranged

pub piece_stored : (log memory b before after : List ℕ) (r : Sounded) → WrittenOn log memory (wav_in b) before after r
    → pick (eqb r.number 0) (wav_encoded r.wav b) b ≡ wav_after r.number r.wav b
piece_stored log memory b before after r x =
    wav_stored (eqb r.number 0) r.wav b (λ e. in_long b (written_done log memory (wav_in b) before after r x e))

-- A BEGINNING: its number, its place and the file's size have their bits
pub record Low (g : Begun) : Type 0 where
  pub number : g.number ≤ 36
  pub place : g.place ≤ 524288
  pub size : g.size < 2 ^ 32

module _ (log memory : List ℕ) (rate : ℕ) where
  player_low : play_number log memory ≤ 36
  unfolding play_number
  player_low = let l = (check_limits log).number in pick_both (λ (k : ℕ). k ≤ 36) (is_memory memory) {a = (check_of log).number} {b = 1} (omega arith) (omega arith)

  number_low : wav_number log memory rate ≤ 36
  unfolding wav_number
  number_low =
      pick_both (λ (k : ℕ). k ≤ 36) (eqb (play_number log memory) 0) {a = pick (rate_right rate) 0 33} {b = play_number log memory}
      (pick_both (λ (k : ℕ). k ≤ 36) (rate_right rate) {a = 0} {b = 33} (omega arith) (omega arith)) player_low

  place_low : wav_place log memory ≤ 524288
  unfolding wav_place play_place
  place_low =
      pick_both (λ (k : ℕ). k ≤ 524288) (eqb (play_number log memory) 0) {a = 0} {b = pick (is_memory memory) (check_of log).place 0} (omega arith)
      (pick_both (λ (k : ℕ). k ≤ 524288) (is_memory memory) {a = (check_of log).place} {b = 0} (check_limits log).place (omega arith))

  pub begun_low : Low (begun_of log memory rate)
  unfolding begun_of
  begun_low =
      pick_each Low (eqb (wav_number log memory rate) 0)
      (λ e.
      let t = right log memory rate (eqb-true (wav_number log memory rate) 0 e) in
      let few = log_few log memory rate t.speed t.passed in
      record { number = omega arith; place = omega arith; size = omega (arith, file_length log memory rate) })
      (λ e. record { number = number_low; place = place_low; size = omega arith })

other_refused : (t : Bool) → eqb (pick t 2 1) 0 ≡ false
other_refused true = refl
other_refused false = refl

module _ (log memory : List ℕ) (rate : ℕ) (b : List ℕ) where
  pub not_begun : (length b ≡ wav_size → ⊥) → (log_packed (other_length memory) 0 0 ≡ begin_packed log memory rate b) × (b ≡ begin_bytes log memory rate b)
  unfolding begin_number begin_place begin_size
  not_begun h = rw (ne_eqb (length b) wav_size h) (refl, rw (other_refused (is_memory memory)))

  pub begun : length b ≡ wav_size → (g : Begun) → g ≡ begun_of log memory rate → (answer : ℕ) → answer ≡ log_packed g.number g.place g.size
      → (b' : List ℕ) → b' ≡ pick (eqb g.number 0) (wav_encoded g.wav b) b
      → (answer ≡ begin_packed log memory rate b) × (b' ≡ begin_bytes log memory rate b)
  unfolding begin_number begin_place begin_size
  begun h g e answer f b' k =
      rw (eq-eqb (length b) wav_size h, ← e)
      (f, k ∙ wav_stored (eqb g.number 0) g.wav b (λ t. h))

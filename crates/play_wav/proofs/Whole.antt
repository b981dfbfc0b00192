-- THE PIECES JOINED ARE THE WHOLE FILE, for any log that passes, any sample memory, any rate that is right and any list of calls. Assumes nothing.
use Prim.Native.Nat.{ℕ, zero, suc, ◌+◌, ◌≤◌, ◌<◌}
use mathlib.Core.Path.{◌≡◌, refl, sym, ap, ap₂, ◌∙◌}
use mathlib.Core.Logic.{◌⊎◌, inl, inr}
use mathlib.Core.Bool.{Bool, true, false}
use mathlib.Core.List.{List, [], ◌∷◌, ◌++◌, append_assoc, append-nil}
use native.Mathlib.Omega.{arith}
use borrow.Author.Tests.{eq-eqb, ne_eqb, eqb-true, leb-true, leb-false}
use lib.Dec.{eqb, leb}
use lib.ListN.{length, take, length-append}
use Rattle.arith.specs.Pick.{pick}
use Rattle.reading.specs.Saying.{over}
use Rattle.chip.specs.Range.{Bytes}
use Rattle.chip_api.specs.Answer.{is_memory}
use Rattle.recording.specs.Whole.{check_of}
use Rattle.text_print.specs.Printed.{printed}
use Rattle.play_begin.specs.Whole.{play_number}
use Rattle.play_samples.specs.declared.Place.{Place}
use Rattle.play_samples.specs.Stepping.{place_start, refusal_of}
use Rattle.wav_sample.specs.Samples.{rate_right}
use Rattle.wav_write.specs.Bytes.{sample_bytes}
use Rattle.wav_write.proofs.BytesLaws.{bytes_length, bytes_join}
use Rattle.wav_rules.specs.declared.Wav.{Wav}
use Rattle.wav_rules.specs.Sound.{log_samples, wav_head, wav_bytes, wav_number}
use Rattle.wav_rules.specs.Turns.{turn_of, Sounds, here, wav_of, wav_start}
use Rattle.wav_rules.proofs.ClocksLaws.{sounds_join}
use Rattle.wav_rules.proofs.Said.{said_first, said_all, said_on, said_fine, quiet_few}
use Rattle.play_wav.specs.declared.Sounded.{Sounded}
use Rattle.play_wav.specs.Pieces.{sounded_of, Headed, Piece, Answered, WrittenOn}
use Rattle.play_wav.specs.Calls.{Calls, none, call}
use Rattle.play_wav.proofs.HeadLaws.{head_front}
use Rattle.play_wav.proofs.LoopLaws.{no_flag}

-- NUMBER 0 is that of a memory, a log and a rate that are right
module _ (log memory : List ℕ) (rate : ℕ) where
  pub record Right : Type 0 where
    pub long : length memory ≡ 32768
    pub passed : (check_of log).number ≡ 0
    pub speed : rate_right rate ≡ true

  pub right : wav_number log memory rate ≡ 0 → Right
  unfolding wav_number play_number
  right e = by (is_memory memory) refl (check_of log).number refl (rate_right rate) refl e
    where
      by : (a : Bool) → is_memory memory ≡ a → (k : ℕ) → (check_of log).number ≡ k → (b : Bool) → rate_right rate ≡ b
          → pick (eqb (pick a k 1) 0) (pick b 0 33) (pick a k 1) ≡ 0 → Right
      by true i zero j true l z = record { long = eqb-true (length memory) 32768 i; passed = j; speed = l }
      by true i zero j false l z = absurd (let y : ◌≡◌ {A = ℕ} 33 0 = z in omega arith)
      by true i (suc k) j b l z = absurd (let y : ◌≡◌ {A = ℕ} (suc k) 0 = rw (ne_eqb (suc k) 0 (λ w. omega arith)) at z in omega arith)
      by false i k j b l z = absurd (let y : ◌≡◌ {A = ℕ} 1 0 = z in omega arith)

module _ (log memory : List ℕ) (rate : ℕ) (bytes : Bytes memory) (h : wav_number log memory rate ≡ 0) where
  abbrev count : ℕ
  count = length (log_samples log memory rate)

  -- so many turns from the log's beginning
  abbrev Gone : List ℕ → ℕ → Place → Type 0
  Gone l n q = Sounds (turn_of log memory rate) (place_start log) l n q

  fine : {l : List ℕ} {n : ℕ} {q : Place} → Gone l n q → refusal_of memory rate q ≡ 0
  fine g = let r = right log memory rate h in said_fine log memory rate r.long bytes r.speed r.passed g

  -- WHAT A LIST OF CALLS HAS COME TO: nothing so far, or the head and samples
  pub record Fresh (joined : List ℕ) (n : ℕ) (v : Wav) (o : Bool) : Type 0 where
    pub file : v ≡ wav_start log rate count
    pub said : joined ≡ []
    pub count : n ≡ 0
    pub goes : o ≡ false

  pub record Begun (joined : List ℕ) (n : ℕ) (v : Wav) (o : Bool) : Type 0 where
    pub samples : List ℕ
    pub turns : ℕ
    pub place : Place
    pub gone : Gone samples turns place
    pub file : v ≡ wav_of rate count true place
    pub said : joined ≡ wav_head rate count ++ sample_bytes samples
    pub done : o ≡ true → (turn_of log memory rate place).said ≡ over
    pub count : o ≡ false → n ≤ length samples + 1

  abbrev Part : List ℕ → ℕ → Wav → Bool → Type 0
  Part joined n v o = Fresh joined n v o ⊎ Begun joined n v o

  -- A CALL ON: never refused, and with 44 bytes or more something is written, or it is the end
  pub record Next (joined : List ℕ) (n : ℕ) (before after : List ℕ) (r : Sounded) : Type 0 where
    pub number : r.number ≡ 0
    pub place : r.place ≡ 0
    pub part : Part (joined ++ take r.length after) (pick (leb 44 (length before)) (n + 1) n) r.wav r.over
    pub some : 44 ≤ length before → r.over ≡ false → 0 < r.length

  -- the head

  headed : (before after : List ℕ) (r : Sounded) → WrittenOn log memory (wav_start log rate count) before after r → Headed (wav_start log rate count) before after r
  unfolding WrittenOn
  headed before after r x = rw (eq-eqb (refusal_of memory rate (place_start log)) 0 (fine here)) at x

  -- written, with no sample behind it
  first : (before after : List ℕ) → 44 ≤ length before → after ≡ printed before 0 (wav_head rate count) → Begun (take 44 after) 1 (wav_of rate count true (place_start log)) false
  unfolding sample_bytes
  first before after w e =
      record {
        samples = [];
        turns = 0;
        place = place_start log;
        gone = here;
        file = refl;
        said = head_front rate count before after w e ∙ sym (append-nil (wav_head rate count));
        done = no_flag;
        count = λ z. omega arith;
      }

  next_head : (before after : List ℕ) (r : Sounded) → Headed (wav_start log rate count) before after r → Next [] 0 before after r
  next_head before after r x = by (leb 44 (length before)) refl x.answer
    where
      by : (b : Bool) → leb 44 (length before) ≡ b
          → r ≡ pick b (sounded_of 0 0 (wav_of rate count true (place_start log)) 44 false) (sounded_of 0 0 (wav_start log rate count) 0 false) → Next [] 0 before after r
      by true i e =
          rw e
          (record {
            number = refl;
            place = refl;
            part = rw i (inr (first before after (leb-true 44 (length before) i) x.bytes));
            some = λ w z. omega arith;
          })
      by false i e =
          let l = leb-false 44 (length before) i in
          rw e
          (record {
            number = refl;
            place = refl;
            part = rw i (inl (record { file = refl; said = refl; count = refl; goes = refl }));
            some = λ w z. absurd (omega arith);
          })

  -- samples

  module _ (joined : List ℕ) (n : ℕ) (q : Place) (l : List ℕ) (k : ℕ) (g : Gone l k q) (before after : List ℕ) (r : Sounded) where
    abbrev there : Wav
    there = wav_of rate count true q

    answered : WrittenOn log memory there before after r → Answered log memory there before after r
    unfolding WrittenOn
    answered x = rw (eq-eqb (refusal_of memory rate q) 0 (fine g)) at x

    module _ (x : Piece log memory there before after r) where
      -- with 44 bytes, and no end, there is a sample
      sample : 44 ≤ length before → r.over ≡ false → (m : List ℕ) → x.samples ≡ m → 0 < length m
      sample w o (v ∷ m) e = omega arith
      sample w o [] e = by (x.gets e o)
        where
          by : (length before < 2) ⊎ (4000010 ≤ x.turns) → 0 < length {A = ℕ} []
          by (inl i) = absurd (omega arith)
          by (inr i) =
              let t = right log memory rate h in
              let few = quiet_few log memory rate t.long bytes t.speed t.passed g (rw e at x.went) in
              absurd (omega arith)

      counted : n ≤ length l + 1 → (b : Bool) → leb 44 (length before) ≡ b → r.over ≡ false → pick b (n + 1) n ≤ length (l ++ x.samples) + 1
      counted c true i o = let s = sample (leb-true 44 (length before) i) o x.samples refl in rw length-append (omega arith)
      counted c false i o = rw length-append (omega arith)

      some : 44 ≤ length before → r.over ≡ false → 0 < r.length
      some w o = by r.length refl
        where
          by : (m : ℕ) → r.length ≡ m → 0 < m
          by (suc m) i = omega arith
          by zero i =
              let z : ◌≡◌ {A = List ℕ} [] (sample_bytes x.samples) = ap (λ (m : ℕ). take m after) (sym i) ∙ x.piece in
              let y = ap length z in
              let s = sample w o x.samples refl in
              absurd (omega (arith, bytes_length x.samples))

      more : joined ≡ wav_head rate count ++ sample_bytes l → n ≤ length l + 1
          → Begun (joined ++ take r.length after) (pick (leb 44 (length before)) (n + 1) n) r.wav r.over
      more e c =
          record {
            samples = l ++ x.samples;
            turns = k + x.turns;
            place = r.wav.place;
            gone = sounds_join g x.went;
            file = x.kept;
            said =
                ap₂ (λ (a b : List ℕ). a ++ b) e x.piece
                ∙ (append_assoc (wav_head rate count) (sample_bytes l) (sample_bytes x.samples) ∙ ap (λ (a : List ℕ). wav_head rate count ++ a) (sym (bytes_join l x.samples)));
            done = x.over;
            count = counted c (leb 44 (length before)) refl;
          }

    next_samples : joined ≡ wav_head rate count ++ sample_bytes l → n ≤ length l + 1 → WrittenOn log memory there before after r → Next joined n before after r
    next_samples e c w = by (answered w)
      where
        by : Answered log memory there before after r → Next joined n before after r
        by (inl a) = record { number = a.0; place = a.1; part = inr (more a.2 e c); some = some a.2 }
        by (inr a) =
            let t = right log memory rate h in
            absurd (said_on log memory rate t.long bytes t.speed t.passed (sounds_join g a.0.went) r.number r.place a.0.refuses)

  -- from what a list of calls has come to
  next : (joined : List ℕ) (n : ℕ) (v : Wav) → Part joined n v false → (before after : List ℕ) (r : Sounded) → WrittenOn log memory v before after r → Next joined n before after r
  next joined n v (inl p) before after r w = rw (p.said, p.count) (next_head before after r (headed before after r (rw p.file at w)))
  next joined n v (inr p) before after r w =
      next_samples joined n p.place p.samples p.turns p.gone before after r p.said (p.count refl) (rw p.file at w)

  part_of : {joined : List ℕ} {n : ℕ} {v : Wav} {o : Bool} → Calls log memory (wav_start log rate count) joined n v o → Part joined n v o
  part_of none = inl (record { file = refl; said = refl; count = refl; goes = refl })
  part_of (call {joined = joined} {n = n} {v = v} before after r c w) = (next joined n v (part_of c) before after r w).part

  -- THE PIECES JOINED ARE A BEGINNING OF THE FILE, AND ALL OF IT WHEN THE LAST CALL SAYS OVER
  pub record Beginning (joined : List ℕ) (o : Bool) : Type 0 where
    pub rest : List ℕ
    pub whole : wav_bytes log memory rate ≡ joined ++ rest
    pub all : o ≡ true → wav_bytes log memory rate ≡ joined

  -- the file by its samples in two parts
  file_parts : (l m : List ℕ) → log_samples log memory rate ≡ l ++ m → wav_bytes log memory rate ≡ wav_head rate count ++ sample_bytes l ++ sample_bytes m
  unfolding wav_bytes
  file_parts l m e =
      ap (λ (s : List ℕ). wav_head rate count ++ sample_bytes s) e
      ∙ (ap (λ (s : List ℕ). wav_head rate count ++ s) (bytes_join l m) ∙ sym (append_assoc (wav_head rate count) (sample_bytes l) (sample_bytes m)))

  file_all : (l : List ℕ) → l ≡ log_samples log memory rate → wav_bytes log memory rate ≡ wav_head rate count ++ sample_bytes l
  unfolding wav_bytes
  file_all l e = ap (λ (s : List ℕ). wav_head rate count ++ sample_bytes s) (sym e)

  pub pieces_whole : {joined : List ℕ} {n : ℕ} {v : Wav} {o : Bool} → Calls log memory (wav_start log rate count) joined n v o → Beginning joined o
  pieces_whole {joined = joined} {n = n} {v = v} {o = o} c = by (part_of c)
    where
      by : Part joined n v o → Beginning joined o
      by (inl p) =
          record {
            rest = wav_bytes log memory rate;
            whole = ap (λ (s : List ℕ). s ++ wav_bytes log memory rate) (sym p.said);
            all = λ e. no_flag (sym p.goes ∙ e);
          }
      by (inr p) =
          let t = right log memory rate h in
          let f = said_first log memory rate t.long bytes t.speed t.passed p.gone in
          record {
            rest = sample_bytes f.0;
            whole = file_parts p.samples f.0 f.1 ∙ ap (λ (s : List ℕ). s ++ sample_bytes f.0) (sym p.said);
            all = λ e. file_all p.samples (said_all log memory rate t.long bytes t.speed t.passed p.gone (p.done e)) ∙ sym p.said;
          }

  -- NO CALL IS REFUSED, AND A BUFFER OF 44 BYTES OR MORE GETS BYTES, OR IT IS THE END
  pub call_on : {joined : List ℕ} {n : ℕ} {v : Wav} → Calls log memory (wav_start log rate count) joined n v false → (before after : List ℕ) (r : Sounded) → WrittenOn log memory v before after r
      → Next joined n before after r
  call_on {joined = joined} {n = n} {v = v} c before after r w = next joined n v (part_of c) before after r w

  -- SO IT COMES TO ITS END: behind two more such buffers than there are samples the last call said over
  pub comes_to_end : {joined : List ℕ} {n : ℕ} {v : Wav} (o : Bool) → Calls log memory (wav_start log rate count) joined n v o → count + 2 ≤ n → o ≡ true
  comes_to_end true c b = refl
  comes_to_end {joined = joined} {n = n} {v = v} false c b = absurd (by (part_of c))
    where
      by : Part joined n v false → ⊥
      by (inl p) = let z = p.count in omega arith
      by (inr p) =
          let t = right log memory rate h in
          let f = said_first log memory rate t.long bytes t.speed t.passed p.gone in
          let s = ap length f.1 ∙ length-append p.samples f.0 in
          let k = p.count refl in
          omega arith

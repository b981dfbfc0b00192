-- The loop that hands a file's pieces to the system: what it holds, and what each way out of it comes to. Assumes nothing.
use Prim.Native.Nat.{ℕ, ◌+◌, ◌≤◌}
use native.Mathlib.Omega.{arith}
use mathlib.Core.Path.{◌≡◌, refl, sym, ap, subst}
use mathlib.Core.Logic.{inl, inr}
use mathlib.Core.Bool.{Bool, true, false, not}
use mathlib.Core.List.{List, [], ◌++◌}
use lib.Dec.{eqb, leb}
use lib.ListN.{length, take}
use borrow.Author.Tests.{le-leb, leb-true}
use Rattle.arith.specs.Pick.{pick, either}
use Rattle.chip.specs.Range.{Bytes}
use Rattle.play_samples.specs.Stepping.{refusal_of}
use Rattle.wav_rules.specs.declared.Wav.{Wav}
use Rattle.wav_rules.specs.Sound.{log_samples, wav_bytes, wav_number}
use Rattle.wav_rules.specs.Turns.{wav_of, wav_start}
use Rattle.play_wav.specs.declared.Sounded.{Sounded}
use Rattle.play_wav.specs.Pieces.{sounded_of, Untouched, Headed, Answered, Where, WrittenOn}
use Rattle.play_wav.specs.Calls.{Calls, none, call}
use Rattle.wav_rules.proofs.SizeLaws.{log_few}
use Rattle.play_wav.proofs.Whole.{right, pieces_whole, call_on, comes_to_end}
use Rattle.program_io.specs.Writes.{Writes, FrontWrites}
use Rattle.program_io.proofs.Joined.{Sent, sent_none, sent_piece, sent_cut, sent_whole}

module _ (log memory : List ℕ) where
  -- a piece is within its buffer
  module _ (w : Wav) (before after : List ℕ) (r : Sounded) where
    untouched_fits : (number place : ℕ) → Untouched w number place before after r → r.length ≤ length before
    untouched_fits number place u = rw u.answer (omega arith)

    headed_fits : Headed w before after r → r.length ≤ length before
    headed_fits h = by (leb 44 (length before)) refl h.answer
      where
        by : (b : Bool) → leb 44 (length before) ≡ b
            → r ≡ pick b (sounded_of 0 0 (wav_of w.rate w.count true w.place) 44 false) (sounded_of 0 0 w 0 false) → r.length ≤ length before
        by true e a = rw a (leb-true 44 (length before) e)
        by false e a = rw a (omega arith)

    answered_fits : Answered log memory w before after r → r.length ≤ length before
    answered_fits (inl a) = a.2.fits
    answered_fits (inr a) = untouched_fits r.number r.place a.1

    fits : WrittenOn log memory w before after r → r.length ≤ length before
    unfolding WrittenOn
    fits = go (eqb (refusal_of memory w.rate w.place) 0) w.begun
      where
        go : (a b : Bool) → Where a (Where b (Answered log memory w before after r) (Headed w before after r)) (Untouched w (refusal_of memory w.rate w.place) 0 before after r)
            → r.length ≤ length before
        go true true h = answered_fits h
        go true false h = headed_fits h
        go false b h = untouched_fits (refusal_of memory w.rate w.place) 0 h

  module _ (rate : ℕ) where
    -- the file at its beginning
    abbrev pub fresh : Wav
    fresh = wav_start log rate (length (log_samples log memory rate))

    -- WHAT THE LOOP HOLDS: n pieces were made and taken whole
    pub record Pouring (v : Wav) (n : ℕ) (out : List ℕ) : Type 0 where
      pub passes : wav_number log memory rate ≡ 0
      pub bytes : Bytes memory
      pub room : 44 ≤ length out
      pub text : List ℕ
      pub calls : Calls log memory fresh text n v false
      pub sent : Sent text

    pub pouring_start : (v : Wav) (out : List ℕ) → wav_number log memory rate ≡ 0 → Bytes memory → v ≡ fresh → 44 ≤ length out → Pouring v 0 out
    pouring_start v out h b e w = record {
      passes = h;
      bytes = b;
      room = w;
      text = [];
      calls = subst (λ (x : Wav). Calls log memory fresh [] 0 x false) (sym e) none;
      sent = sent_none;
    }

    -- as many pieces as the loop counts are more than the file has samples
    pub poured_out : (v : Wav) (n : ℕ) (out : List ℕ) → Pouring v n out → 1000000000000 ≤ n → ⊥
    poured_out v n out g h =
        let t = right log memory rate g.passes in
        let few = log_few log memory rate t.speed t.passed in
        let e = comes_to_end log memory rate g.bytes g.passes false g.calls (omega arith) in
        let z : ◌≡◌ {A = ℕ} 0 1 = cc in
        omega arith

    -- ONE MORE PIECE
    module _ (v : Wav) (n : ℕ) (out : List ℕ) (g : Pouring v n out) (after : List ℕ) (r : Sounded) (on : WrittenOn log memory v out after r)
        (same : length after ≡ length out) where
      inside : r.length ≤ length after
      inside = let f = fits v out after r on in omega arith

      abbrev joined : List ℕ
      joined = g.text ++ take r.length after

      more : Calls log memory fresh joined (n + 1) r.wav r.over
      more =
          subst (λ (k : ℕ). Calls log memory fresh joined k r.wav r.over)
          (ap (λ (b : Bool). pick b (n + 1) n) (le-leb 44 (length out) g.room))
          (call out after r g.calls on)

      -- not taken whole
      pub poured_cut : (b : Bool) → b ≡ false → FrontWrites after r.length b → Writes (wav_bytes log memory rate) false
      poured_cut b f w =
          let p = pieces_whole log memory rate g.bytes g.passes more in
          rw p.whole (sent_cut g.text (take r.length after) p.rest g.sent (rw f at (w.front inside)))

      number : r.number ≡ 0
      number = (call_on log memory rate g.bytes g.passes g.calls out after r on).number

      -- taken whole
      taken : (b : Bool) → b ≡ true → FrontWrites after r.length b → Sent joined
      taken b f w = sent_piece g.text (take r.length after) g.sent (rw f at (w.front inside))

      -- the last one
      pub poured_all : (b : Bool) → b ≡ true → FrontWrites after r.length b → either r.over (not (eqb r.number 0)) ≡ true → Writes (wav_bytes log memory rate) (eqb r.number 0)
      poured_all b f w e =
          let p = pieces_whole log memory rate g.bytes g.passes more in
          rw number (rw (p.all (ends r.over (rw number at e))) (sent_whole joined (taken b f w)))
        where
          ends : (o : Bool) → either o false ≡ true → o ≡ true
          ends true e = refl
          ends false e = e

      -- or one of more
      pub poured_on : (b : Bool) → b ≡ true → FrontWrites after r.length b → either r.over (not (eqb r.number 0)) ≡ false → Pouring r.wav (n + 1) after
      poured_on b f w e = record {
        passes = g.passes;
        bytes = g.bytes;
        room = let a = g.room in omega arith;
        text = joined;
        calls = subst (λ (o : Bool). Calls log memory fresh joined (n + 1) r.wav o) (still r.over (rw number at e)) more;
        sent = taken b f w;
      }
        where
          still : (o : Bool) → either o false ≡ false → o ≡ false
          still true e = e
          still false e = refl

-- What the loop of `samples_on` holds, how steps keep it, and what it answers. Assumes nothing.
use Prim.Native.Nat.{ℕ, ◌+◌, ◌-◌, ◌*◌, ◌/◌, ◌≤◌, ◌<◌}
use mathlib.Core.Path.{◌≡◌, refl, sym, ap, ◌∙◌}
use mathlib.Core.Logic.{◌⊎◌, inl, inr}
use mathlib.Core.Bool.{Bool, true, false}
use mathlib.Core.List.{List, [], ◌∷◌, ◌++◌}
use native.Mathlib.Omega.{arith}
use lib.Dec.{eqb, leb, ltb}
use lib.ListN.{length, take, drop, length-append}
use lib.Seq.{sets, sets-eq, length-sets, take_at, drop_at, drop-drop, length-take-le}
use borrow.Author.Tests.{le-leb, lt-leb, leb-true, leb-false, ltb-true, ltb-false, eqb-true, eqb-false}
use Rattle.arith.specs.Over.{over}
use Rattle.arith.specs.Pick.{pick, both}
use Rattle.arith.proofs.PickLaws.{both_left, both_right}
use Rattle.reading.specs.Saying as said
use Rattle.reading.specs.Saying.{Said, on, says, refused}
use Rattle.chip.specs.Range.{Bytes}
use Rattle.play_samples.specs.declared.Next.{Next}
use Rattle.play_samples.specs.declared.Place.{Place}
use Rattle.play_samples.specs.Stepping.{Go, next_of, heard}
use Rattle.wav_write.specs.Bytes.{sample_bytes}
use Rattle.wav_write.proofs.BytesLaws.{bytes_length, bytes_join}
use Rattle.wav_rules.specs.declared.Wav.{Wav}
use Rattle.wav_rules.specs.Turns.{turn_of, Sounds, here}
use Rattle.wav_rules.proofs.ClocksLaws.{sounds_join}
use Rattle.play_wav.specs.declared.Sounded.{Sounded}
use Rattle.play_wav.specs.declared.Taken.{Taken}
use Rattle.play_wav.specs.Loop.{taken_of, taken_by, step_from, Took, is_on, goes_on, piece_of, answer_by}
use Rattle.play_wav.specs.Pieces.{sounded_of, Answered}
use Rattle.play_wav.proofs.StepLaws.{Moves, Came, came}

pub no_flag : {A : Type 0} → ◌≡◌ {A = Bool} false true → A
no_flag e = absurd (let z : ◌≡◌ {A = ℕ} 0 1 = cc in omega arith)

-- two bytes left, by what is left
pub room_is : (at size : ℕ) → at ≤ size → leb 2 (size - at) ≡ leb (at + 2) size
room_is at size h = by (leb (at + 2) size) refl
  where
    by : (t : Bool) → leb (at + 2) size ≡ t → leb 2 (size - at) ≡ t
    by true e = let l = leb-true (at + 2) size e in le-leb 2 (size - at) (omega arith)
    by false e = let l = leb-false (at + 2) size e in lt-leb 2 (size - at) (omega arith)

-- what the loop's test says
pub goes_is : (t : Taken) (size count : ℕ) → goes_on t size count ≡ true → (is_on t.next ≡ true) × (t.length + 2 ≤ size) × (count < 4000010)
unfolding goes_on
goes_is t size count e =
    let more = both_right (is_on t.next) (both (leb (t.length + 2) size) (ltb count 4000010)) e in (
      both_left (is_on t.next) (both (leb (t.length + 2) size) (ltb count 4000010)) e,
      leb-true (t.length + 2) size (both_left (leb (t.length + 2) size) (ltb count 4000010) more),
      ltb-true count 4000010 (both_right (leb (t.length + 2) size) (ltb count 4000010) more),
    )

-- WHAT THE LOOP HOLDS
module _ (log memory : List ℕ) (w : Wav) (before : List ℕ) where
  -- by what the last step brought: the end or a refusal is what the turn at the place says; else each step was a turn at least
  abbrev Status : Next → Place → ℕ → ℕ → Type 0
  Status Next.Over p steps turns = (turn_of log memory w.rate p).said ≡ said.over
  Status Next.Moved p steps turns = steps ≤ turns
  Status (Next.Heard k) p steps turns = steps ≤ turns
  Status (Next.Refused k r) p steps turns = (turn_of log memory w.rate p).said ≡ refused k r

  status_on : (n : Next) (p : Place) (steps turns : ℕ) → is_on n ≡ true → Status n p steps turns → steps ≤ turns
  status_on Next.Over p steps turns e s = no_flag e
  status_on Next.Moved p steps turns e s = s
  status_on (Next.Heard k) p steps turns e s = s
  status_on (Next.Refused k r) p steps turns e s = no_flag e

  -- so far: at a place, with so many bytes written
  pub record Going (p : Place) (at : ℕ) (out : List ℕ) : Type 0 where
    pub samples : List ℕ
    pub turns : ℕ
    pub fits : at ≤ length before
    pub long : length out ≡ length before
    pub size : at ≡ 2 * length samples
    pub piece : take at out ≡ sample_bytes samples
    pub rest : drop at out ≡ drop at before
    pub went : Sounds (turn_of log memory w.rate) w.place samples turns p

  -- behind `steps` steps
  pub record Standing (t : Taken) (steps : ℕ) (out : List ℕ) : Type 0 where
    pub going : Going t.place t.length out
    pub status : Status t.next t.place steps going.turns

  pub standing_start : (t : Taken) → t ≡ taken_of Next.Moved w.place 0 → Standing t 0 before
  unfolding sample_bytes
  standing_start t e =
      rw e
      (record {
        going =
            record {
              samples = [];
              turns = 0;
              fits = omega arith;
              long = refl;
              size = refl;
              piece = refl;
              rest = refl;
              went = here;
            };
        status = omega arith;
      })

  -- ON BY SOME SAMPLES
  module _ (p q : Place) (at next : ℕ) (out after l : List ℕ) (g : Going p at out) (m : Moves log memory w.rate p l q) (place : next ≡ at + length (sample_bytes l))
      (fits : next ≤ length out) (e : after ≡ sets out at (sample_bytes l)) where
    front : length (take at out ++ sample_bytes l) ≡ next
    front = length-append (take at out) (sample_bytes l) ∙ ap (λ (n : ℕ). n + length (sample_bytes l)) (length-take-le at out (omega arith)) ∙ sym place

    whole : after ≡ take at out ++ sample_bytes l ++ drop next out
    whole = e ∙ sets-eq (sample_bytes l) out at (omega arith) ∙ ap (λ (n : ℕ). take at out ++ sample_bytes l ++ drop n out) (sym place)

    behind : (b : List ℕ) → drop next b ≡ drop (length (sample_bytes l)) (drop at b)
    behind b = ap (λ (n : ℕ). drop n b) place ∙ sym (drop-drop (length (sample_bytes l)) at b)

    going_on : Going q next after
    going_on =
        let k = g.long in
        let s = g.size in
        let b = bytes_length l in
        record {
          samples = g.samples ++ l;
          turns = g.turns + m.turns;
          fits = omega arith;
          long = ap length e ∙ length-sets out at (sample_bytes l) ∙ g.long;
          size = rw length-append (omega arith);
          piece = ap (take next) whole ∙ take_at (take at out ++ sample_bytes l) (drop next out) next front ∙ rw (g.piece, bytes_join) refl;
          rest =
              ap (drop next) whole
              ∙ drop_at (take at out ++ sample_bytes l) (drop next out) next front
              ∙ behind out
              ∙ ap (drop (length (sample_bytes l))) g.rest
              ∙ sym (behind before);
          went = sounds_join g.went m.went;
        }

    going_turns : going_on.turns ≡ g.turns + m.turns
    unfolding going_on
    going_turns = refl

  module _ (t : Taken) (steps : ℕ) (out : List ℕ) (s : Standing t steps out) where
    -- A STEP KEEPS IT
    module _ (bytes : Bytes memory) (h : is_on t.next ≡ true) (room : t.length + 2 ≤ length out) (after : List ℕ) where
      abbrev taken : Go
      taken = step_from log memory w.rate (length out) t

      -- where it found the end or a refusal nothing is written
      stays : (x : Said (List ℕ)) → heard x ≡ [] → after ≡ sets out t.length (sample_bytes (heard x)) → after ≡ out
      unfolding sample_bytes
      stays x n e = e ∙ ap (λ (l : List ℕ). sets out t.length (sample_bytes l)) n

      moves : (l : List ℕ) (q : Place) (next : ℕ) (m : Moves log memory w.rate t.place l q) (place : next ≡ t.length + length (sample_bytes l)) (fits : next ≤ length out)
          (e : after ≡ sets out t.length (sample_bytes l)) → steps + 1 ≤ (going_on t.place q t.length next out after l s.going m place fits e).turns
      moves l q next m place fits e =
          let c = status_on t.next t.place steps s.going.turns h s.status in
          let k = m.some in
          omega (arith, going_turns t.place q t.length next out after l s.going m place fits e)

      pub standing_on : (r : Taken) → Took log memory w.rate t out after r → Standing r (steps + 1) after
      unfolding taken_by heard
      standing_on r k =
          rw k.taken
          (by taken.said refl (came log memory w.rate bytes ((length out - t.length) / 2) t.place (omega arith)) k.bytes (rw k.taken at k.fits))
        where
          by : (x : Said (List ℕ)) → taken.said ≡ x → Came log memory w.rate t.place x taken.state → after ≡ sets out t.length (sample_bytes (heard x))
              → (taken_by t (next_of x) taken.state).length ≤ length out → Standing (taken_by t (next_of x) taken.state) (steps + 1) after
          by said.over i c b f = record { going = rw (stays said.over refl b) s.going; status = c }
          by on i c b f =
              let place : t.length ≡ t.length + length (sample_bytes []) = omega (arith, bytes_length []) in
              record { going = going_on t.place taken.state t.length t.length out after [] s.going c place f b; status = moves [] taken.state t.length c place f b }
          by (says l) i c b f =
              let next = t.length + 2 * length l in
              let place : next ≡ t.length + length (sample_bytes l) = omega (arith, bytes_length l) in
              record { going = going_on t.place taken.state t.length next out after l s.going c place f b; status = moves l taken.state next c place f b }
          by (refused k r) i c b f = record { going = rw (stays (refused k r) refl b) s.going; status = c }

    -- WHAT IT ANSWERS

    none_of : (l : List ℕ) → length l ≡ 0 → l ≡ []
    none_of [] e = refl
    none_of (x ∷ l) e = absurd (omega arith)

    -- the refusal, with nothing written
    at_refusal : (k r : ℕ) → (turn_of log memory w.rate t.place).said ≡ refused k r → t.length ≡ 0 → Answered log memory w before out (sounded_of k r w 0 false)
    at_refusal k r e z =
        let g = s.going in
        let size = g.size in
        let n : g.samples ≡ [] = none_of g.samples (omega arith) in
        inr (record { turns = g.turns; at = t.place; went = rw n at g.went; refuses = e }, record { answer = refl; stays = rw z at g.rest })

    -- the samples
    at_samples : (all : Bool) → (all ≡ true → (turn_of log memory w.rate t.place).said ≡ said.over)
        → (s.going.samples ≡ [] → all ≡ false → (length before < 2) ⊎ (4000010 ≤ s.going.turns)) → Answered log memory w before out (piece_of w t all)
    at_samples all o n =
        let g = s.going in
        inl (
          refl,
          refl,
          record {
            samples = g.samples;
            turns = g.turns;
            fits = g.fits;
            piece = g.piece;
            rest = g.rest;
            went = g.went;
            kept = refl;
            over = o;
            gets = n;
          },
        )

    -- no sample, with nothing found: too few bytes, or so many turns
    short : goes_on t (length out) steps ≡ false → is_on t.next ≡ true → s.going.samples ≡ [] → (length before < 2) ⊎ (4000010 ≤ s.going.turns)
    unfolding goes_on
    short f h n = by (leb (t.length + 2) (length out)) refl (rw h at f)
      where
        by : (b : Bool) → leb (t.length + 2) (length out) ≡ b → both b (ltb steps 4000010) ≡ false → (length before < 2) ⊎ (4000010 ≤ s.going.turns)
        by true e i =
            let many = ltb-false steps 4000010 i in
            let c = status_on t.next t.place steps s.going.turns h s.status in
            inr (omega arith)
        by false e i =
            let few = leb-false (t.length + 2) (length out) e in
            let long = s.going.long in
            let size = s.going.size in
            let z = ap length n in
            inl (omega arith)

    pub standing_answer : goes_on t (length out) steps ≡ false → (r : Sounded) → r ≡ answer_by w t t.next → Answered log memory w before out r
    unfolding answer_by
    standing_answer f r e = rw e (by t.next refl)
      where
        refusal : (k q : ℕ) → t.next ≡ Next.Refused k q → (b : Bool) → eqb t.length 0 ≡ b
            → Answered log memory w before out (pick b (sounded_of k q w 0 false) (piece_of w t false))
        refusal k q i true j = at_refusal k q (rw i at s.status) (eqb-true t.length 0 j)
        refusal k q i false j =
            at_samples false no_flag
            (λ n x. absurd (let size = s.going.size in let z = ap length n in eqb-false t.length 0 j (omega arith)))

        by : (n : Next) → t.next ≡ n → Answered log memory w before out (answer_by w t n)
        by Next.Over i = at_samples true (λ x. rw i at s.status) (λ n x. no_flag (sym x))
        by Next.Moved i = at_samples false no_flag (λ n x. short f (ap is_on i) n)
        by (Next.Heard k) i = at_samples false no_flag (λ n x. short f (ap is_on i) n)
        by (Next.Refused k q) i = refusal k q i (eqb t.length 0) refl

-- A step whose samples go behind the bytes written so far. Assumes nothing.
use Prim.Native.Nat.{ℕ, ◌+◌, ◌-◌, ◌*◌, ◌/◌, ◌≤◌}
use mathlib.Core.Path.{◌≡◌, refl, sym, ap, ◌∙◌}
use mathlib.Core.List.{List, [], ◌++◌, append_assoc, append-nil}
use native.Mathlib.Omega.{arith}
use lib.ListN.{length, take, drop, length-append, length-drop, drop_of_length-le}
use lib.Seq.{sets, sets-eq, take_all, drop-drop, length-take-le}
use Rattle.arith.specs.Over.{over}
use Rattle.reading.specs.Saying as said
use Rattle.reading.specs.Saying.{Said, on, says, refused}
use Rattle.play_samples.specs.declared.Next.{Next}
use Rattle.play_samples.specs.declared.Passed.{Passed}
use Rattle.play_samples.specs.declared.Place.{Place}
use Rattle.play_samples.specs.Stepping.{Go, step_of, next_of, heard, passed}
use Rattle.wav_write.specs.Bytes.{sample_bytes}
use Rattle.wav_write.proofs.BytesLaws.{bytes_length}
use Rattle.play_wav.specs.declared.Taken.{Taken}
use Rattle.play_wav.specs.Loop.{taken_by, step_from, Took, count_of}

-- what is written over a list of the same length is no longer
over_fits : (v l part : List ℕ) → part ≡ over v l → length part ≡ length l → length v ≤ length l
unfolding over
over_fits v l part e k = omega (arith, ap length e ∙ length-append v (drop (length v) l), length-drop (length v) l)

-- the bytes from a place on, lent, and written over from their front
abbrev Lent : List ℕ → ℕ → List ℕ
Lent b at = take (length b - at) (drop at b)

module _ (b : List ℕ) (at : ℕ) (h : at ≤ length b) where
  lent_long : length (Lent b at) ≡ length b - at
  lent_long = length-take-le (length b - at) (drop at b) (omega (arith, length-drop at b))

  module _ (part v : List ℕ) (e : part ≡ over v (Lent b at)) (k : length part ≡ length (Lent b at)) where
    lent_fits : at + length v ≤ length b
    lent_fits = let l = lent_long in let f = over_fits v (Lent b at) part e k in omega arith

    lent_put : take at b ++ (part ++ drop (length b - at) (drop at b)) ≡ sets b at v
    unfolding over
    lent_put =
        let n = length b - at in
        let d = length-drop at b in
        let none : drop n (drop at b) ≡ [] = drop_of_length-le (drop at b) {i = n} (omega arith) in
        let new : part ≡ v ++ drop (at + length v) b =
        e ∙ ap (λ (l : List ℕ). v ++ drop (length v) l) (take_all n (drop at b) (omega arith)) ∙ ap (λ (l : List ℕ). v ++ l) (drop-drop (length v) at b) in
        ap (λ (l : List ℕ). take at b ++ (part ++ l)) none
        ∙ ap (λ (l : List ℕ). take at b ++ l) (append-nil part ∙ new)
        ∙ sym (append_assoc (take at b) v (drop (at + length v) b))
        ∙ sym (sets-eq v b at lent_fits)

-- how many samples are told of, and the bytes behind them
count_heard : (w : Said (List ℕ)) → count_of (next_of w) ≡ length (heard w)
unfolding heard
count_heard said.over = refl
count_heard on = refl
count_heard (says l) = refl
count_heard (refused k r) = refl

taken_length : (t : Taken) (n : Next) (q : Place) → (taken_by t n q).length ≡ t.length + 2 * count_of n
unfolding taken_by
taken_length t Next.Over q = omega arith
taken_length t Next.Moved q = omega arith
taken_length t (Next.Heard k) q = refl
taken_length t (Next.Refused k r) q = omega arith

module _ (log memory : List ℕ) (rate : ℕ) (t : Taken) (b part : List ℕ) (h : t.length ≤ length b) (s : Passed)
    (e : s ≡ passed (step_of log memory rate (length (Lent b t.length) / 2) t.place))
    (f : part ≡ over (sample_bytes (heard (step_of log memory rate (length (Lent b t.length) / 2) t.place).said)) (Lent b t.length))
    (k : length part ≡ length (Lent b t.length)) where
  abbrev step : Go
  step = step_from log memory rate (length b) t

  is_step : s ≡ passed step
  is_step = rw (lent_long b t.length h) at e

  is_over_lem : part ≡ over (sample_bytes (heard step.said)) (Lent b t.length)
  is_over_lem = f ∙ ap (λ (n : ℕ). over (sample_bytes (heard (step_of log memory rate (n / 2) t.place).said)) (Lent b t.length)) (lent_long b t.length h)

  pub step_fits : t.length + 2 * count_of s.next ≤ length b
  step_fits =
      let fits = lent_fits b t.length h part (sample_bytes (heard step.said)) is_over_lem k in
      let n = ap (λ (x : Passed). count_of x.next) is_step ∙ count_heard step.said in
      omega (arith, bytes_length (heard step.said))

  pub step_took : (r : Taken) → r ≡ taken_by t s.next s.place
      → Took log memory rate t b (take t.length b ++ (part ++ drop (length b - t.length) (drop t.length b))) r
  step_took r i =
      let n = ap (λ (x : Taken). x.length) i ∙ taken_length t s.next s.place in
      let m = step_fits in
      record {
        taken = i ∙ ap (λ (x : Passed). taken_by t x.next x.place) is_step;
        bytes = lent_put b t.length h part (sample_bytes (heard step.said)) is_over_lem k;
        fits = omega arith;
      }

-- Levels piece by piece: their samples written one piece behind the other. Assumes nothing.
use Prim.Native.Nat.{ℕ, ◌+◌, ◌-◌, ◌*◌, ◌≤◌, ◌<◌}
use mathlib.Core.Path.{◌≡◌, refl, sym, ap, ◌∙◌}
use mathlib.Core.Bool.{Bool}
use mathlib.Core.List.{List, [], ◌∷◌, ◌++◌}
use native.Mathlib.Omega.{arith}
use lib.ListN.{length, length-append, get_or, drop, replicate, length-replicate}
use lib.Seq.{sets, length-sets}
use Rattle.arith.specs.Over.{over}
use Rattle.text_print.proofs.StoreLaws.{sets_append}
use Rattle.reading.specs.Reading.{Mark}
use Rattle.run_answer.specs.Run.{flat}
use Rattle.run_levels.specs.Levels.{held_levels}
use Rattle.run_levels.specs.Ordered.{Ordered}
use Rattle.run_levels.proofs.LevelLaws.{ordered_end, ordered_from}
use Rattle.run_levels.proofs.RecordLaws.{Stood, stood, stood_all}
use Rattle.wav_sample.specs.declared.Sampler.{Sampler}
use Rattle.wav_sample.specs.Sampler.{sampled_from, sampler_after}
use Rattle.wav_sample.proofs.FeedLaws.{sampled_join, sampled_none, after_none, after_join, after_clock}
use Rattle.wav_sample.proofs.OrderLaws.{replicate_most, after_in_order}
use Rattle.wav_write.specs.Bytes.{sample_bytes}
use Rattle.c_bytes.specs.Numbers.{wide_bytes}
use Rattle.wav_write.proofs.BytesLaws.{bytes_length, bytes_join, bytes_none, bytes_one}
use Rattle.play_samples.specs.Writing.{Fit, size_of, Writes, marks_in, word_levels, Recorded}

-- what is still to be written leads to where all of it leads
pub record Ahead (pal : Bool) (rate : ℕ) (out : List ℕ) (at : ℕ) (a : Sampler) (levels out₀ : List ℕ) (at₀ : ℕ) (a₀ : Sampler) (levels₀ : List ℕ) : Type 0 where
  pub size : length out ≡ length out₀
  pub room : at + size_of pal rate a levels ≡ at₀ + size_of pal rate a₀ levels₀
  pub sampler : sampler_after pal rate a levels ≡ sampler_after pal rate a₀ levels₀
  pub bytes : sets out at (sample_bytes (sampled_from pal rate a levels)) ≡ sets out₀ at₀ (sample_bytes (sampled_from pal rate a₀ levels₀))

module _ (pal : Bool) (rate : ℕ) where
  pub size_join : (a : Sampler) (l m : List ℕ) → size_of pal rate a (l ++ m) ≡ size_of pal rate a l + size_of pal rate (sampler_after pal rate a l) m
  unfolding size_of
  size_join a l m =
      let e = length-append (sampled_from pal rate a l) (sampled_from pal rate (sampler_after pal rate a l) m) in
      rw (sampled_join pal rate l m a) (omega (arith, e))

  pub size_bytes : (a : Sampler) (l : List ℕ) → length (sample_bytes (sampled_from pal rate a l)) ≡ size_of pal rate a l
  unfolding size_of
  size_bytes a l = bytes_length (sampled_from pal rate a l)

  -- the bytes of one piece, and those of another behind it
  bytes_on : (out : List ℕ) (at : ℕ) (a : Sampler) (l m : List ℕ)
      → sets (sets out at (sample_bytes (sampled_from pal rate a l))) (at + size_of pal rate a l) (sample_bytes (sampled_from pal rate (sampler_after pal rate a l) m))
      ≡ sets out at (sample_bytes (sampled_from pal rate a (l ++ m)))
  bytes_on out at a l m =
      let u = sample_bytes (sampled_from pal rate a l) in
      let w = sample_bytes (sampled_from pal rate (sampler_after pal rate a l) m) in
      ap (λ (k : ℕ). sets (sets out at u) (at + k) w) (sym (size_bytes a l))
      ∙ (sets_append u w out at
      ∙ ap (sets out at) (sym (bytes_join (sampled_from pal rate a l) (sampled_from pal rate (sampler_after pal rate a l) m)) ∙ ap sample_bytes (sym (sampled_join pal rate l m a))))

  pub ahead_start : (out : List ℕ) (at : ℕ) (a : Sampler) (l : List ℕ) → Ahead pal rate out at a l out at a l
  ahead_start out at a l = record { size = refl; room = refl; sampler = refl; bytes = refl }

  module _ (out : List ℕ) (at : ℕ) (a : Sampler) (l out₀ : List ℕ) (at₀ : ℕ) (a₀ : Sampler) (l₀ : List ℕ) (out' : List ℕ) (r : ℕ) (b : Sampler) where
    -- a piece is written
    pub ahead_on : (piece rest : List ℕ) → l ≡ piece ++ rest → Writes pal rate out at a piece out' r b → Ahead pal rate out at a l out₀ at₀ a₀ l₀
        → Ahead pal rate out' r b rest out₀ at₀ a₀ l₀
    ahead_on piece rest e w h =
        rw (w.place, w.sampler, w.bytes)
        (record {
          size = length-sets out at (sample_bytes (sampled_from pal rate a piece)) ∙ h.size;
          room = (let j = ap (size_of pal rate a) e ∙ size_join a piece rest in omega (arith, j, h.room));
          sampler = sym (after_join pal rate piece rest a) ∙ (ap (sampler_after pal rate a) (sym e) ∙ h.sampler);
          bytes = bytes_on out at a piece rest ∙ (ap (λ (x : List ℕ). sets out at (sample_bytes (sampled_from pal rate a x))) (sym e) ∙ h.bytes);
        })

    -- the last piece is
    pub ahead_end : (piece : List ℕ) → l ≡ piece → Writes pal rate out at a piece out' r b → Ahead pal rate out at a l out₀ at₀ a₀ l₀
        → Writes pal rate out₀ at₀ a₀ l₀ out' r b
    ahead_end piece e w h =
        record {
          place = w.place ∙ (ap (λ (x : List ℕ). at + size_of pal rate a x) (sym e) ∙ h.room);
          sampler = w.sampler ∙ (ap (sampler_after pal rate a) (sym e) ∙ h.sampler);
          bytes = w.bytes ∙ (ap (λ (x : List ℕ). sets out at (sample_bytes (sampled_from pal rate a x))) (sym e) ∙ h.bytes);
        }

  -- levels that make no sample whole, and levels that make one
  pub writes_still : (out : List ℕ) (at : ℕ) (a : Sampler) (l : List ℕ) → sampled_from pal rate a l ≡ [] → Writes pal rate out at a l out at (sampler_after pal rate a l)
  unfolding size_of
  writes_still out at a l e = record { place = rw e (omega arith); sampler = refl; bytes = rw (e, bytes_none) refl }

  pub writes_one : (out : List ℕ) (at : ℕ) (a : Sampler) (l : List ℕ) (x : ℕ) → sampled_from pal rate a l ≡ x ∷ []
      → Writes pal rate out at a l (sets out at (wide_bytes 2 x)) (at + 2) (sampler_after pal rate a l)
  unfolding size_of
  writes_one out at a l x e = record { place = rw e refl; sampler = refl; bytes = rw (e, bytes_one x) refl }

  -- nothing is written where no levels are
  pub writes_none : (out : List ℕ) (at : ℕ) (a : Sampler) → Writes pal rate out at a [] out at a
  writes_none out at a = rw (after_none pal rate a) at (writes_still out at a [] (sampled_none pal rate a))

  -- levels, and others behind them
  pub writes_join : (out : List ℕ) (at : ℕ) (a : Sampler) (l mid : List ℕ) (r : ℕ) (b : Sampler) (m out' : List ℕ) (r' : ℕ) (b' : Sampler)
      → Writes pal rate out at a l mid r b → Writes pal rate mid r b m out' r' b' → Writes pal rate out at a (l ++ m) out' r' b'
  writes_join out at a l mid r b m out' r' b' first then =
      ahead_end mid r b m out at a (l ++ m) out' r' b' m refl then
      (ahead_on out at a (l ++ m) out at a (l ++ m) mid r b l m refl first (ahead_start out at a (l ++ m)))

  -- fewer clocks may be fed too, and the rest of them behind some
  pub fit_less : (a : Sampler) (n k : ℕ) → k ≤ n → Fit pal rate a n → Fit pal rate a k
  fit_less a n k h f = record { right = f.right; order = f.order; few = omega (arith, f.few); early = omega (arith, f.early) }

  pub fit_on : (a b : Sampler) (n k : ℕ) (l : List ℕ) → ((i : ℕ) → get_or l i 0 ≤ 65535) → length l + k ≤ n → b ≡ sampler_after pal rate a l → Fit pal rate a n → Fit pal rate b k
  fit_on a b n k l low h e f =
      let c = after_clock pal rate l a in
      rw e
      (record {
        right = f.right;
        order = after_in_order pal rate f.right l a low (omega (arith, f.early)) f.order;
        few = omega (arith, f.few);
        early = omega (arith, f.early, c);
      })

-- the lent bytes stay as many
pub writes_length : {pal : Bool} {rate : ℕ} {before : List ℕ} {at : ℕ} {a : Sampler} {levels after : List ℕ} {r : ℕ} {b : Sampler}
    → Writes pal rate before at a levels after r b → length after ≡ length before
writes_length {pal} {rate} {before} {at} {a} {levels} w = ap length w.bytes ∙ length-sets before at (sample_bytes (sampled_from pal rate a levels))

-- records in words are the records stored there
pub marks_in_lem : (marks : List Mark) (rest : List ℕ) → marks_in (length marks) (flat marks ++ rest) ≡ marks
unfolding marks_in flat
marks_in_lem [] rest = refl
marks_in_lem (m ∷ l) rest = ap (λ (x : List Mark). m ∷ x) (marks_in_lem l rest)

pub marks_stored : (words : List ℕ) (n end : ℕ) (r : Recorded words n end) → marks_in n words ≡ r.marks
unfolding over
marks_stored words n end r = rw (r.count, r.stored) (marks_in_lem r.marks (drop (length (flat r.marks)) r.old))

-- a level for each clock
held_length : (at v : ℕ) (l : List Mark) (end : ℕ) → Ordered at l end → length (held_levels at v l end) ≡ end - at
unfolding held_levels Ordered
held_length at v [] end h = length-replicate (end - at) v
held_length at v (m ∷ l) end h =
    let rest = held_length (m.clock - 1) m.level l end (ordered_from (m.clock - 1) m.clock l end (omega arith) h.2) in
    let j = length-append (replicate (m.clock - 1 - at) v) (held_levels (m.clock - 1) m.level l end) in
    omega (arith, j, rest, length-replicate (m.clock - 1 - at) v, h.0, ordered_end m.clock l end h.2)

pub word_length : (v : ℕ) (words : List ℕ) (n end : ℕ) → Recorded words n end → length (word_levels v n words end) ≡ end
unfolding word_levels
word_length v words n end r =
    held_length 0 v (marks_in n words) end (rw (marks_stored words n end r) r.ordered) ∙ omega arith

-- WHERE THE RECORDS OF A RUN ARE HEARD up to record i: the level v stands from behind `from` clocks of the run on
pub record Going (pal : Bool) (rate : ℕ) (words : List ℕ) (n end : ℕ) (out₀ : List ℕ) (at₀ : ℕ) (a₀ : Sampler) (v₀ : ℕ) (out : List ℕ) (at : ℕ) (a : Sampler) (v from i : ℕ) : Type 0 where
  pub fit : Fit pal rate a (end - from)
  pub low : v ≤ 65535
  pub ordered : Ordered from (drop i (marks_in n words)) end
  pub ahead : Ahead pal rate out at a (held_levels from v (drop i (marks_in n words)) end) out₀ at₀ a₀ (word_levels v₀ n words end)

-- record i: what is held up to it may be written, and the records go on behind it
pub record Onward (pal : Bool) (rate : ℕ) (words : List ℕ) (n end : ℕ) (out₀ : List ℕ) (at₀ : ℕ) (a₀ : Sampler) (v₀ : ℕ) (out : List ℕ) (at : ℕ) (a : Sampler) (v from i x y : ℕ) : Type 0 where
  pub behind : from < x
  pub most : x ≤ end
  pub small : y ≤ 32767
  pub fit : Fit pal rate a (x - 1 - from)
  pub room : at + size_of pal rate a (replicate (x - 1 - from) v) ≤ length out
  pub on : (out' : List ℕ) (r : ℕ) (b : Sampler) → Writes pal rate out at a (replicate (x - 1 - from) v) out' r b
      → Going pal rate words n end out₀ at₀ a₀ v₀ out' r b y (x - 1) (i + 1)

-- behind the last one: what is held to the end
pub record Ending (pal : Bool) (rate : ℕ) (words : List ℕ) (n end : ℕ) (out₀ : List ℕ) (at₀ : ℕ) (a₀ : Sampler) (v₀ : ℕ) (out : List ℕ) (at : ℕ) (a : Sampler) (v from : ℕ) : Type 0 where
  pub most : from ≤ end
  pub fit : Fit pal rate a (end - from)
  pub room : at + size_of pal rate a (replicate (end - from) v) ≤ length out
  pub all : (out' : List ℕ) (r : ℕ) (b : Sampler) → Writes pal rate out at a (replicate (end - from) v) out' r b
      → Writes pal rate out₀ at₀ a₀ (word_levels v₀ n words end) out' r b

module _ (pal : Bool) (rate : ℕ) (words : List ℕ) (n end : ℕ) (rec : Recorded words n end) (out₀ : List ℕ) (at₀ : ℕ) (a₀ : Sampler) (v₀ : ℕ) where
  pub going_start : v₀ ≤ 65535 → Fit pal rate a₀ end → Going pal rate words n end out₀ at₀ a₀ v₀ out₀ at₀ a₀ v₀ 0 0
  unfolding word_levels
  going_start low fit =
      record {
        fit = fit_less pal rate a₀ end (end - 0) (omega arith) fit;
        low = low;
        ordered = rw (marks_stored words n end rec) rec.ordered;
        ahead = ahead_start pal rate out₀ at₀ a₀ (held_levels 0 v₀ (marks_in n words) end);
      }

  module _ (out : List ℕ) (at : ℕ) (a : Sampler) (v from i : ℕ) (room : at₀ + size_of pal rate a₀ (word_levels v₀ n words end) ≤ length out₀) (g : Going pal rate words n end out₀ at₀ a₀ v₀ out at a v from i) where
    pub going_on : i < n → Onward pal rate words n end out₀ at₀ a₀ v₀ out at a v from i (get_or words (2 * i) 0) (get_or words (2 * i + 1) 0)
    going_on h =
        let m = marks_stored words n end rec in
        let x = get_or words (2 * i) 0 in
        let y = get_or words (2 * i + 1) 0 in
        let s : Stood from v (drop i rec.marks) end x y (drop (i + 1) rec.marks) =
        stood rec.marks rec.old words rec.stored from v end i (omega (arith, rec.count)) (rw m at g.ordered) in
        let piece = replicate (x - 1 - from) v in
        let rest = held_levels (x - 1) y (drop (i + 1) (marks_in n words)) end in
        let e : held_levels from v (drop i (marks_in n words)) end ≡ piece ++ rest = rw m s.levels in
        let j = ap (size_of pal rate a) e ∙ size_join pal rate a piece rest in
        let long : length piece ≡ x - 1 - from = length-replicate (x - 1 - from) v in
        record {
          behind = s.behind;
          most = s.most;
          small = s.low;
          fit = fit_less pal rate a (end - from) (x - 1 - from) (omega (arith, s.most)) g.fit;
          room = omega (arith, j, g.ahead.room, g.ahead.size, room);
          on = λ out' r b w.
              record {
                fit =
                    fit_on pal rate a b (end - from) (end - (x - 1)) piece (replicate_most (x - 1 - from) v g.low) (omega (arith, s.most, s.behind, long)) w.sampler
                    g.fit;
                low = omega (arith, s.low);
                ordered = rw m s.ordered;
                ahead = ahead_on pal rate out at a _ out₀ at₀ a₀ _ out' r b piece rest e w g.ahead;
              };
        }

    pub going_end : n ≤ i → Ending pal rate words n end out₀ at₀ a₀ v₀ out at a v from
    going_end h =
        let m = marks_stored words n end rec in
        let e : held_levels from v (drop i (marks_in n words)) end ≡ replicate (end - from) v =
        rw m (stood_all rec.marks rec.old words rec.stored from v end i (omega (arith, rec.count))) in
        let j = ap (size_of pal rate a) e in
        record {
          most = ordered_end from (drop i (marks_in n words)) end g.ordered;
          fit = g.fit;
          room = omega (arith, j, g.ahead.room, g.ahead.size, room);
          all = λ out' r b w. ahead_end pal rate out at a _ out₀ at₀ a₀ _ out' r b (replicate (end - from) v) e w g.ahead;
        }

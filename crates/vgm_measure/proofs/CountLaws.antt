-- The sum, step by step: what is left makes the whole. Assumes nothing.
use Prim.Native.Nat.{ℕ, ◌+◌, ◌-◌, ◌<◌}
use mathlib.Core.Path.{◌≡◌, refl, sym, ap, ap₂, ◌∙◌}
use mathlib.Core.Bool.{Bool, true, false}
use mathlib.Core.List.{List, ◌∷◌, ◌++◌}
use native.Mathlib.Nat.{zero-add}
use native.Mathlib.Omega.{arith}
use lib.Dec.{ltb}
use borrow.Author.Tests.{ltb-true, lt-ltb}
use lib.ListN.{length, get_or, drop, length-append}
use Rattle.arith.specs.Pick.{pick, either}
use Rattle.bus.specs.declared.Access.TheVariants.{Write as Written}
use Rattle.log_line.specs.declared.Act.TheVariants.{Access}
use Rattle.log_line.specs.declared.Line.TheVariants.{One, Stop}
use Rattle.log_line.specs.Printed.{line_text, ended as fed}
use Rattle.log_rules.specs.Head.{head_text}
use Rattle.log_rules.specs.Tree.{act, turns, text, log_text}
use Rattle.log_writer.proofs.PieceLaws.{write_long}
use Rattle.vgm_stream.specs.declared.Await.{Await}
use Rattle.vgm_stream.specs.declared.Await.TheVariants.{Command}
use Rattle.vgm_stream.specs.declared.Said.{Said}
use Rattle.vgm_stream.specs.declared.Said.TheVariants.{Wait, Write}
use Rattle.vgm_stream.specs.declared.Step.{Step}
use Rattle.vgm_stream.specs.declared.Step.TheVariants.{End, Fault, Next, Says}
use Rattle.vgm_measure.specs.declared.Count.{Count}
use Rattle.vgm_measure.specs.declared.Sum.{Sum}
use Rattle.vgm_stream.specs.Stream.{Stream, ended, refused, more, after, stream_from, byte_step, stream_of}
use Rattle.vgm_measure.specs.Import.{stood, gap, acts_from, samples_in, clocks_for, tree_for, text_for}
use Rattle.vgm_stream.specs.Steps.{stops_at, stopped_at, awaited}
use Rattle.vgm_measure.specs.Measure.{gap_text, gap_turns, heavy_at, count_write, count_said, count_step, sum_refusal, sum_weighed, sum_answer, sum_of, sum_from}
use Rattle.vgm_stream.proofs.StreamLaws.{from_byte, after_stops}
use Rattle.vgm_measure.proofs.BoundLaws.{stood_more}
use Rattle.vgm_measure.proofs.GapLaws.{text_gap, turns_gap, text_act, turns_act}

module _ (pal : Bool) (k : Count) where
  -- over the totals once, over them at the end
  still_heavy : (l : List Said) → heavy_at pal k ≡ true
      → either (ltb 2000000000 (stood pal (k.samples + samples_in l))) (ltb 1000000 (k.turns + turns (acts_from pal k.samples k.clock l))) ≡ true
  unfolding heavy_at
  still_heavy l e = by (ltb 2000000000 (stood pal k.samples)) refl (ltb 1000000 k.turns) refl e
    where
      late : (a : Bool) → either a true ≡ true
      late true = refl
      late false = refl

      by : (a : Bool) → ltb 2000000000 (stood pal k.samples) ≡ a → (b : Bool) → ltb 1000000 k.turns ≡ b → either a b ≡ true
          → either (ltb 2000000000 (stood pal (k.samples + samples_in l))) (ltb 1000000 (k.turns + turns (acts_from pal k.samples k.clock l))) ≡ true
      by true ea b eb e =
          let h = ltb-true 2000000000 (stood pal k.samples) ea in
          let m = stood_more pal k.samples (samples_in l) in
          rw (lt-ltb 2000000000 (stood pal (k.samples + samples_in l)) (omega arith))
      by false ea true eb e =
          let h = ltb-true 1000000 k.turns eb in
          rw (lt-ltb 1000000 (k.turns + turns (acts_from pal k.samples k.clock l)) (omega arith)) (late (ltb 2000000000 (stood pal (k.samples + samples_in l))))
      by false ea false eb e = absurd (let z : ◌≡◌ {A = ℕ} 0 1 = cc in omega arith)

  heavy_nine : (l : List Said) → heavy_at pal k ≡ true → sum_from pal k (ended l) ≡ sum_refusal 9 0
  unfolding sum_from sum_weighed
  heavy_nine l e = rw (still_heavy l e)

  says_heavy : (s : Said) (x : Stream) → heavy_at pal k ≡ true → sum_from pal k (more s x) ≡ sum_from pal k x
  unfolding more sum_from
  says_heavy s (refused q p) e = refl
  says_heavy s (ended l) e = heavy_nine (s ∷ l) e ∙ sym (heavy_nine l e)

  says_light : (s : Said) (x : Stream) → sum_from pal k (more s x) ≡ sum_from pal (count_said pal k s) x
  unfolding more sum_from count_said count_write acts_from samples_in
  says_light (Wait n) (refused q p) = refl
  says_light (Write r v) (refused q p) = refl
  says_light (Wait n) (ended l) = let e : k.samples + (n + samples_in l) ≡ k.samples + n + samples_in l = omega arith in rw e
  says_light (Write r v) (ended l) =
      let g = stood pal k.samples - k.clock in
      let a = Access (Written r v) in
      let t = acts_from pal k.samples (stood pal k.samples) l in
      let e = length (line_text (Stop (stood pal (k.samples + samples_in l)))) in
      let p : k.turns + turns (gap g (act a t)) ≡ k.turns + gap_turns g + 1 + turns t = omega (arith, turns_gap g (act a t), turns_act a t) in
      let u : length (text (gap g (act a t))) ≡ length (gap_text g) + (14 + length (text t)) =
      ap length (text_gap g (act a t))
      ∙ (length-append (gap_text g) (text (act a t))
      ∙ ap (λ (x : ℕ). length (gap_text g) + x) (ap length (text_act a t) ∙ (length-append (line_text (One a)) (text t) ∙ ap (λ (x : ℕ). x + length (text t)) (write_long r v)))) in
      let q : k.length + length (text (gap g (act a t))) + e ≡ k.length + length (gap_text g) + 14 + length (text t) + e = omega arith in
      ap₂ (λ (x y : ℕ). sum_weighed (stood pal (k.samples + samples_in l)) x y) p q

  -- a step that goes on
  count_goes : (s : Step) (i : ℕ) (f : Await → Stream) → stops_at s ≡ false → sum_from pal k (after s i f) ≡ sum_from pal (count_step pal k s) (f (awaited s))
  unfolding after stops_at count_step awaited
  count_goes End i f e = absurd (let z : ◌≡◌ {A = ℕ} 0 1 = cc in omega arith)
  count_goes (Fault q) i f e = absurd (let z : ◌≡◌ {A = ℕ} 0 1 = cc in omega arith)
  count_goes (Next w) i f e = refl
  count_goes (Says s) i f e = by (heavy_at pal k) refl
    where
      by : (b : Bool) → heavy_at pal k ≡ b → sum_from pal k (more s (f Command)) ≡ sum_from pal (pick b k (count_said pal k s)) (f Command)
      by true h = says_heavy s (f Command) h
      by false h = says_light s (f Command)

pub head_long : (pal : Bool) → pick pal 18 6 ≡ length (head_text pal)
unfolding line_text fed
head_long true = refl
head_long false = refl

starts : (pal : Bool) (n : ℕ) → n ≡ length (head_text pal) → (x : Stream) → sum_from pal (record { samples = 0; clock = 0; turns = 0; length = n }) x ≡ sum_answer pal x
unfolding sum_from sum_answer clocks_for tree_for text_for log_text
starts pal n h (refused q p) = refl
starts pal n h (ended l) =
    let t = acts_from pal 0 0 l in
    let z = zero-add (samples_in l) in
    let y = zero-add (turns t) in
    let e : n + length (text t) + length (line_text (Stop (stood pal (samples_in l)))) ≡ length (head_text pal ++ (text t ++ line_text (Stop (stood pal (samples_in l))))) =
    sym (length-append (head_text pal) (text t ++ line_text (Stop (stood pal (samples_in l))))
    ∙ omega (arith, h, length-append (text t) (line_text (Stop (stood pal (samples_in l)))))) in
    rw (z, y, e)

-- the whole, from the head on
pub count_starts : (pal : Bool) (n : ℕ) → n ≡ length (head_text pal) → (s : List ℕ)
    → sum_from pal (record { samples = 0; clock = 0; turns = 0; length = n }) (stream_from Command 0 (drop 0 s)) ≡ sum_of pal s
unfolding sum_of stream_of
count_starts pal n h s = starts pal n h (stream_from Command 0 s)

-- the loop of `sum_of`
module _ (pal : Bool) (k : Count) (w : Await) (i : ℕ) (s : List ℕ) (h : i < length s) (st : Step) (e : st ≡ byte_step w (get_or s i 0))
    (inv : sum_from pal k (stream_from w i (drop i s)) ≡ sum_of pal s) where
  stepped : sum_from pal k (after st i (λ v. stream_from v (i + 1) (drop (i + 1) s))) ≡ sum_of pal s
  stepped =
      ap (λ (x : Step). sum_from pal k (after x i (λ v. stream_from v (i + 1) (drop (i + 1) s)))) e
      ∙ (ap (sum_from pal k) (sym (from_byte w i s h)) ∙ inv)

  pub sum_stops : stops_at st ≡ true → (r : Sum) → r ≡ sum_from pal k (stopped_at st i) → r ≡ sum_of pal s
  sum_stops t r f = f ∙ (ap (sum_from pal k) (sym (after_stops st i (λ v. stream_from v (i + 1) (drop (i + 1) s)) t)) ∙ stepped)

  pub sum_goes : stops_at st ≡ false → (k' : Count) → k' ≡ count_step pal k st → (w' : Await) → w' ≡ awaited st
      → sum_from pal k' (stream_from w' (i + 1) (drop (i + 1) s)) ≡ sum_of pal s
  sum_goes t k' ek w' ew = rw (ek, ew) (sym (count_goes pal k st i (λ v. stream_from v (i + 1) (drop (i + 1) s)) t) ∙ stepped)

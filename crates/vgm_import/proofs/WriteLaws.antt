-- The writing, step by step: what is left makes the whole log. Assumes nothing.
use Prim.Native.Nat.{ℕ, ◌+◌, ◌-◌, ◌≤◌, ◌<◌}
use mathlib.Core.Path.{◌≡◌, refl, sym, ap, ap₂, ◌∙◌}
use mathlib.Core.Bool.{Bool, true, false}
use mathlib.Core.List.{List, [], ◌∷◌, ◌++◌, append-nil, append_assoc}
use native.Mathlib.Nat.{zero-add, add-zero}
use native.Mathlib.Omega.{arith}
use lib.ListN.{length, get_or, drop, length-append}
use lib.Seq.{sets}
use Rattle.bus.specs.declared.Access.TheVariants.{Write as Written}
use Rattle.log_line.specs.declared.Act.TheVariants.{Access}
use Rattle.log_line.specs.declared.Line.TheVariants.{One, Stop}
use Rattle.log_line.specs.Printed.{line_text}
use Rattle.log_rules.specs.Head.{head_text}
use Rattle.log_rules.specs.Tree.{end, act, text, log_text}
use Rattle.text_print.specs.Printed.{placed, printed, Put}
use Rattle.text_print.proofs.StoreLaws.{sets_append, printed_in}
use Rattle.text_print.proofs.PieceLaws.{put_last, put_two, put_size}
use Rattle.vgm_stream.specs.declared.Await.{Await}
use Rattle.vgm_stream.specs.declared.Await.TheVariants.{Command}
use Rattle.vgm_stream.specs.declared.Said.{Said}
use Rattle.vgm_stream.specs.declared.Said.TheVariants.{Wait, Write}
use Rattle.vgm_stream.specs.declared.Step.{Step}
use Rattle.vgm_stream.specs.declared.Step.TheVariants.{End, Fault, Next, Says}
use Rattle.vgm_import.specs.declared.Pen.{Pen}
use Rattle.vgm_stream.specs.Stream.{Stream, ended, refused, more, after, stream_from, byte_step, stream_of}
use Rattle.vgm_measure.specs.Import.{stood, acts_from, samples_in, clocks_for, tree_for, text_for, text_of}
use Rattle.vgm_stream.specs.Steps.{stops_at, awaited}
use Rattle.vgm_measure.specs.Measure.{gap_text}
use Rattle.vgm_import.specs.Write.{tail_from, step_text, step_samples, step_clock, Penned, Penning, Ending, Ready, Headed, Writing, tail_of}
use Rattle.vgm_measure.proofs.BoundLaws.{stood_more, stood_few}
use Rattle.vgm_measure.proofs.GapLaws.{text_gap, text_act}
use Rattle.vgm_import.proofs.PenLaws.{front}
use Rattle.vgm_stream.proofs.StreamLaws.{from_byte, from_end}

-- THE END AND A WRITE, IN BYTES

-- the end of what is left
tail_end : (pal : Bool) (s h : ℕ) → tail_from pal s h [] ≡ gap_text (stood pal s - h) ++ line_text (Stop (stood pal s))
unfolding tail_from acts_from samples_in text
tail_end pal s h =
    ap₂ ◌++◌ (text_gap (stood pal s - h) end ∙ append-nil (gap_text (stood pal s - h))) (ap (λ (x : ℕ). line_text (Stop (stood pal x))) (add-zero s))

module _ (pal : Bool) (p : Pen) (out : List ℕ) (e : Ending pal p out) (c : ℕ) (ec : c ≡ stood pal p.samples) where
  end_room : p.place + length (gap_text (c - p.clock) ++ line_text (Stop c)) ≤ length out
  end_room = rw ec (rw (tail_end pal p.samples p.clock) at e.room)

  pub end_gap : p.place + length (gap_text (c - p.clock)) ≤ length out
  end_gap = omega (arith, end_room, length-append (gap_text (c - p.clock)) (line_text (Stop c)))

  pub end_written : (out' : List ℕ) (a : ℕ) → Put out p.place (gap_text (c - p.clock)) out' a → (out'' : List ℕ) → out'' ≡ printed out' a (line_text (Stop c))
      → out'' ≡ sets out p.place (tail_from pal p.samples p.clock [])
  end_written out' a q out'' b =
      let g = gap_text (c - p.clock) in
      let l = line_text (Stop c) in
      let i = q.place in
      let room : a + length l ≤ length out' = omega (arith, end_room, length-append g l, put_size q) in
      let two : out'' ≡ sets out p.place (g ++ l) = b ∙ (printed_in out' a l room ∙ rw (q.bytes, q.place) (sets_append g l out p.place)) in
      two ∙ rw (ec, tail_end pal p.samples p.clock) refl

module _ (pal : Bool) (p : Pen) (r v : ℕ) (out : List ℕ) (e : Penning pal p (Says (Write r v)) out) (c : ℕ) (ec : c ≡ stood pal p.samples) where
  write_room : p.place + length (gap_text (c - p.clock) ++ line_text (One (Access (Written r v)))) ≤ length out
  unfolding step_text
  write_room = rw ec e.room

  pub write_gap : p.place + length (gap_text (c - p.clock)) ≤ length out
  write_gap = omega (arith, write_room, length-append (gap_text (c - p.clock)) (line_text (One (Access (Written r v)))))

  pub write_penned : (out' : List ℕ) (a : ℕ) → Put out p.place (gap_text (c - p.clock)) out' a → (out'' : List ℕ) (b : ℕ)
      → b ≡ placed out' a (line_text (One (Access (Written r v)))) → out'' ≡ printed out' a (line_text (One (Access (Written r v))))
      → Penned pal out p (Says (Write r v)) out'' (record { samples = p.samples; clock = c; place = b })
  unfolding step_text step_samples step_clock
  write_penned out' a q out'' b eb eo =
      let g = gap_text (c - p.clock) in
      let l = line_text (One (Access (Written r v))) in
      let i = q.place in
      let room : a + length l ≤ length out' = omega (arith, write_room, length-append g l, put_size q) in
      let two = put_two out p.place g l out' a out'' b q (put_last out' a l out'' b room eb eo) in
      record { samples = refl; clock = ec; place = rw (← ec) two.place; bytes = rw (← ec) two.bytes }

-- WHAT A STEP TAKES FROM WHAT IS LEFT
record Going (pal : Bool) (s h : ℕ) (st : Step) (y : Stream) (said : List Said) : Type 0 where
  left : List Said
  is : y ≡ ended left
  tail : tail_from pal s h said ≡ step_text pal s h st ++ tail_from pal (step_samples s st) (step_clock pal s h st) left
  samples : s + samples_in said ≡ step_samples s st + samples_in left
  clock : step_clock pal s h st ≤ stood pal (step_samples s st)

tail_said : (pal : Bool) (s h : ℕ) (x : Said) (l : List Said) → tail_from pal s h (x ∷ l) ≡ step_text pal s h (Says x) ++ tail_from pal (step_samples s (Says x)) (step_clock pal s h (Says x)) l
unfolding tail_from step_text step_samples step_clock acts_from samples_in
tail_said pal s h (Wait n) l = let e : s + (n + samples_in l) ≡ s + n + samples_in l = omega arith in rw e
tail_said pal s h (Write r v) l =
    let g = stood pal s - h in
    let a = Access (Written r v) in
    let t = acts_from pal s (stood pal s) l in
    let z = line_text (Stop (stood pal (s + samples_in l))) in
    ap (λ (u : List ℕ). u ++ z) (text_gap g (act a t) ∙ ap (λ (u : List ℕ). gap_text g ++ u) (text_act a t))
    ∙ (append_assoc (gap_text g) (line_text (One a) ++ text t) z
    ∙ (ap (λ (u : List ℕ). gap_text g ++ u) (append_assoc (line_text (One a)) (text t) z)
    ∙ sym (append_assoc (gap_text g) (line_text (One a)) (text t ++ z))))

samples_said : (s : ℕ) (x : Said) (l : List Said) → s + samples_in (x ∷ l) ≡ step_samples s (Says x) + samples_in l
unfolding step_samples samples_in
samples_said s (Wait n) l = omega arith
samples_said s (Write r v) l = refl

clock_said : (pal : Bool) (s h : ℕ) (x : Said) → h ≤ stood pal s → step_clock pal s h (Says x) ≤ stood pal (step_samples s (Says x))
unfolding step_clock step_samples
clock_said pal s h (Wait n) k = omega (arith, stood_more pal s n)
clock_said pal s h (Write r v) k = omega arith

going_said : (pal : Bool) (s h : ℕ) (x : Said) (y : Stream) (said : List Said) → h ≤ stood pal s → more x y ≡ ended said → Going pal s h (Says x) y said
unfolding more
going_said pal s h x (refused q p) said k e = absurd (let z : ◌≡◌ {A = ℕ} 0 1 = cc in omega arith)
going_said pal s h x (ended l) said k e =
    let same : said ≡ x ∷ l = cc in
    record {
      left = l;
      is = refl;
      tail = rw same (tail_said pal s h x l);
      samples = rw same (samples_said s x l);
      clock = clock_said pal s h x k;
    }

going_next : (pal : Bool) (s h : ℕ) (w : Await) (y : Stream) (said : List Said) → h ≤ stood pal s → y ≡ ended said → Going pal s h (Next w) y said
unfolding step_text step_samples step_clock
going_next pal s h w y said k e = record { left = said; is = e; tail = refl; samples = refl; clock = k }

going : (pal : Bool) (s h : ℕ) (st : Step) (i : ℕ) (f : Await → Stream) (said : List Said) → stops_at st ≡ false → h ≤ stood pal s → after st i f ≡ ended said → Going pal s h st (f (awaited st)) said
unfolding stops_at after awaited
going pal s h End i f said t k e = absurd (let z : ◌≡◌ {A = ℕ} 0 1 = cc in omega arith)
going pal s h (Fault q) i f said t k e = absurd (let z : ◌≡◌ {A = ℕ} 0 1 = cc in omega arith)
going pal s h (Next w) i f said t k e = going_next pal s h w (f w) said k e
going pal s h (Says x) i f said t k e = going_said pal s h x (f Command) said k e

ending : (st : Step) (i : ℕ) (f : Await → Stream) (said : List Said) → stops_at st ≡ true → after st i f ≡ ended said → said ≡ []
unfolding stops_at after
ending End i f said t e = cc
ending (Fault q) i f said t e = absurd (let z : ◌≡◌ {A = ℕ} 0 1 = cc in omega arith)
ending (Next w) i f said t e = absurd (let z : ◌≡◌ {A = ℕ} 0 1 = cc in omega arith)
ending (Says x) i f said t e = absurd (let z : ◌≡◌ {A = ℕ} 0 1 = cc in omega arith)

-- THE LOOP OF `write_log`
module _ (pal : Bool) (all : List ℕ) (whole : ℕ) (p : Pen) (w : Await) (i : ℕ) (s out : List ℕ) (h : i < length s) (st : Step) (e : st ≡ byte_step w (get_or s i 0))
    (inv : Writing pal all whole p.samples p.clock p.place (stream_from w i (drop i s)) out) where
  abbrev behind : Await → Stream
  behind v = stream_from v (i + 1) (drop (i + 1) s)

  is_on_lem : after st i behind ≡ ended inv.said
  is_on_lem = ap (λ (x : Step). after x i behind) e ∙ (sym (from_byte w i s h) ∙ inv.is)

  module _ (t : stops_at st ≡ false) where
    goes : Going pal p.samples p.clock st (behind (awaited st)) inv.said
    goes = going pal p.samples p.clock st i behind inv.said t inv.clock is_on_lem

    abbrev now_text : List ℕ
    now_text = step_text pal p.samples p.clock st

    abbrev rest_text_lem : List ℕ
    rest_text_lem = tail_from pal (step_samples p.samples st) (step_clock pal p.samples p.clock st) goes.left

    fits_on : p.place + length (now_text ++ rest_text_lem) ≡ whole
    fits_on = rw (← goes.tail) inv.fits

    small_on : stood pal (step_samples p.samples st + samples_in goes.left) ≤ 2000000000
    small_on = rw (← goes.samples) inv.small

    pub write_penning : Penning pal p st out
    write_penning =
        let few = stood_few pal (step_samples p.samples st + samples_in goes.left) small_on in
        record {
          samples = omega arith;
          clock = inv.clock;
          room = omega (arith, fits_on, length-append now_text rest_text_lem, inv.room);
        }

    pub write_goes : (out' : List ℕ) (q : Pen) → Penned pal out p st out' q → (w' : Await) → w' ≡ awaited st
        → (length out' ≡ length out) × Writing pal all whole q.samples q.clock q.place (stream_from w' (i + 1) (drop (i + 1) s)) out'
    write_goes out' q n w' ew =
        let bytes_on : sets out p.place (now_text ++ rest_text_lem) ≡ all = rw (← goes.tail) inv.bytes in
        let f = front out p.place now_text rest_text_lem whole all fits_on bytes_on out' q.place n.place n.bytes in (
          f.0,
          rw (ew, n.samples, n.clock) (record {
            said = goes.left;
            is = goes.is;
            small = small_on;
            clock = goes.clock;
            fits = f.1;
            room = omega (arith, inv.room, f.0);
            bytes = f.2;
          }),
        )

  module _ (t : stops_at st ≡ true) where
    none : inv.said ≡ []
    none = ending st i behind inv.said t is_on_lem

    pub write_ending : Ending pal p out
    write_ending =
        let few = stood_few pal (p.samples + samples_in inv.said) inv.small in
        record {
          samples = omega arith;
          clock = inv.clock;
          room = rw (← none) (omega (arith, inv.fits, inv.room));
        }

    pub write_ends : (out' : List ℕ) → out' ≡ sets out p.place (tail_from pal p.samples p.clock []) → out' ≡ all
    write_ends out' b = b ∙ rw (← none) inv.bytes

-- a stream that ends is not at its end without it
pub never_out : (pal : Bool) (all : List ℕ) (whole s h place : ℕ) (w : Await) (i : ℕ) (bytes out : List ℕ) → length bytes ≤ i → Writing pal all whole s h place (stream_from w i (drop i bytes)) out → ⊥
never_out pal all whole s h place w i bytes out k inv =
    let a = sym (from_end w i bytes k) ∙ inv.is in
    let z : ◌≡◌ {A = ℕ} 0 1 = cc in
    omega arith

-- THE HEAD, AND WHAT IS LEFT BEHIND IT
whole_text : (pal : Bool) (l : List Said) → text_for pal l ≡ head_text pal ++ tail_from pal 0 0 l
unfolding text_for log_text tree_for clocks_for tail_from
whole_text pal l = let z = zero-add (samples_in l) in rw z

text_ended : (pal : Bool) (l : List Said) → text_of pal (ended l) ≡ text_for pal l
unfolding text_of
text_ended pal l = refl

module _ (pal : Bool) (s out : List ℕ) (r : Ready pal (stream_of s) out) where
  tail_is : tail_of pal (stream_of s) ≡ tail_from pal 0 0 r.said
  unfolding tail_of
  tail_is = ap (tail_of pal) r.is

  text_is : text_of pal (stream_of s) ≡ head_text pal ++ tail_of pal (stream_of s)
  text_is = ap (text_of pal) r.is ∙ (text_ended pal r.said ∙ (whole_text pal r.said ∙ ap (λ (t : List ℕ). head_text pal ++ t) (sym tail_is)))

  pub head_room : length (head_text pal) ≤ length out
  head_room = omega (arith, r.fits, ap length text_is, length-append (head_text pal) (tail_of pal (stream_of s)))

  module _ (out' : List ℕ) (first : ℕ) (q : Put out 0 (head_text pal) out' first) where
    pub write_headed : Headed pal (stream_of s) first out'
    write_headed =
        let p = q.place in
        record {
          said = r.said;
          is = r.is;
          small = r.small;
          fits = omega (arith, r.fits, ap length text_is, length-append (head_text pal) (tail_of pal (stream_of s)), put_size q);
        }

    pub write_whole : (out'' : List ℕ) → out'' ≡ sets out' first (tail_of pal (stream_of s)) → out'' ≡ sets out 0 (text_of pal (stream_of s))
    write_whole out'' e =
        let z : first ≡ 0 + length (head_text pal) = q.place in
        e ∙ (rw (q.bytes, z, text_is) (sets_append (head_text pal) (tail_of pal (stream_of s)) out 0))

pub write_starts : (pal : Bool) (s out : List ℕ) (first : ℕ) → Headed pal (stream_of s) first out
    → Writing pal (sets out first (tail_of pal (stream_of s))) (first + length (tail_of pal (stream_of s))) 0 0 first (stream_from Command 0 (drop 0 s)) out
unfolding stream_of tail_of
write_starts pal s out first h =
    let t : tail_of pal (stream_from Command 0 s) ≡ tail_from pal 0 0 h.said = ap (tail_of pal) h.is in
    record {
      said = h.said;
      is = h.is;
      small = rw (zero-add (samples_in h.said)) h.small;
      clock = omega arith;
      fits = ap (λ (x : List ℕ). first + length x) (sym t);
      room = h.fits;
      bytes = ap (sets out first) (sym t);
    }

-- Number 0: the stream ends, within the totals, and the buffer holds its log. Assumes nothing.
use Prim.Native.Nat.{ℕ}
use mathlib.Core.Path.{◌≡◌, refl}
use mathlib.Core.Bool.{Bool}
use mathlib.Core.List.{List}
use borrow.Author.Tests.{eq-eqb, ne_eqb}
use lib.ListN.{length}
use lib.Seq.{sets}
use Rattle.vgm_stream.specs.declared.Said.{Said}
use Rattle.vgm_stream.specs.Stream.{ended, stream_of}
use Rattle.vgm_measure.specs.Import.{stood, samples_in, clocks_for, text_for, text_of, import_for, buffer_for}
use Rattle.vgm_measure.proofs.AnswerLaws.{imports}
use Rattle.vgm_import.specs.Write.{Ready}

text_ended : (pal : Bool) (l : List Said) → text_of pal (ended l) ≡ text_for pal l
unfolding text_of
text_ended pal l = refl

clocks_said : (pal : Bool) (l : List Said) → clocks_for pal l ≡ stood pal (samples_in l)
unfolding clocks_for
clocks_said pal l = refl

pub ready : (pal : Bool) (s out : List ℕ) → (import_for pal s (length out)).number ≡ 0 → Ready pal (stream_of s) out
ready pal s out h =
    let i = imports pal s (length out) h in
    let w = i.weight in
    record {
      said = i.said;
      is = i.is;
      small = rw (clocks_said pal i.said) at w.clocks;
      fits = rw (i.is, text_ended pal i.said) w.fits;
    }

pub buffer_written : (pal : Bool) (s out : List ℕ) (out' : List ℕ) → (import_for pal s (length out)).number ≡ 0 → out' ≡ sets out 0 (text_of pal (stream_of s)) → out' ≡ buffer_for pal s out
unfolding buffer_for
buffer_written pal s out out' h e = rw (eq-eqb (import_for pal s (length out)).number 0 h) e

pub buffer_kept : (pal : Bool) (s out : List ℕ) → ((import_for pal s (length out)).number ≡ 0 → ⊥) → out ≡ buffer_for pal s out
unfolding buffer_for
buffer_kept pal s out h = rw (ne_eqb (import_for pal s (length out)).number 0 h)

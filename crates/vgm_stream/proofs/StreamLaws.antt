-- A stream from a place on: a byte more, none more, a step that stops. Assumes nothing.
use Prim.Native.Nat.{ℕ, ◌+◌, ◌≤◌, ◌<◌}
use mathlib.Core.Path.{◌≡◌, refl, sym, ap, ◌∙◌}
use mathlib.Core.Bool.{true}
use mathlib.Core.List.{List, ◌∷◌}
use native.Mathlib.Numerals.{add-one}
use native.Mathlib.Omega.{arith}
use lib.ListN.{length, get_or, drop, drop_of_length-le}
use lib.Seq.{drop-cons}
use Rattle.vgm_stream.specs.declared.Await.{Await}
use Rattle.vgm_stream.specs.declared.Step.{Step}
use Rattle.vgm_stream.specs.declared.Step.TheVariants.{End, Fault, Next, Says}
use Rattle.vgm_stream.specs.Stream.{Stream, refused, after, stream_from, byte_step}
use Rattle.vgm_stream.specs.Steps.{stops_at, stopped_at}

-- a byte more
pub from_byte : (w : Await) (i : ℕ) (s : List ℕ) → i < length s
    → stream_from w i (drop i s) ≡ after (byte_step w (get_or s i 0)) i (λ v. stream_from v (i + 1) (drop (i + 1) s))
unfolding stream_from
from_byte w i s h = ap (stream_from w i) (drop-cons s i 0 h ∙ ap (λ (n : ℕ). get_or s i 0 ∷ drop n s) (sym (add-one i)))

-- none more
pub from_end : (w : Await) (i : ℕ) (s : List ℕ) → length s ≤ i → stream_from w i (drop i s) ≡ refused 27 i
unfolding stream_from
from_end w i s h = rw (drop_of_length-le s h)

-- a step that stops
pub after_stops : (s : Step) (i : ℕ) (f : Await → Stream) → stops_at s ≡ true → after s i f ≡ stopped_at s i
unfolding after stops_at stopped_at
after_stops End i f e = refl
after_stops (Fault k) i f e = refl
after_stops (Next w) i f e = absurd (let z : ◌≡◌ {A = ℕ} 0 1 = cc in omega arith)
after_stops (Says s) i f e = absurd (let z : ◌≡◌ {A = ℕ} 0 1 = cc in omega arith)

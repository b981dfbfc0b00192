-- The stream of a file, command by command. Assumes nothing.
use Prim.Native.Nat.{ℕ, ◌+◌, ◌≤◌}
use mathlib.Core.Path.{◌≡◌, refl, sym, ap, ◌∙◌}
use mathlib.Core.List.{List, [], ◌∷◌}
use native.Mathlib.Nat.{add-zero}
use native.Mathlib.Omega.{arith}
use lib.ListN.{length, drop}
use lib.Seq.{drop-drop}
use Rattle.vgm_stream.specs.declared.Await.{Await}
use Rattle.vgm_stream.specs.declared.Await.TheVariants.{Command}
use Rattle.vgm_stream.specs.declared.Said.{Said}
use Rattle.vgm_stream.specs.declared.Step.{Step}
use Rattle.vgm_stream.specs.declared.Step.TheVariants.{End, Fault, Next, Says}
use Rattle.vgm_stream.specs.Stream.{Stream, ended, refused, more, after, stream_from, byte_step, stream_of}
use Rattle.std.specs.Prelude.{Ok, Err, None, Some}
use Rattle.vgm_cursor.specs.Walking.{Read, command_by, command_from, command_at}

-- THE FIRST COMMAND, AND THE STREAM BEHIND IT

-- a stream by its first command
unfoldable pub stream_by : List ℕ → Read → Stream
stream_by file (Ok None) = ended []
stream_by file (Err x) = refused x.number x.place
stream_by file (Ok (Some (s, p))) = more s (stream_from Command p (drop p file))

by_byte : (file : List ℕ) (st : Step) (at : ℕ) (f : Await → Stream) (g : Await → Read) → ((v : Await) → f v ≡ stream_by file (g v))
    → f Command ≡ stream_from Command (at + 1) (drop (at + 1) file) → after st at f ≡ stream_by file (command_by st at g)
unfolding after command_by stream_by
by_byte file End at f g e c = refl
by_byte file (Fault k) at f g e c = refl
by_byte file (Next w) at f g e c = e w
by_byte file (Says s) at f g e c = ap (more s) c

by_first : (file l : List ℕ) (w : Await) (at : ℕ) → drop at file ≡ l → stream_from w at l ≡ stream_by file (command_from w at l)
unfolding stream_from command_from stream_by
by_first file [] w at e = refl
by_first file (b ∷ l) w at e =
    let d : drop (at + 1) file ≡ l = sym (drop-drop 1 at file) ∙ ap (drop 1) e in
    by_byte file (byte_step w b) at (λ v. stream_from v (at + 1) l) (λ v. command_from v (at + 1) l) (λ v. by_first file l v (at + 1) d) (ap (stream_from Command (at + 1)) (sym d))

-- ONE COMMAND READ AT A TIME IS THE STREAM
pub command_first : (file : List ℕ) (at : ℕ) → stream_from Command at (drop at file) ≡ stream_by file (command_at file at)
unfolding command_at
command_first file at = by_first file (drop at file) Command at refl

-- A STREAM THAT ENDS

more_none : (s : Said) (x : Stream) → more s x ≡ ended [] → ⊥
unfolding more
more_none s (ended l) e = let z : ◌≡◌ {A = ℕ} 0 1 = cc in omega arith
more_none s (refused k p) e = let z : ◌≡◌ {A = ℕ} 0 1 = cc in omega arith

-- at its end
at_end : (file : List ℕ) (r : Read) → stream_by file r ≡ ended [] → r ≡ (Ok None)
unfolding stream_by
at_end file (Ok None) e = refl
at_end file (Err x) e = let z : ◌≡◌ {A = ℕ} 0 1 = cc in absurd (omega arith)
at_end file (Ok (Some (s, p))) e = absurd (more_none s (stream_from Command p (drop p file)) e)

pub command_ends : (file : List ℕ) (at : ℕ) → stream_from Command at (drop at file) ≡ ended [] → command_at file at ≡ (Ok None)
command_ends file at e = at_end file (command_at file at) (sym (command_first file at) ∙ e)

-- at a command that says s, where l is behind it
pub record Saying (file : List ℕ) (r : Read) (s : Said) (l : List Said) : Type 0 where
  pub place : ℕ
  pub is : r ≡ Ok (Some (s, place))
  pub behind : stream_from Command place (drop place file) ≡ ended l

more_said : (file : List ℕ) (t s : Said) (p : ℕ) (l : List Said) (x : Stream) → stream_from Command p (drop p file) ≡ x → more t x ≡ ended (s ∷ l) → Saying file (Ok (Some (t, p))) s l
unfolding more
more_said file t s p l (ended m) q e = record { place = p; is = cc; behind = cc }
more_said file t s p l (refused k n) q e = let z : ◌≡◌ {A = ℕ} 0 1 = cc in absurd (omega arith)

at_command : (file : List ℕ) (r : Read) (s : Said) (l : List Said) → stream_by file r ≡ ended (s ∷ l) → Saying file r s l
unfolding stream_by
at_command file (Ok None) s l e = let z : ◌≡◌ {A = ℕ} 0 1 = cc in absurd (omega arith)
at_command file (Err x) s l e = let z : ◌≡◌ {A = ℕ} 0 1 = cc in absurd (omega arith)
at_command file (Ok (Some (t, p))) s l e = more_said file t s p l (stream_from Command p (drop p file)) refl e

pub command_says : (file : List ℕ) (at : ℕ) (s : Said) (l : List Said) → stream_from Command at (drop at file) ≡ ended (s ∷ l) → Saying file (command_at file at) s l
command_says file at s l e = at_command file (command_at file at) s l (sym (command_first file at) ∙ e)

-- PLACES AND COUNTS

-- a stream whose places count from further back
unfoldable shifted : ℕ → Stream → Stream
shifted n (ended l) = ended l
shifted n (refused k p) = refused k (n + p)

shifted_more : (n : ℕ) (s : Said) (x : Stream) → shifted n (more s x) ≡ more s (shifted n x)
unfolding shifted more
shifted_more n s (ended l) = refl
shifted_more n s (refused k p) = refl

shifted_byte : (n : ℕ) (st : Step) (at : ℕ) (f g : Await → Stream) → ((v : Await) → g v ≡ shifted n (f v)) → after st (n + at) g ≡ shifted n (after st at f)
unfolding after shifted
shifted_byte n End at f g e = refl
shifted_byte n (Fault k) at f g e = refl
shifted_byte n (Next w) at f g e = e w
shifted_byte n (Says s) at f g e = ap (more s) (e Command) ∙ sym (shifted_more n s (f Command))

from_shifted : (n : ℕ) (l : List ℕ) (w : Await) (at : ℕ) → stream_from w (n + at) l ≡ shifted n (stream_from w at l)
unfolding stream_from shifted
from_shifted n [] w at = refl
from_shifted n (b ∷ l) w at =
    shifted_byte n (byte_step w b) at (λ v. stream_from v (at + 1) l) (λ v. stream_from v (n + at + 1) l)
    (λ v. (let e : n + at + 1 ≡ n + (at + 1) = omega arith in rw e (from_shifted n l v (at + 1))))

-- the stream that begins at a place of a file
pub from_place : (file : List ℕ) (at : ℕ) (l : List Said) → stream_of (drop at file) ≡ ended l → stream_from Command at (drop at file) ≡ ended l
unfolding stream_of shifted
from_place file at l e =
    ap (λ (i : ℕ). stream_from Command i (drop at file)) (sym (add-zero at)) ∙ (from_shifted at (drop at file) Command 0 ∙ ap (shifted at) e)

-- a command is a byte at least
abbrev Few : ℕ → Stream → Type 0
Few n (ended m) = length m ≤ n
Few n (refused k p) = Unit {0}

few_more : (n : ℕ) (s : Said) (x : Stream) → Few n x → Few (n + 1) (more s x)
unfolding more
few_more n s (ended m) h = omega arith
few_more n s (refused k p) h = tt

few_wider : (n : ℕ) (x : Stream) → Few n x → Few (n + 1) x
few_wider n (ended m) h = omega arith
few_wider n (refused k p) h = tt

few_byte : (n : ℕ) (st : Step) (at : ℕ) (f : Await → Stream) → ((v : Await) → Few n (f v)) → Few (n + 1) (after st at f)
unfolding after
few_byte n End at f h = omega arith
few_byte n (Fault k) at f h = tt
few_byte n (Next w) at f h = few_wider n (f w) (h w)
few_byte n (Says s) at f h = few_more n s (f Command) (h Command)

few_from : (l : List ℕ) (w : Await) (at : ℕ) → Few (length l) (stream_from w at l)
unfolding stream_from
few_from [] w at = tt
few_from (b ∷ l) w at = (let e : length (b ∷ l) ≡ length l + 1 = omega arith in rw e (few_byte (length l) (byte_step w b) at (λ v. stream_from v (at + 1) l) (λ v. few_from l v (at + 1))))

pub few_commands : (l : List ℕ) (at : ℕ) (m : List Said) → stream_from Command at l ≡ ended m → length m ≤ length l
few_commands l at m e = let h : Few (length l) (ended m) = rw e at (few_from l Command at) in h

-- a command leads onward
abbrev pub Onward : ℕ → Read → Type 0
Onward at (Ok None) = Unit {0}
Onward at (Err x) = Unit {0}
Onward at (Ok (Some (s, p))) = at ≤ p

onward_wider : (at : ℕ) (r : Read) → Onward (at + 1) r → Onward at r
onward_wider at (Ok None) h = tt
onward_wider at (Err x) h = tt
onward_wider at (Ok (Some (s, p))) h = omega arith

onward_byte : (st : Step) (at : ℕ) (f : Await → Read) → ((v : Await) → Onward (at + 1) (f v)) → Onward at (command_by st at f)
unfolding command_by
onward_byte End at f h = tt
onward_byte (Fault k) at f h = tt
onward_byte (Next w) at f h = onward_wider at (f w) (h w)
onward_byte (Says s) at f h = omega arith

onward_from : (l : List ℕ) (w : Await) (at : ℕ) → Onward at (command_from w at l)
unfolding command_from
onward_from [] w at = tt
onward_from (b ∷ l) w at = onward_byte (byte_step w b) at (λ v. command_from v (at + 1) l) (λ v. onward_from l v (at + 1))

pub command_onward : (file : List ℕ) (at : ℕ) → Onward at (command_at file at)
unfolding command_at
command_onward file at = onward_from (drop at file) Command at

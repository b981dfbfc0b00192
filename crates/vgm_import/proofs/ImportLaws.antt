-- What an import with number 0 is, and what does not matter. Assumes nothing.
use Prim.Native.Nat.{ℕ, ◌+◌, ◌≤◌}
use mathlib.Core.Path.{◌≡◌, refl, sym, ap, ◌∙◌}
use mathlib.Core.Bool.{Bool, true}
use mathlib.Core.List.{List, [], ◌∷◌, ◌++◌}
use native.Mathlib.Nat.{zero-add}
use native.Mathlib.Omega.{arith}
use lib.Dec.{eqb, leb}
use lib.ListN.{length}
use Rattle.arith.specs.Pick.{both}
use Rattle.arith.proofs.PickLaws.{pick_both, pick_each}
use Rattle.bus.specs.Register.{is_register}
use Rattle.log_rules.specs.Tree.{Tree, acts, clocks, log_text, Within}
use Rattle.log_passing.proofs.Passing.{printed}
use Rattle.vgm_stream.specs.declared.Await.{Await}
use Rattle.vgm_stream.specs.declared.Await.TheVariants.{Command, Register, Value, Low, High}
use Rattle.vgm_stream.specs.declared.Said.{Said}
use Rattle.vgm_stream.specs.declared.Said.TheVariants.{Wait, Write}
use Rattle.vgm_stream.specs.declared.Step.{Step}
use Rattle.vgm_stream.specs.declared.Step.TheVariants.{End, Fault, Next, Says}
use Rattle.vgm_stream.specs.Stream.{Stream, ended, refused, more, after, stream_from, byte_step, command_of, register_of, stream_of}
use Rattle.vgm_measure.specs.Import.{stood, samples_in, acts_from, tree_for, clocks_for, text_for, text_of, import_for, buffer_for}
use Rattle.vgm_import.specs.Stamps.{stamped, writes_from, Stands}
use Rattle.vgm_measure.proofs.AnswerLaws.{imports}
use Rattle.vgm_import.proofs.StandLaws.{Sound, within_from, clocks_from, stamped_from}

-- numbers that are bytes
abbrev pub Bytes : List ℕ → Type 0
Bytes [] = Unit {0}
Bytes (b ∷ l) = (b ≤ 255) × Bytes l

-- WHAT IS SAID IS SOUND

abbrev AwaitSound : Await → Type 0
AwaitSound Command = Unit {0}
AwaitSound Register = Unit {0}
AwaitSound (Value r) = is_register (0x4000 + r) ≡ true
AwaitSound Low = Unit {0}
AwaitSound (High n) = Unit {0}

abbrev SaidSound : Said → Type 0
SaidSound (Wait n) = Unit {0}
SaidSound (Write r v) = (is_register r ≡ true) × (v ≤ 255)

abbrev StepSound : Step → Type 0
StepSound End = Unit {0}
StepSound (Fault k) = Unit {0}
StepSound (Next w) = AwaitSound w
StepSound (Says s) = SaidSound s

abbrev StreamSound : Stream → Type 0
StreamSound (ended l) = Sound l
StreamSound (refused k p) = Unit {0}

step_sound : (w : Await) (b : ℕ) → AwaitSound w → b ≤ 255 → StepSound (byte_step w b)
unfolding byte_step command_of register_of
step_sound Command b h k =
    pick_both StepSound (eqb b 0xb4) tt
    (pick_both StepSound (eqb b 0x61) tt
    (pick_both StepSound (eqb b 0x62) tt
    (pick_both StepSound (eqb b 0x63) tt
    (pick_both StepSound (both (leb 0x70 b) (leb b 0x7f)) tt
    (pick_both StepSound (eqb b 0x66) tt tt)))))
step_sound Register b h k = pick_each StepSound (is_register (0x4000 + b)) (λ e. e) (λ e. tt)
step_sound (Value r) b h k = (h, k)
step_sound Low b h k = tt
step_sound (High n) b h k = tt

more_sound : (s : Said) (x : Stream) → SaidSound s → StreamSound x → StreamSound (more s x)
unfolding more
more_sound (Wait n) (ended l) h g = g
more_sound (Write r v) (ended l) h g = (h, g)
more_sound s (refused k p) h g = tt

after_sound : (st : Step) (at : ℕ) (f : Await → Stream) → StepSound st → ((v : Await) → AwaitSound v → StreamSound (f v)) → StreamSound (after st at f)
unfolding after
after_sound End at f h g = tt
after_sound (Fault k) at f h g = tt
after_sound (Next w) at f h g = g w h
after_sound (Says s) at f h g = more_sound s (f Command) h (g Command tt)

from_sound : (l : List ℕ) (w : Await) (at : ℕ) → Bytes l → AwaitSound w → StreamSound (stream_from w at l)
unfolding stream_from
from_sound [] w at b h = tt
from_sound (x ∷ l) w at b h = after_sound (byte_step w x) at (λ v. stream_from v (at + 1) l) (step_sound w x h b.0) (λ v a. from_sound l v (at + 1) b.1 a)

pub said_sound : (s : List ℕ) → Bytes s → (l : List Said) → stream_of s ≡ ended l → Sound l
unfolding stream_of
said_sound s b l e = rw e at (from_sound s Command 0 b tt)

-- THE TREE OF WHAT IS SAID
pub tree_clocks : (pal : Bool) (l : List Said) → clocks (tree_for pal l) ≡ clocks_for pal l
unfolding tree_for clocks_for
tree_clocks pal l =
    let e = clocks_from pal l 0 0 (omega arith) in
    let z = zero-add (samples_in l) in
    sym (zero-add (clocks (acts_from pal 0 0 l))) ∙ (e ∙ ap (stood pal) z)

pub tree_within : (pal : Bool) (l : List Said) → Sound l → Within (tree_for pal l) 0
unfolding tree_for
tree_within pal l q = within_from pal l 0 0 q

tree_stamped : (pal : Bool) (l : List Said) → stamped 0 (acts (tree_for pal l)) ≡ writes_from pal 0 l
unfolding tree_for
tree_stamped pal l = stamped_from pal l 0 0 (omega arith)

pub text_is : (pal : Bool) (l : List Said) → text_for pal l ≡ log_text pal (tree_for pal l) (clocks (tree_for pal l))
unfolding text_for
text_is pal l = ap (log_text pal (tree_for pal l)) (sym (tree_clocks pal l))

clocks_are : (pal : Bool) (l : List Said) → clocks_for pal l ≡ stood pal (samples_in l)
unfolding clocks_for
clocks_are pal l = refl

pub text_ended : (pal : Bool) (l : List Said) → text_of pal (ended l) ≡ text_for pal l
unfolding text_of
text_ended pal l = refl

-- NUMBER 0 IS FOR A LOG THAT PASSES AND STANDS FOR THE STREAM
pub imported_stands : (pal : Bool) (s : List ℕ) (room : ℕ) → Bytes s → (done : (import_for pal s room).number ≡ 0) → Stands pal s (text_of pal (stream_of s))
imported_stands pal s room b done =
    let i = imports pal s room done in
    let l = i.said in
    let w = i.weight in
    let t = tree_for pal l in
    let tc = tree_clocks pal l in
    let ti = text_is pal l in
    let p = printed pal t (tree_within pal l (said_sound s b l i.is)) (omega (arith, w.clocks)) w.turns (omega (arith, w.short, ap length ti)) in
    let same : text_of pal (stream_of s) ≡ log_text pal t (clocks t) = ap (text_of pal) i.is ∙ (text_ended pal l ∙ ti) in
    rw same (record {
      said = l;
      is = i.is;
      passes = ap (λ (c : _). c.number) p.0;
      machine = p.2;
      accesses = ap (λ (u : Tree). stamped 0 (acts u)) p.1 ∙ tree_stamped pal l;
      end = ap clocks p.1 ∙ (tc ∙ clocks_are pal l);
    })

-- "Bytes after $66 are not read": THEY DO NOT MATTER

more_ended : (s : Said) (x y : Stream) → ((l : List Said) → x ≡ ended l → y ≡ ended l) → (l : List Said) → more s x ≡ ended l → more s y ≡ ended l
unfolding more
more_ended s (ended k) y h l e = ap (more s) (h k refl) ∙ e
more_ended s (refused q p) y h l e = absurd (let z : ◌≡◌ {A = ℕ} 0 1 = cc in omega arith)

after_ended : (st : Step) (at : ℕ) (f g : Await → Stream) → ((v : Await) (l : List Said) → f v ≡ ended l → g v ≡ ended l) → (l : List Said) → after st at f ≡ ended l → after st at g ≡ ended l
unfolding after
after_ended End at f g h l e = e
after_ended (Fault k) at f g h l e = e
after_ended (Next w) at f g h l e = h w l e
after_ended (Says s) at f g h l e = more_ended s (f Command) (g Command) (h Command) l e

from_ended : (a b : List ℕ) (w : Await) (at : ℕ) (l : List Said) → stream_from w at a ≡ ended l → stream_from w at (a ++ b) ≡ ended l
unfolding stream_from
from_ended [] b w at l e = absurd (let z : ◌≡◌ {A = ℕ} 0 1 = cc in omega arith)
from_ended (x ∷ a) b w at l e = after_ended (byte_step w x) at (λ v. stream_from v (at + 1) a) (λ v. stream_from v (at + 1) (a ++ b)) (λ v k. from_ended a b v (at + 1) k) l e

pub not_read : (pal : Bool) (s behind : List ℕ) (l : List Said) → stream_of s ≡ ended l → (room : ℕ) → import_for pal (s ++ behind) room ≡ import_for pal s room
unfolding import_for stream_of
not_read pal s behind l e room = rw (from_ended s behind Command 0 l e, e) refl

pub not_read_text : (pal : Bool) (s behind : List ℕ) (l : List Said) → stream_of s ≡ ended l → text_of pal (stream_of (s ++ behind)) ≡ text_of pal (stream_of s)
unfolding stream_of
not_read_text pal s behind l e = rw (from_ended s behind Command 0 l e, e) refl

pub not_read_buffer : (pal : Bool) (s behind : List ℕ) (l : List Said) → stream_of s ≡ ended l → (out : List ℕ) → buffer_for pal (s ++ behind) out ≡ buffer_for pal s out
unfolding buffer_for
not_read_buffer pal s behind l e out = rw (not_read pal s behind l e (length out), not_read_text pal s behind l e) refl

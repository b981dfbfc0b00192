-- Numbers and places of the refusals. Assumes nothing.
use Prim.Native.Nat.{ℕ, ◌+◌, ◌≤◌, ◌<◌}
use mathlib.Core.Path.{◌≡◌, refl, sym}
use mathlib.Core.Bool.{Bool, true, false}
use mathlib.Core.List.{List, [], ◌∷◌}
use mathlib.Core.Logic.{◌⊎◌, inl, inr}
use native.Mathlib.Nat.{zero-add}
use native.Mathlib.Omega.{arith}
use lib.Dec.{eqb, ltb, leb}
use lib.ListN.{length}
use Rattle.arith.specs.Pick.{pick, both, either}
use Rattle.arith.proofs.PickLaws.{pick_both}
use Rattle.bus.specs.Register.{is_register}
use Rattle.log_rules.specs.Tree.{turns}
use Rattle.vgm_stream.specs.declared.Await.{Await}
use Rattle.vgm_stream.specs.declared.Await.TheVariants.{Command, Register, Value, Low, High}
use Rattle.vgm_measure.specs.declared.Imported.{Imported}
use Rattle.vgm_measure.specs.declared.Tally.{Tally}
use Rattle.vgm_stream.specs.declared.Said.{Said}
use Rattle.vgm_stream.specs.declared.Step.{Step}
use Rattle.vgm_stream.specs.declared.Step.TheVariants.{End, Fault, Next, Says}
use Rattle.vgm_stream.specs.Stream.{Stream, ended, refused, more, after, stream_from, byte_step, command_of, register_of, stream_of}
use Rattle.vgm_measure.specs.Import.{import_refusal, import_weighed, import_answer, clocks_for, tree_for, text_for, import_for, tally_weighed, tally_answer, tally_of}

-- "Refusals, at the first byte at fault: 25 unknown command, 26 register, 27 stream ends before $66 (at its length)"

abbrev StepFault : Step → Type 0
StepFault End = Unit {0}
StepFault (Fault k) = (k ≡ 25) ⊎ (k ≡ 26)
StepFault (Next w) = Unit {0}
StepFault (Says s) = Unit {0}

abbrev pub Refused : ℕ → Stream → Type 0
Refused size (ended l) = Unit {0}
Refused size (refused k p) = ((k ≡ 27) × (p ≡ size)) ⊎ (((k ≡ 25) ⊎ (k ≡ 26)) × (p < size))

step_fault : (w : Await) (b : ℕ) → StepFault (byte_step w b)
unfolding byte_step command_of register_of
step_fault Command b =
    pick_both StepFault (eqb b 0xb4) tt
    (pick_both StepFault (eqb b 0x61) tt
    (pick_both StepFault (eqb b 0x62) tt
    (pick_both StepFault (eqb b 0x63) tt
    (pick_both StepFault (both (leb 0x70 b) (leb b 0x7f)) tt
    (pick_both StepFault (eqb b 0x66) tt (inl refl))))))
step_fault Register b = pick_both StepFault (is_register (0x4000 + b)) tt (inr refl)
step_fault (Value r) b = tt
step_fault Low b = tt
step_fault (High n) b = tt

more_refused : (size : ℕ) (s : Said) (x : Stream) → Refused size x → Refused size (more s x)
unfolding more
more_refused size s (ended l) h = tt
more_refused size s (refused k p) h = h

after_refused : (size : ℕ) (st : Step) (at : ℕ) (f : Await → Stream) → at < size → StepFault st → ((v : Await) → Refused size (f v)) → Refused size (after st at f)
unfolding after
after_refused size End at f i h g = tt
after_refused size (Fault k) at f i h g = inr (h, i)
after_refused size (Next w) at f i h g = g w
after_refused size (Says s) at f i h g = more_refused size s (f Command) (g Command)

from_refused : (l : List ℕ) (w : Await) (at size : ℕ) → size ≡ at + length l → Refused size (stream_from w at l)
unfolding stream_from
from_refused [] w at size e = inl (refl, omega arith)
from_refused (b ∷ l) w at size e =
    after_refused size (byte_step w b) at (λ v. stream_from v (at + 1) l) (omega arith) (step_fault w b) (λ v. from_refused l v (at + 1) size (omega arith))

pub refused_place : (s : List ℕ) → Refused (length s) (stream_of s)
unfolding stream_of
refused_place s = from_refused s Command 0 (length s) (sym (zero-add (length s)))

-- of an answer: its place is in the stream or at its end, and its number is one of six

pub numbered : (size k p : ℕ) → Refused size (refused k p) → (0 < k) × (k ≤ 28) × (p ≤ size)
numbered size k p (inl h) = (omega (arith, h.0), omega (arith, h.0), omega (arith, h.1))
numbered size k p (inr (inl h, l)) = (omega arith, omega arith, omega arith)
numbered size k p (inr (inr h, l)) = (omega arith, omega arith, omega arith)

abbrev Answered : ℕ → Imported → Type 0
Answered size a = (a.number ≤ 28) × (a.place ≤ size)

answered : (pal : Bool) (room size : ℕ) (x : Stream) → Refused size x → Answered size (import_answer pal room x)
unfolding import_answer import_weighed
answered pal room size (refused k p) h = let n = numbered size k p h in (n.1, n.2)
answered pal room size (ended l) h =
    by (either (ltb 2000000000 (clocks_for pal l)) (ltb 1000000 (turns (tree_for pal l)))) (either (ltb room (length (text_for pal l))) (ltb 60000 (length (text_for pal l))))
  where
    by : (a b : Bool) → Answered size (pick a (import_refusal 9 0) (pick b (import_refusal 28 0) (record { number = 0; place = 0; length = length (text_for pal l) })))
    by true b = (omega arith, omega arith)
    by false true = (omega arith, omega arith)
    by false false = (omega arith, omega arith)

pub answer_limits : (pal : Bool) (s : List ℕ) (room : ℕ) → Answered (length s) (import_for pal s room)
unfolding import_for
answer_limits pal s room = answered pal room (length s) (stream_of s) (refused_place s)

-- of a tally too

abbrev Tallied : ℕ → Tally → Type 0
Tallied size a = (a.number ≤ 27) × (a.place ≤ size)

few : (size k p : ℕ) → Refused size (refused k p) → k ≤ 27
few size k p (inl h) = omega (arith, h.0)
few size k p (inr (inl h, l)) = omega arith
few size k p (inr (inr h, l)) = omega arith

tallied : (pal : Bool) (size : ℕ) (x : Stream) → Refused size x → Tallied size (tally_answer pal x)
unfolding tally_answer tally_weighed
tallied pal size (refused k p) h = (few size k p h, (numbered size k p h).2)
tallied pal size (ended l) h = pick_both (Tallied size) (either (ltb 2000000000 (clocks_for pal l)) (ltb 1000000 (turns (tree_for pal l)))) (omega arith, omega arith) (omega arith, omega arith)

pub tally_limits : (pal : Bool) (s : List ℕ) → Tallied (length s) (tally_of pal s)
unfolding tally_of
tally_limits pal s = tallied pal (length s) (stream_of s) (refused_place s)

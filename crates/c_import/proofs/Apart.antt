-- Each part of the number can be had again. Assumes nothing.
use Prim.Native.Nat.{ℕ, ◌/◌, ◌%◌, ◌^◌, ◌≤◌, ◌<◌}
use mathlib.Core.Path.{◌≡◌, refl, sym, ap, ◌∙◌}
use mathlib.Core.Bool.{Bool}
use mathlib.Core.List.{List}
use native.Mathlib.Omega.{arith}
use borrow.Author.Tests.{eq-eqb, ne_eqb, le-leb, lt-leb}
use lib.Dec.{eqb}
use lib.ListN.{length, take}
use Rattle.vgm_measure.specs.declared.Imported.{Imported}
use Rattle.vgm_stream.specs.declared.Said.{Said}
use Rattle.vgm_stream.specs.Stream.{ended, stream_of}
use Rattle.vgm_measure.specs.Import.{text_for, text_of, import_refusal, import_for, buffer_for}
use Rattle.vgm_import.specs.Stamps.{Stands}
use Rattle.vgm_measure.proofs.AnswerLaws.{imports}
use Rattle.vgm_import.proofs.BufferLaws.{length_is}
use Rattle.vgm_measure.proofs.FaultLaws.{answer_limits}
use Rattle.c_import.specs.Packed.{import_value, answer_packed, machine_answer, machine_buffer}

text_ended : (pal : Bool) (l : List Said) → text_of pal (ended l) ≡ text_for pal l
unfolding text_of
text_ended pal l = refl

-- a log that is written has 60,000 bytes at most
pub length_most : (pal : Bool) (s out : List ℕ) → (import_for pal s (length out)).number ≡ 0 → (import_for pal s (length out)).length ≤ 60000
length_most pal s out done =
    let i = imports pal s (length out) done in
    let w = i.weight.short in
    let e : length (text_of pal (stream_of s)) ≡ length (text_for pal i.said) = ap length (ap (text_of pal) i.is ∙ text_ended pal i.said) in
    let l = length_is pal s out done in
    omega arith

-- the value, by the number
pub value_done : (a : Imported) → a.number ≡ 0 → import_value a ≡ a.length
unfolding import_value
value_done a e = rw (eq-eqb a.number 0 e)

pub value_refused : (a : Imported) → (a.number ≡ 0 → ⊥) → import_value a ≡ a.place % 2 ^ 56
unfolding import_value
value_refused a e = rw (ne_eqb a.number 0 e)

module _ (pal : Bool) (s : List ℕ) (room : ℕ) where
  -- THE PARTS: the low 8 bits are the number, those above it the value
  pub apart : (answer_packed (import_for pal s room) % 2 ^ 8 ≡ (import_for pal s room).number) × (answer_packed (import_for pal s room) / 2 ^ 8 ≡ import_value (import_for pal s room))
  apart = let n = (answer_limits pal s room).0 in (omega arith, omega arith)

  -- of a stream shorter than 2^56 bytes the place is whole
  pub place_whole : length s < 2 ^ 56 → ((import_for pal s room).number ≡ 0 → ⊥) → answer_packed (import_for pal s room) / 2 ^ 8 ≡ (import_for pal s room).place
  place_whole h e =
      let p = (answer_limits pal s room).1 in
      let v = value_refused (import_for pal s room) e in
      apart.1 ∙ (v ∙ omega arith)

-- a number that says 0 says how long the log is
pub packed_stands : (pal : Bool) (s out out' : List ℕ) (a : Imported) → a ≡ import_for pal s (length out) → (a.number ≡ 0 → Stands pal s (take a.length out'))
    → (r : ℕ) → r ≡ answer_packed a → r % 2 ^ 8 ≡ 0 → Stands pal s (take (r / 2 ^ 8) out')
packed_stands pal s out out' a e h r f z =
    let p = apart pal s (length out) in
    let g : r ≡ answer_packed (import_for pal s (length out)) = f ∙ ap answer_packed e in
    let n : (import_for pal s (length out)).number ≡ 0 = sym p.0 ∙ (ap (λ (x : ℕ). x % 2 ^ 8) (sym g) ∙ z) in
    let l : r / 2 ^ 8 ≡ a.length = ap (λ (x : ℕ). x / 2 ^ 8) g ∙ (p.1 ∙ (value_done (import_for pal s (length out)) n ∙ sym (ap (λ (x : Imported). x.length) e))) in
    rw l (h (ap (λ (x : Imported). x.number) e ∙ n))

-- A MACHINE IS ONE OF THE TWO, or it is refused
module _ (m : ℕ) (s : List ℕ) where
  pub machine_answer_lem : m ≤ 1 → (room : ℕ) → machine_answer m s room ≡ import_for (eqb m 1) s room
  unfolding machine_answer
  machine_answer_lem h room = rw (le-leb m 1 h)

  pub machine_buffer_lem : m ≤ 1 → (out : List ℕ) → machine_buffer m s out ≡ buffer_for (eqb m 1) s out
  unfolding machine_buffer
  machine_buffer_lem h out = rw (le-leb m 1 h)

  pub neither_answer : 1 < m → (room : ℕ) → machine_answer m s room ≡ import_refusal 2 0
  unfolding machine_answer
  neither_answer h room = rw (lt-leb m 1 h)

  pub neither_buffer : 1 < m → (out : List ℕ) → machine_buffer m s out ≡ out
  unfolding machine_buffer
  neither_buffer h out = rw (lt-leb m 1 h)

  pub neither_packed : 1 < m → (room : ℕ) → answer_packed (machine_answer m s room) ≡ 2
  unfolding import_value
  neither_packed h room = rw (neither_answer h room)

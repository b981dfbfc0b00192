-- What `begin` answers says whether the changes stand behind the first line, or a refusal. Assumes nothing.
use mathlib.Core.Path.{◌≡◌, sym, ap, ◌∙◌}
use Prim.Native.Nat.{ℕ}
use mathlib.Core.Bool.{Bool, true, false}
use mathlib.Core.List.{List}
use borrow.Author.Tests.{eq-eqb, ne_eqb}
use Rattle.text_lines.specs.Lines.{refused_line}
use Rattle.program_io.specs.Writes.{Writes}
use Rattle.play_begin.specs.declared.Begun.{Begun}
use Rattle.play_begin.specs.Whole.{play_number, begun_of}
use Rattle.perch_interrupts.specs.Text.{head_text, interrupts_text}
use Rattle.lines_stdout.proofs.PourLaws.{writes_cut, writes_two}
use Rattle.interrupts_stdout.specs.Lines.{passed_text}
use Rattle.interrupts_stdout.proofs.write.Goals as goal

module _ (log memory : List ℕ) (b : Begun) (e : b ≡ begun_of log memory) where
  numbered : b.number ≡ play_number log memory
  unfolding begun_of
  numbered = ap (λ (x : Begun). x.number) e

  cut : (head : Bool) → head ≡ false → Writes head_text head → Writes (interrupts_text log memory) false
  unfolding interrupts_text
  cut head f w = writes_cut head_text _ (rw f at w)

  module _ (head all : Bool) (f : head ≡ true) (v : Writes head_text head) where
    passing : b.number ≡ 0 → Writes (passed_text log memory) all → Writes (interrupts_text log memory) all
    unfolding interrupts_text passed_text
    passing h w = rw (eq-eqb (play_number log memory) 0 (sym numbered ∙ h)) (writes_two head_text _ all (rw f at v) w)

    failing : (b.number ≡ 0 → ⊥) → Writes (refused_line b.number b.place) all → Writes (interrupts_text log memory) all
    unfolding interrupts_text begun_of
    failing h w = rw (ne_eqb (play_number log memory) 0 (λ z. h (numbered ∙ z))) (writes_two head_text _ all (rw f at v) (rw e at w))

pub returns-then-not-head : goal.returns-then-not-head
returns-then-not-head c =
    let a = c.args in
    let b = c.begin-b in record { number_value = numbered a.log.now a.memory.now b.result b.ensures; begun_writes = rw c.if-not-head.true at c.head.ensures; writes = cut a.log.now a.memory.now b.result b.ensures c.head.result c.if-not-head.true c.head.ensures }

pub changes-done-requires : goal.changes-done-requires
changes-done-requires c =
    let a = c.args in
    let b = c.begin-b in
    sym (numbered a.log.now a.memory.now b.result b.ensures) ∙ c.if-number-eq0.true

pub returns-then-number-eq0 : goal.returns-then-number-eq0
returns-then-number-eq0 c =
    let a = c.args in
    let b = c.begin-b in
    let h = c.head in record { number_value = sym c.if-number-eq0.true ∙ numbered a.log.now a.memory.now b.result b.ensures; begun_writes = rw c.if-not-head.false at c.head.ensures; writes = passing a.log.now a.memory.now b.result b.ensures h.result c.changes-done.result c.if-not-head.false h.ensures c.if-number-eq0.true c.changes-done.ensures }

pub returns : goal.returns
returns c =
    let a = c.args in
    let b = c.begin-b in
    let h = c.head in record { number_value = numbered a.log.now a.memory.now b.result b.ensures; begun_writes = rw c.if-not-head.false at c.head.ensures; writes = failing a.log.now a.memory.now b.result b.ensures h.result c.refused-done.result c.if-not-head.false h.ensures c.if-number-eq0.false c.refused-done.ensures }

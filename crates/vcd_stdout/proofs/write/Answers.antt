-- What `begin` answers says whether it is the trace or a refusal. Assumes nothing.
use native.Mathlib.Omega.{arith}
use mathlib.Core.Path.{◌≡◌, sym, ap, ◌∙◌}
use Prim.Native.Nat.{ℕ, ◌+◌}
use mathlib.Core.Bool.{Bool, true}
use mathlib.Core.List.{List, [], ◌++◌}
use borrow.Author.Tests.{eq-eqb, ne_eqb}
use Rattle.text_lines.specs.Lines.{refused_line}
use Rattle.program_io.specs.Writes.{Writes}
use Rattle.program_io.proofs.Joined.{sent_none, sent_whole}
use Rattle.play_begin.specs.declared.Begun.{Begun}
use Rattle.play_begin.specs.Whole.{play_number, begun_of}
use Rattle.perch_vcd.specs.Text.{head_text, window_text, vcd_text}
use Rattle.perch_vcd.proofs.Joined.{joined_refused}
use Rattle.vcd_stdout.specs.Lines.{passed_text}
use Rattle.vcd_stdout.specs.Text.{traced_text}
use Rattle.vcd_stdout.proofs.write.Goals as goal

module _ (log memory : List ℕ) (b : Begun) (e : b ≡ begun_of log memory) where
  numbered : b.number ≡ play_number log memory
  unfolding begun_of
  numbered = ap (λ (x : Begun). x.number) e

  module _ (from count : ℕ) where
    -- of no clock nothing
    none : count ≡ 0 → Writes (traced_text log memory from count) true
    unfolding traced_text
    none z = rw (eq-eqb count 0 z) (sent_whole [] sent_none)

    module _ (all : Bool) (some : count ≡ 0 → ⊥) where
      passing : b.number ≡ 0 → Writes (head_text ++ passed_text log memory from (from + count)) all → Writes (traced_text log memory from count) all
      unfolding traced_text vcd_text window_text passed_text
      passing h w = rw (ne_eqb count 0 some, eq-eqb (play_number log memory) 0 (sym numbered ∙ h)) w

      failing : (b.number ≡ 0 → ⊥) → Writes (refused_line b.number b.place) all → Writes (traced_text log memory from count) all
      unfolding traced_text begun_of
      failing h w = rw (ne_eqb count 0 some, ← joined_refused log memory from count (λ z. h (numbered ∙ z))) (rw e at w)

pub returns-then-count-eq0 : goal.returns-then-count-eq0
returns-then-count-eq0 c =
    let a = c.args in
    let b = c.begin-b in record { number_value = numbered a.log.now a.memory.now b.result b.ensures; writes = none a.log.now a.memory.now b.result b.ensures a.from a.count c.if-count-eq0.true }

pub traced-done-requires : goal.traced-done-requires
traced-done-requires c =
    let a = c.args in
    let b = c.begin-b in record { memory_value = sym (numbered a.log.now a.memory.now b.result b.ensures) ∙ c.if-number-eq0.true; from_lt_until = omega (arith, c.if-count-eq0.false) }

pub returns-then-number-eq0 : goal.returns-then-number-eq0
returns-then-number-eq0 c =
    let a = c.args in
    let b = c.begin-b in record { number_value = sym c.if-number-eq0.true ∙ numbered a.log.now a.memory.now b.result b.ensures; writes = passing a.log.now a.memory.now b.result b.ensures a.from a.count c.traced-done.result c.if-count-eq0.false c.if-number-eq0.true c.traced-done.ensures }

pub returns : goal.returns
returns c =
    let a = c.args in
    let b = c.begin-b in record { number_value = numbered a.log.now a.memory.now b.result b.ensures; writes = failing a.log.now a.memory.now b.result b.ensures a.from a.count c.refused-done.result c.if-count-eq0.false c.if-number-eq0.false c.refused-done.ensures }

use mathlib.Core.Path.{◌≡◌, refl, sym, ◌∙◌}
use mathlib.Core.Bool.{true, false}
use lib.ListN.{length}
use borrow.Author.Tests.{eq-eqb, ne_eqb}
use Rattle.chip.specs.Range.{in_range}
use Rattle.play_walk.specs.Walk.{clocks_on}
use Rattle.play_walk.proofs.ClockLaws.{clocks_on_is}
use Rattle.play_walk.proofs.clocks_on.Goals as goal
use Rattle.play_walk.proofs.clocks_on.Goals.{then-memory-ne32768-via-then-memory-ne32768, then-memory-ne32768-via-else-memory-ne32768+then-not-in_range}

pub returns-then-memory-ne32768-clause-value : goal.returns-then-memory-ne32768-clause-value
unfolding clocks_on
returns-then-memory-ne32768-clause-value c =
    let a = c.args in
    elim c.then-memory-ne32768.branch [
      | then-memory-ne32768-via-then-memory-ne32768 w ↦ rw (ne_eqb (length a.memory.now) 32768 w.if-memory-ne32768.true) refl
      | then-memory-ne32768-via-else-memory-ne32768+then-not-in_range w ↦
          let out : in_range a.s ≡ false = sym w.in_range.ensures ∙ w.if-not-in_range.true in
          rw (eq-eqb (length a.memory.now) 32768 w.if-memory-ne32768.false, out) refl
    ]

pub returns : goal.returns
returns c =
    let a = c.args in
    let r = c.runs_on in
    let fine : in_range a.s ≡ true = sym c.in_range.ensures ∙ c.if-not-in_range.false in
    record { value = r.ensures.value ∙ sym (clocks_on_is a.memory.now a.n a.s c.if-memory-ne32768.false fine); result_value = λ h. r.ensures.result_value }

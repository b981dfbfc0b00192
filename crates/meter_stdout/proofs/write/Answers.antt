-- What `begin` answers says whether lines of the waits stand behind the text about the whole log. Assumes nothing.
use mathlib.Core.Path.{◌≡◌, sym, ap, ◌∙◌}
use Prim.Native.Nat.{ℕ}
use mathlib.Core.Bool.{Bool, true, false}
use mathlib.Core.List.{List, append-nil}
use borrow.Author.Tests.{eq-eqb, ne_eqb}
use Rattle.program_io.specs.Writes.{Writes}
use Rattle.play_begin.specs.declared.Begun.{Begun}
use Rattle.play_begin.specs.Whole.{play_number, begun_of}
use Rattle.play_meter.specs.Meters.{log_meter}
use Rattle.perch_meter.specs.Text.{meter_text, meter_waits_text}
use Rattle.lines_stdout.proofs.PourLaws.{writes_cut, writes_two}
use Rattle.meter_stdout.specs.Lines.{each_text}
use Rattle.meter_stdout.specs.Text.{metered_text}
use Rattle.meter_stdout.proofs.NumberLaws.{metered_number_lem}
use Rattle.meter_stdout.proofs.write.Goals as goal

module _ (log memory : List ℕ) (b : Begun) (e : b ≡ begun_of log memory) where
  numbered : b.number ≡ play_number log memory
  unfolding begun_of
  numbered = ap (λ (x : Begun). x.number) e

  metered : (log_meter log memory).number ≡ b.number
  metered = metered_number_lem log memory ∙ sym numbered

  module _ (first : Bool) (v : Writes (meter_text log memory) first) where
    -- the first text not taken whole
    cut : (each : Bool) → first ≡ false → Writes (metered_text each log memory) false
    unfolding meter_waits_text
    cut true f = writes_cut (meter_text log memory) _ (rw f at v)
    cut false f = rw f at v

    module _ (f : first ≡ true) where
      -- nothing behind it
      failing : (each : Bool) → (b.number ≡ 0 → ⊥) → Writes (metered_text each log memory) true
      unfolding meter_waits_text
      failing true h = rw (ne_eqb (log_meter log memory).number 0 (λ z. h (sym metered ∙ z)), append-nil (meter_text log memory)) (rw f at v)
      failing false h = rw f at v

      alone : (each : Bool) → each ≡ false → Writes (metered_text each log memory) true
      alone each i = rw i (rw f at v)

      -- the waits
      passing : (each all : Bool) → each ≡ true → b.number ≡ 0 → Writes (each_text log memory) all → Writes (metered_text each log memory) all
      unfolding meter_waits_text each_text
      passing each all i h w = rw (i, eq-eqb (log_meter log memory).number 0 (metered ∙ h)) (writes_two (meter_text log memory) _ all (rw f at v) w)

pub returns-then-not-total : goal.returns-then-not-total
returns-then-not-total c =
    let a = c.args in
    let b = c.begin-b in
    let t = c.total in record { number_value = numbered a.log.now a.memory.now b.result b.ensures; writes = cut a.log.now a.memory.now b.result b.ensures t.result t.ensures a.each c.if-not-total.true }

pub returns-then-number-ne0 : goal.returns-then-number-ne0
returns-then-number-ne0 c =
    let a = c.args in
    let b = c.begin-b in
    let t = c.total in record { number_value = numbered a.log.now a.memory.now b.result b.ensures; writes = failing a.log.now a.memory.now b.result b.ensures t.result t.ensures c.if-not-total.false a.each c.if-number-ne0.true }

pub waits-done-requires : goal.waits-done-requires
waits-done-requires c =
    let a = c.args in
    let b = c.begin-b in
    sym (numbered a.log.now a.memory.now b.result b.ensures) ∙ c.if-number-ne0.false

pub returns-then-each : goal.returns-then-each
returns-then-each c =
    let a = c.args in
    let b = c.begin-b in
    let t = c.total in record { number_value = sym c.if-number-ne0.false ∙ numbered a.log.now a.memory.now b.result b.ensures; writes = passing a.log.now a.memory.now b.result b.ensures t.result t.ensures c.if-not-total.false a.each c.waits-done.result c.if-each.true c.if-number-ne0.false c.waits-done.ensures }

pub returns : goal.returns
returns c =
    let a = c.args in
    let b = c.begin-b in
    let t = c.total in record { number_value = sym c.if-number-ne0.false ∙ numbered a.log.now a.memory.now b.result b.ensures; writes = alone a.log.now a.memory.now b.result b.ensures t.result t.ensures c.if-not-total.false a.each c.if-each.false }

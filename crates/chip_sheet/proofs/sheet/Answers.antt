use mathlib.Core.Path.{sym, ◌∙◌}
use native.Mathlib.Omega.{arith}
use Rattle.chip_sheet.proofs.Refusals.{done, drawn_out, refused}
use Rattle.chip_sheet.proofs.sheet.Goals as goal

pub overflow_cast-level : goal.overflow_cast-level
overflow_cast-level c = omega (arith, (done _ _ _ _ _ (sym c.number_of-number.ensures ∙ c.if-number-eq0.true)).level_most)

pub overflow_cast-address : goal.overflow_cast-address
overflow_cast-address c = omega (arith, (done _ _ _ _ _ (sym c.number_of-number.ensures ∙ c.if-number-eq0.true)).address_most)

pub draw-requires : goal.draw-requires
draw-requires c = (done _ _ _ _ _ (sym c.number_of-number.ensures ∙ c.if-number-eq0.true)).fits

pub overflow_cast-result : goal.overflow_cast-result
overflow_cast-result c =
    omega (arith, (done _ _ _ _ _ (sym c.number_of-number.ensures ∙ c.if-number-eq0.true)).length_most)

pub returns-then-number-eq0 : goal.returns-then-number-eq0
returns-then-number-eq0 c =
    let a = c.args in
    let z = drawn_out a.memory.now a.level a.address a.length a.buffer.now (sym c.number_of-number.ensures ∙ c.if-number-eq0.true) in record { value = z.0; buffer_after = c.draw.ensures ∙ z.1 }

pub returns-else-number-eq0 : goal.returns-else-number-eq0
returns-else-number-eq0 c =
    let a = c.args in let pair = refused a.memory.now a.level a.address a.length a.buffer.now c.number_of-number.result c.number_of-number.ensures c.if-number-eq0.false in record { value = pair.0; buffer_after = pair.1 }

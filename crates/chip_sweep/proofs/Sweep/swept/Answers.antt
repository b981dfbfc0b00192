use mathlib.Core.Path.{sym, ◌∙◌}
use native.Mathlib.Omega.{arith}
use mir.Syntax.{w32}
use mir.ValLaws.{to_z-of_z}
use Rattle.chip_sweep.specs.Sweep.{target, swept_period}
use Rattle.chip_sweep.proofs.Landing.{Period, moves_to}
use Rattle.chip_sweep.proofs.Sweep.swept.Goals as goal

pub overflow_cast-result : goal.overflow_cast-result
overflow_cast-result c =
    let a = c.args in
    let p : Period (target a.second a.self a.period) =
    moves_to a.second a.self a.period (sym c.moves.ensures ∙ c.if-moves.true)
    in rw (to_z-of_z w32 c.target_of.result (record { sfits = c.target_of.type_inv }), c.target_of.ensures) (p.positive, record { fits = omega arith })

pub returns-then-moves : goal.returns-then-moves
unfolding swept_period
returns-then-moves c =
    rw (to_z-of_z w32 c.target_of.result (record { sfits = c.target_of.type_inv }), c.target_of.ensures, sym c.moves.ensures ∙ c.if-moves.true)

pub returns-else-moves : goal.returns-else-moves
unfolding swept_period
returns-else-moves c = rw (sym c.moves.ensures ∙ c.if-moves.false)

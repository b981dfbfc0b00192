use mathlib.Core.Path.{◌≡◌, ap, ◌∙◌}
use native.Mathlib.Omega.{arith}
use Rattle.meter.specs.declared.Metering.TheVariants.{NoLevels}
use Rattle.meter.specs.Measure.{measured_number, measured_levels, measure_of}
use Rattle.meter.proofs.Answers.{empty}
use Rattle.meter.proofs.Numbers.{measured_number_lem, measured_levels_lem}
use Rattle.meter.proofs.measure.Goals as goal

pub returns-in_default-clause-measured_is : goal.returns-in_default-clause-measured_is
returns-in_default-clause-measured_is c =
    let l = c.args.levels.now in
    let e : NoLevels ≡ measure_of l = empty l (omega (arith, c.in_default.len_below)) in
    (ap measured_number e ∙ measured_number_lem l, ap measured_levels e ∙ measured_levels_lem l)

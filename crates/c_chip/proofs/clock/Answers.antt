use mathlib.Core.Path.{ap, ◌∙◌}
use Rattle.c_chip.specs.Boundary.{clock_packed}
use Rattle.c_chip.proofs.StoreLaws.{clock_stored}
use Rattle.c_chip.proofs.clock.Goals as goal

pub returns : goal.returns
returns c =
    let a = c.args in
    let is = rw c.state_in-s.ensures at c.clock-m.ensures in record { value = c.pack.ensures ∙ ap clock_packed is; state_after = clock_stored a.memory.now a.state.now _ _ is c.store.ensures }

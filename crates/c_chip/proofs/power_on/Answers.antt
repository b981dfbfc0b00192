use lib.Dec.{eqb}
use Rattle.chip.specs.Range.{power_on}
use Rattle.c_chip.proofs.StoreLaws.{stored_on}
use Rattle.c_chip.proofs.power_on.Goals as goal

pub returns : goal.returns
returns c = record { value = simp (c.pack.ensures, c.power_number-number.ensures); state_after = rw (c.store.ensures, c.power_on-s.ensures, c.power_number-number.ensures) (stored_on c.args.machine c.args.state.now (power_on (eqb c.args.machine 1))) }

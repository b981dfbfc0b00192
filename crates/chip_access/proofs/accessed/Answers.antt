use mathlib.Core.Path.{ap, ◌∙◌}
use native.Mathlib.Omega.{arith}
use Rattle.bus.specs.declared.Access.TheVariants.{Write, Read}
use Rattle.chip.specs.Range.{in_range}
use Rattle.chip_access.specs.Access.{access_state, access_byte}
use Rattle.chip_access.proofs.AccessLaws.{access_kept}
use Rattle.chip_access.proofs.accessed.Goals as goal

pub returns-in-Write : goal.returns-in-Write
unfolding access_state access_byte
returns-in-Write c = record { value = simp (c.in-Write.is, c.register_written-state.ensures); state_value = λ h. ap in_range c.register_written-state.ensures ∙ access_kept (Write _ _) c.args.s (omega arith) h }

pub returns-in-Read : goal.returns-in-Read
unfolding access_state access_byte
returns-in-Read c = record { value = simp (c.in-Read.is, c.status_byte.ensures, c.status_read-state.ensures); state_value = λ h. ap in_range c.status_read-state.ensures ∙ access_kept Read _ tt h }

use mathlib.Core.Path.{ap, ◌∙◌}
use Rattle.c_chip.specs.Boundary.{access_packed}
use Rattle.c_chip.proofs.StoreLaws.{access_stored}
use Rattle.c_chip.proofs.access.Goals as goal

pub returns : goal.returns
returns c =
    let is = rw (c.access_of-x.ensures, c.state_in-s.ensures) at c.access-a.ensures in record { value = c.pack_access.ensures ∙ ap access_packed is; state_after = access_stored _ c.args.state.now _ _ is c.store.ensures }

use mathlib.Core.Path.{sym, ◌∙◌}
use Rattle.lines_stdout.proofs.PourLaws.{stays_there, sends_all}
use Rattle.lines_stdout.proofs.pour.Goals as goal

pub returns-then-fits : goal.returns-then-fits
returns-then-fits c =
    let a = c.args in
    stays_there a.out.now a.at a.room (sym c.fits.ensures ∙ c.if-fits.true)

pub returns : goal.returns
returns c =
    let a = c.args in
    sends_all a.out.now a.at a.room c.write_front-written.result (sym c.fits.ensures ∙ c.if-fits.false) c.write_front-written.ensures

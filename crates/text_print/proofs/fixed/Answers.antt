use mathlib.Core.Path.{refl, sym, ◌∙◌}
use native.Mathlib.Omega.{arith}
use lib.ListN.{length}
use Rattle.text_print.proofs.StoreLaws.{written_if, kept_if, copy_end}
use Rattle.text_print.proofs.fixed.Goals as goal

pub returns-then-not-fits : goal.returns-then-not-fits
returns-then-not-fits c = let pair = kept_if _ _ _ (length c.args.text.now) refl _ c.fits.ensures c.if-not-fits.true in record { value = pair.0; out_after = pair.1 }

pub returns : goal.returns
returns c =
    let l = c.loop-i in
    let a = c.args in
    let pair = written_if _ _ _ (length a.text.now) refl _ c.fits.ensures c.if-not-fits.false _ (sym (copy_end l.out a.text.now a.at l.i (omega arith)) ∙ l.invariant.1) in
    record { value = pair.0; out_after = pair.1 }

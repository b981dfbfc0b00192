use mathlib.Core.Path.{sym, ap, ◌∙◌}
use lib.Seq.{sets}
use Rattle.text_print.proofs.StoreLaws.{written_if, kept_if}
use Rattle.text_print.proofs.decimal.Goals as goal

pub returns-then-not-fits : goal.returns-then-not-fits
returns-then-not-fits c = let pair = kept_if _ _ _ c.width-k.result (sym c.width-k.ensures.value) _ c.fits.ensures c.if-not-fits.true in record { value = pair.0; out_after = pair.1 }

pub returns : goal.returns
returns c =
    let pair = written_if _ _ _ c.width-k.result (sym c.width-k.ensures.value) _ c.fits.ensures c.if-not-fits.false _ (c.digits.ensures ∙ ap (sets _ _) (sym c.width-k.ensures.upper_bound.1)) in record { value = pair.0; out_after = pair.1 }

use Rattle.text_print.proofs.StoreLaws.{written_if, kept_if, length_four}
use Rattle.text_print.proofs.hex_four.Goals as goal

pub returns-then-not-fits : goal.returns-then-not-fits
returns-then-not-fits c = let pair = kept_if _ _ _ 4 (length_four _) _ c.fits.ensures c.if-not-fits.true in record { value = pair.0; out_after = pair.1 }

pub returns : goal.returns
returns c =
    let pair = written_if _ _ _ 4 (length_four _) _ c.fits.ensures c.if-not-fits.false _ c.four.ensures in record { value = pair.0; out_after = pair.1 }

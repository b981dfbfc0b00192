use Rattle.text_lines.specs.Lines.{keyed_line}
use Rattle.text_lines.proofs.Pieces.{fits_room, fits_put, fits_not}
use Rattle.text_lines.proofs.Sizes.{keyed_long}
use Rattle.text_lines.proofs.keyed_line.Goals as goal

pub put_keyed-requires : goal.put_keyed-requires
put_keyed-requires c =
    let a = c.args in
    fits_room a.out.now a.at (keyed_line a.key.now a.n) _ (keyed_long a.key.now a.n _ c.width-w.ensures.value) _ c.fits.ensures c.if-fits.true

pub returns-then-fits : goal.returns-then-fits
returns-then-fits c =
    let a = c.args in let pair = fits_put a.out.now a.at (keyed_line a.key.now a.n) _ (keyed_long a.key.now a.n _ c.width-w.ensures.value) _ c.fits.ensures c.if-fits.true _ _ c.put_keyed.ensures in record { value = pair.0; out_after = pair.1 }

pub returns : goal.returns
returns c =
    let a = c.args in let pair = fits_not a.out.now a.at (keyed_line a.key.now a.n) _ (keyed_long a.key.now a.n _ c.width-w.ensures.value) _ c.fits.ensures c.if-fits.false in record { value = pair.0; out_after = pair.1 }

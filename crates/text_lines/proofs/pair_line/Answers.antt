use Rattle.text_lines.specs.Lines.{pair_line}
use Rattle.text_lines.proofs.Pieces.{fits_room, fits_put, fits_not}
use Rattle.text_lines.proofs.Sizes.{pair_long}
use Rattle.text_lines.proofs.pair_line.Goals as goal

pub put_pair-requires : goal.put_pair-requires
put_pair-requires c =
    let a = c.args in
    fits_room a.out.now a.at (pair_line a.key.now a.a a.b) _ (pair_long a.key.now a.a _ c.width-v.ensures.value a.b _ c.width-w.ensures.value) _ c.fits.ensures c.if-fits.true

pub returns-then-fits : goal.returns-then-fits
returns-then-fits c =
    let a = c.args in let pair = fits_put a.out.now a.at (pair_line a.key.now a.a a.b) _ (pair_long a.key.now a.a _ c.width-v.ensures.value a.b _ c.width-w.ensures.value) _ c.fits.ensures c.if-fits.true _ _ c.put_pair.ensures in record { value = pair.0; out_after = pair.1 }

pub returns : goal.returns
returns c =
    let a = c.args in let pair = fits_not a.out.now a.at (pair_line a.key.now a.a a.b) _ (pair_long a.key.now a.a _ c.width-v.ensures.value a.b _ c.width-w.ensures.value) _ c.fits.ensures c.if-fits.false in record { value = pair.0; out_after = pair.1 }

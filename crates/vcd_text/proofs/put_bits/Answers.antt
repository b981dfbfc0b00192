use Rattle.text_print.proofs.StoreLaws.{written_if, kept_if}
use Rattle.vcd_text.proofs.BitLaws.{length_bits}
use Rattle.vcd_text.proofs.put_bits.Goals as goal

pub returns-then-not-fits : goal.returns-then-not-fits
returns-then-not-fits c = let a = c.args in let pair = kept_if _ _ _ a.width (length_bits a.width a.n) _ c.fits.ensures c.if-not-fits.true in record { value = pair.0; out_after = pair.1 }

pub returns : goal.returns
returns c = let a = c.args in let pair = written_if _ _ _ a.width (length_bits a.width a.n) _ c.fits.ensures c.if-not-fits.false _ c.bits.ensures in record { value = pair.0; out_after = pair.1 }

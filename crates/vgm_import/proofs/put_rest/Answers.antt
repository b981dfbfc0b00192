use borrow.Author.Tests.{eq-eqb, ne_eqb}
use mathlib.Core.Path.{refl, sym}
use native.Mathlib.Nat.{add-zero}
use Rattle.text_print.proofs.PieceLaws.{put_last}
use Rattle.vgm_measure.specs.Measure.{rest_text}
use Rattle.vgm_import.proofs.put_rest.Goals as goal

pub returns-then-g-eq0 : goal.returns-then-g-eq0
unfolding rest_text
returns-then-g-eq0 c = rw (eq-eqb _ _ c.if-g-eq0.true) (record { place = sym (add-zero c.args.at); bytes = refl })

pub returns : goal.returns
unfolding rest_text
returns c = rw (ne_eqb _ _ c.if-g-eq0.false) (put_last c.args.out.now c.args.at _ c.put_line.new.out c.put_line.result (rw (ne_eqb _ _ c.if-g-eq0.false) at c.requires.1) c.put_line.ensures.value c.put_line.ensures.out_after)

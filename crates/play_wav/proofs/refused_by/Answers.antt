use borrow.Author.Tests.{eq-eqb, ne_eqb}
use Rattle.play_wav.proofs.refused_by.Goals as goal

pub returns-then-t-eq0 : goal.returns-then-t-eq0
returns-then-t-eq0 c = simp (c.sounded_of.ensures, eq-eqb _ _ c.if-t-eq0.true)

pub returns : goal.returns
returns c = simp (c.piece_of.ensures, ne_eqb _ _ c.if-t-eq0.false)

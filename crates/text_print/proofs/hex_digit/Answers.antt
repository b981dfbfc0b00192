use borrow.Author.Tests.{lt-ltb, le-ltb}
use Rattle.text.specs.Hex.{hex_byte}
use Rattle.text_print.proofs.hex_digit.Goals as goal

pub returns-then-d-lt10 : goal.returns-then-d-lt10
unfolding hex_byte
returns-then-d-lt10 c = simp (lt-ltb _ _ c.if-d-lt10.true)

pub returns-else-d-lt10 : goal.returns-else-d-lt10
unfolding hex_byte
returns-else-d-lt10 c = simp (le-ltb _ _ c.if-d-lt10.false)

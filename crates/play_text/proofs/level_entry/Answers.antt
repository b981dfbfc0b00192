use native.Mathlib.Omega.{arith}
use Rattle.play_text.proofs.TextLaws.{level_size}
use Rattle.play_text.proofs.level_entry.Goals as goal

pub level_text-requires : goal.level_text-requires
level_text-requires c = omega (arith, level_size c.from.result c.from-2.result (omega arith), c.requires)

pub returns : goal.returns
returns c = rw (c.from.ensures, c.from-2.ensures) at c.level_text.ensures

-- Helper: nobody has to believe this; what the packing of an answer asks of it, and every step keeps.
use Rattle.std.specs.Prelude.{◌≤◌}
use Rattle.log_cursor.specs.declared.Given.{Given}
use Rattle.log_rules.specs.Tree.{act_clocks}

abbrev pub FoundIn : Given → Type 0
FoundIn (Given.Act a) = act_clocks a ≤ 1000000
FoundIn Given.End = Unit {0}
FoundIn Given.Moved = Unit {0}
FoundIn (Given.Refused k p) = p ≤ 60000

-- Helper: the lines of an access and of a write, as the functions of this crate name them.
use Rattle.std.specs.Prelude.{ℕ, List}
use Rattle.bus.specs.declared.Access.{Access as Accessed}
use Rattle.bus.specs.declared.Access.TheVariants.{Write}
use Rattle.log_line.specs.declared.Act.TheVariants.{Access}
use Rattle.log_line.specs.declared.Line.TheVariants.{One}
use Rattle.log_line.specs.Printed.{line_text, act_text, ended}

abbrev pub access_text : Accessed → List ℕ
access_text x = ended (act_text (Access x))

abbrev pub write_text : ℕ → ℕ → List ℕ
write_text r v = line_text (One (Access (Write r v)))

-- The head of a log. Document 01: "First `log=1`." Change request 9: "A log may have `machine=pal` as its second line; without it NTSC is meant".
use Rattle.std.specs.Prelude.{ℕ, List, ◌++◌, Bool, true, false}
use Rattle.arith.specs.Pick.{pick}
use Rattle.text.specs.Key.{starts_with}
use Rattle.log_line.specs.declared.Line.TheVariants.{Header, Machine}
use Rattle.log_line.specs.Printed.{line_text}
use Rattle.log_rules.specs.Lines.{next_line}

-- the text of a log's head: true is PAL, false is NTSC
abbrev pub head_text : Bool → List ℕ
head_text true = line_text Header ++ line_text Machine
head_text false = line_text Header

-- the machine of a log: PAL where it begins with these two lines
unfoldable pub machine_of : List ℕ → Bool
machine_of log = starts_with (head_text true) log

-- where the lines behind the head begin
unfoldable pub start_of : List ℕ → ℕ
start_of log = pick (machine_of log) (next_line log (next_line log 0)) (next_line log 0)

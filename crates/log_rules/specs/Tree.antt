-- What a log that passes stands for: a tree of acts and loops; its list of acts, loops unrolled; its totals; and its text.
use Rattle.std.specs.Prelude.{ℕ, zero, suc, ◌+◌, ◌*◌, ◌<◌, List, [], ◌∷◌, ◌++◌, Bool}
use Rattle.bus.specs.declared.Access.{Access}
use Rattle.log_line.specs.declared.Act.{Act}
use Rattle.log_line.specs.declared.Act.TheVariants.{Wait}
use Rattle.log_line.specs.declared.Line.TheVariants.{One, Loop, Done, Stop}
use Rattle.log_line.specs.Printed.{line_text, Printable}
use Rattle.log_rules.specs.Head.{head_text}

-- a block of lines: its end; an act and the rest; a loop of n turns over a body, and the rest
pub data Tree : Type 0 where
  end : Tree
  act : Act → Tree → Tree
  loop : ℕ → Tree → Tree → Tree

-- n copies of a list, one behind the other
unfoldable pub times : ℕ → List Act → List Act
times zero l = []
times (suc n) l = l ++ times n l

-- "A log that passes stands for one list of accesses and waits"
unfoldable pub acts : Tree → List Act
acts end = []
acts (act a t) = a ∷ acts t
acts (loop n b t) = times n (acts b) ++ acts t

-- the clocks of an act: those that a wait waits
unfoldable pub act_clocks : Act → ℕ
act_clocks (Wait n) = n
act_clocks (Act.Access x) = 0

-- the clocks in all
unfoldable pub clocks : Tree → ℕ
clocks end = 0
clocks (act a t) = act_clocks a + clocks t
clocks (loop n b t) = n * clocks b + clocks t

-- "Turns in all: 1 for a wait, write or read; N times (1 + body) for a loop"
unfoldable pub turns : Tree → ℕ
turns end = 0
turns (act a t) = 1 + turns t
turns (loop n b t) = n * (1 + turns b) + turns t

-- the text of a block, and of a log for a machine
unfoldable pub text : Tree → List ℕ
text end = []
text (act a t) = line_text (One a) ++ text t
text (loop n b t) = line_text (Loop n) ++ (text b ++ (line_text Done ++ text t))

unfoldable pub log_text : Bool → Tree → ℕ → List ℕ
log_text m t n = head_text m ++ (text t ++ line_text (Stop n))

-- a block whose lines are within document 01's limits, where d loops are open around it
abbrev pub Within : Tree → ℕ → Type 0
Within end d = Unit {0}
Within (act a t) d = Printable (One a) × Within t d
Within (loop n b t) d = Printable (Loop n) × (d < 8) × Within b (d + 1) × Within t d

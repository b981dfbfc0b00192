-- What it means that bytes begin a line that is allowed and right: there is such a line, and its text has them at its front.
use Rattle.std.specs.Prelude.{ℕ, ◌≤◌, ◌≡◌, Bool, true, false, List, ◌++◌}
use Rattle.bus.specs.declared.Access.TheVariants.{Write, Read}
use Rattle.log_line.specs.declared.Act.TheVariants.{Wait, Access}
use Rattle.log_line.specs.declared.Line.{Line}
use Rattle.log_line.specs.declared.Line.TheVariants.{Header, Machine, One, Loop, Done, Stop, NoForm, NoRegister}
use Rattle.log_line.specs.Printed.{line_text, Printable}
use Rattle.log_begins.specs.declared.Keys.{Keys}

unfoldable pub allowed : Keys → Line → Bool
allowed k Header = k.log
allowed k Machine = k.machine
allowed k (One a) = k.acts
allowed k (Loop n) = k.loops
allowed k Done = k.done
allowed k (Stop n) = k.stop
allowed k NoForm = false
allowed k NoRegister = false

-- within document 01's limits, but for a write's register, which is any of four hex digits
abbrev pub RightForm : Line → Type 0
RightForm Header = Printable Header
RightForm Machine = Printable Machine
RightForm (One (Wait n)) = Printable (One (Wait n))
RightForm (One (Access (Write r v))) = (r ≤ 0xffff) × (v ≤ 255)
RightForm (One (Access Read)) = Printable (One (Access Read))
RightForm (Loop n) = Printable (Loop n)
RightForm Done = Printable Done
RightForm (Stop n) = Printable (Stop n)
RightForm NoForm = Printable NoForm
RightForm NoRegister = Printable NoRegister

-- s stands at the front of the text of a line that is allowed and right
pub record Fronts (k : Keys) (s : List ℕ) : Type 0 where
  pub line : Line
  pub may : allowed k line ≡ true
  pub right : RightForm line
  pub rest : List ℕ
  pub is : s ++ rest ≡ line_text line

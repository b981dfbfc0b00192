-- The text of each line: each has exactly one, with its line feed.
use Rattle.std.specs.Prelude.{ℕ, ◌≤◌, ◌≡◌, true, List, [], ◌∷◌, ◌++◌}
use Rattle.bus.specs.Register.{is_register}
use Rattle.bus.specs.declared.Access.TheVariants.{Write, Read}
use Rattle.text.specs.Ascii.{bytes}
use Rattle.text.specs.Decimal.{decimal_text}
use Rattle.text.specs.Hex.{hex_text}
use Rattle.log_line.specs.declared.Act.{Act}
use Rattle.log_line.specs.declared.Act.TheVariants.{Wait, Access}
use Rattle.log_line.specs.declared.Line.{Line}
use Rattle.log_line.specs.declared.Line.TheVariants.{Header, Machine, One, Loop, Done, Stop, NoForm, NoRegister}

-- an act, without its line feed
unfoldable pub act_text : Act → List ℕ
act_text (Wait n) = bytes "wait=" ++ decimal_text n
act_text (Access (Write r v)) = bytes "write=" ++ (hex_text 4 r ++ (bytes ":" ++ hex_text 2 v))
act_text (Access Read) = bytes "read=4015"

-- "Lines end in one line feed"
unfoldable pub ended : List ℕ → List ℕ
ended s = s ++ (10 ∷ [])

-- a line with its line feed; a line at fault has no text
unfoldable pub line_text : Line → List ℕ
line_text Header = ended (bytes "log=1")
line_text Machine = ended (bytes "machine=pal")
line_text (One a) = ended (act_text a)
line_text (Loop n) = ended (bytes "loop=" ++ decimal_text n)
line_text Done = ended (bytes "done=loop")
line_text (Stop n) = ended (bytes "stop=" ++ decimal_text n)
line_text NoForm = []
line_text NoRegister = []

-- an act within document 01's limits
abbrev pub Allowed : Act → Type 0
Allowed (Wait n) = (1 ≤ n) × (n ≤ 1000000)
Allowed (Access (Write r v)) = (is_register r ≡ true) × (v ≤ 255)
Allowed (Access Read) = Unit {0}

-- a line within document 01's limits
abbrev pub Printable : Line → Type 0
Printable Header = Unit {0}
Printable Machine = Unit {0}
Printable (One a) = Allowed a
Printable (Loop n) = (2 ≤ n) × (n ≤ 255)
Printable Done = Unit {0}
Printable (Stop n) = n ≤ 2000000000
Printable NoForm = ⊥
Printable NoRegister = ⊥

-- bytes of which none is a line feed
pub data NoFeed : List ℕ → Type 0 where
  empty : NoFeed []
  byte : {c : ℕ} {s : List ℕ} → (c ≡ 10 → ⊥) → NoFeed s → NoFeed (c ∷ s)

-- a text of one line: bytes other than a line feed, and then one
pub record OneLine (s : List ℕ) : Type 0 where
  pub body : List ℕ
  pub is : s ≡ body ++ (10 ∷ [])
  pub clear : NoFeed body

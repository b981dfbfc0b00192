-- What the words behind `perch sheet` ask for.
use Rattle.std.specs.Prelude.{ℕ, List, Option, Some, None}
use Rattle.text.specs.Decimal.{decimal}
use Rattle.text.specs.Hex.{hex}
use Rattle.text.specs.Numbers.{within}
use Rattle.perch_sheet.specs.declared.words.Args.{Args}

-- a decimal with no leading zero, of at most 32 bits
unfoldable pub decimal_word : List ℕ → Option ℕ
decimal_word s = within 0 4294967295 (decimal s)

-- all three are there, or the words are wrong
unfoldable pub args_by : Option ℕ → Option ℕ → Option ℕ → Option Args
args_by (Some level) (Some address) (Some length) = Some (record { level = level; address = address; size = length })
args_by (Some level) (Some address) None = None
args_by (Some level) None length = None
args_by None address length = None

-- "LEVEL ADDRESS LENGTH": the address as a log's hex, the others decimals
unfoldable pub args_of : (level address length : List ℕ) → Option Args
args_of level address length = args_by (decimal_word level) (hex 4 address) (decimal_word length)

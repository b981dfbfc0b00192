-- The version of the boundary to other languages. It goes up where a name, a layout of bytes or an answer changes.
use Rattle.std.specs.Prelude.{ℕ}

abbrev pub version : ℕ
version = 12

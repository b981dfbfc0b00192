-- Document 01, "Mixer and records": the level "handed out as a float: level over 32,768, exact".
use Rattle.std.specs.Prelude.{ℕ, false, pos, Float}
use Rattle.std.specs.Float.{fin, binary32}
use Rattle.std.specs.Float.Ieee.{div, of_int}

-- 32768.0, that is 1 * 2 ^ 15
abbrev pub scale : Float
scale = fin false 1 (pos 15)

unfoldable pub fraction_of : ℕ → Float
fraction_of level = div binary32 (of_int binary32 (pos level)) scale

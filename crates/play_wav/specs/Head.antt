-- Helper: nobody has to believe this; the head of a file in four parts.
use Rattle.std.specs.Prelude.{ℕ, ◌+◌, ◌*◌, List, ◌++◌}
use Rattle.text.specs.Ascii.{bytes}
use Rattle.c_bytes.specs.Numbers.{wide_bytes}

unfoldable pub riff_part : ℕ → List ℕ
riff_part count = bytes "RIFF" ++ (wide_bytes 4 (36 + 2 * count) ++ bytes "WAVEfmt ")

unfoldable pub form_part : List ℕ
form_part = wide_bytes 4 16 ++ (wide_bytes 2 1 ++ wide_bytes 2 1)

unfoldable pub rate_part : ℕ → List ℕ
rate_part rate = wide_bytes 4 rate ++ (wide_bytes 4 (2 * rate) ++ (wide_bytes 2 2 ++ wide_bytes 2 16))

unfoldable pub data_part : ℕ → List ℕ
data_part count = bytes "data" ++ wide_bytes 4 (2 * count)

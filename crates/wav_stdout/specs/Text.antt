-- What `perch wav` writes to standard output.
use Rattle.std.specs.Prelude.{ℕ, List, eqb}
use Rattle.arith.specs.Pick.{pick}
use Rattle.text_lines.specs.Lines.{refused_line}
use Rattle.wav_rules.specs.Sound.{wav_bytes, wav_number, wav_place}

-- the file of a log; refused, a line that says so
unfoldable pub wav_text : List ℕ → List ℕ → ℕ → List ℕ
wav_text log memory rate =
    pick (eqb (wav_number log memory rate) 0) (wav_bytes log memory rate) (refused_line (wav_number log memory rate) (wav_place log memory))

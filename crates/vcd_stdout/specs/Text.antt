-- What `perch vcd` writes to standard output.
use Rattle.std.specs.Prelude.{ℕ, List, [], eqb}
use Rattle.arith.specs.Pick.{pick}
use Rattle.perch_vcd.specs.Text.{vcd_text}

-- a window has a clock at least; of none there is nothing to write
unfoldable pub traced_text : List ℕ → List ℕ → ℕ → ℕ → List ℕ
traced_text log memory from count = pick (eqb count 0) [] (vcd_text log memory from count)

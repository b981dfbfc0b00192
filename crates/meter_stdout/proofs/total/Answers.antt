-- The text about the whole log is no longer than the buffer. Assumes nothing.
use native.Mathlib.Omega.{arith}
use mathlib.Core.Path.{◌≡◌}
use Prim.Native.Nat.{ℕ, ◌≤◌}
use mathlib.Core.Bool.{Bool}
use mathlib.Core.List.{List}
use lib.ListN.{length}
use Rattle.text_print.specs.Printed.{printed, placed}
use Rattle.perch_meter.specs.Text.{meter_text}
use Rattle.perch_meter.proofs.Sizes.{whole_text}
use Rattle.program_io.specs.Writes.{Writes, FrontWrites}
use Rattle.meter_stdout.proofs.total.Goals as goal

written : (log memory out after : List ℕ) (n : ℕ) (all : Bool) → 64 ≤ length out → n ≡ placed out 0 (meter_text log memory) → after ≡ printed out 0 (meter_text log memory)
    → FrontWrites after n all → Writes (meter_text log memory) all
written log memory out after n all size e f w = let t = whole_text log memory out size n after e f in rw t.1 at (w.front t.0)

pub returns : goal.returns
returns c =
    let a = c.args in
    let t = c.answer-n in
    written a.log.now a.memory.now _ _ t.result c.write_front.result (omega arith) t.ensures.value t.ensures.out_after c.write_front.ensures

-- The import at the boundary: its answer in one number.
use Rattle.std.specs.Prelude.{ℕ, ◌+◌, ◌*◌, ◌%◌, ◌^◌, List, eqb, leb, length}
use Rattle.arith.specs.Pick.{pick}
use Rattle.vgm_measure.specs.declared.Imported.{Imported}
use Rattle.vgm_measure.specs.Import.{import_refusal, import_for, import_of, buffer_for}

-- done: "the length of each log .. it writes"; refused: the place, of which the number holds the low 56 bits. A stream shorter than 2^56 bytes has no
-- other
unfoldable pub import_value : Imported → ℕ
import_value a = pick (eqb a.number 0) a.length (a.place % 2 ^ 56)

-- "number + 2^8 x value"
abbrev pub answer_packed : Imported → ℕ
answer_packed a = a.number + 2 ^ 8 * import_value a

abbrev pub import_packed : List ℕ → ℕ → ℕ
import_packed stream room = answer_packed (import_of stream room)

-- for a machine, 0 NTSC and 1 PAL: "a byte that is neither is 2"
unfoldable pub machine_answer : ℕ → List ℕ → ℕ → Imported
machine_answer machine stream room = pick (leb machine 1) (import_for (eqb machine 1) stream room) (import_refusal 2 0)

unfoldable pub machine_buffer : ℕ → List ℕ → List ℕ → List ℕ
machine_buffer machine stream out = pick (leb machine 1) (buffer_for (eqb machine 1) stream out) out

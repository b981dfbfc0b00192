-- A VGM file brought in as a log for its machine.
use Rattle.std.specs.Prelude.{ℕ, ◌+◌, List, eqb, leb, drop, Result, Ok, Err}
use Rattle.arith.specs.Pick.{pick, both}
use Rattle.vgm_measure.specs.declared.Imported.{Imported}
use Rattle.vgm_measure.specs.Import.{import_for, buffer_for}
use Rattle.vgm_file.specs.Header.{is_pal_file}
use Rattle.refusal.specs.declared.Refusal.{Refusal}
use Rattle.refusal.specs.Refusal.{refusal}
use Rattle.vgm_file.specs.declared.NoPart.{NoPart}
use Rattle.perch_import.specs.declared.NotBrought.{NotBrought}
use Rattle.perch_import.specs.declared.NotBrought.TheVariants as not_brought

-- "with the place in the file, not in the part": 25, 26 and 27 are at a byte; 9 and 28 are at none, and stay at 0
unfoldable pub place_from : ℕ → Imported → ℕ
place_from start a = pick (both (leb 25 a.number) (leb a.number 27)) (start + a.place) a.place

unfoldable pub brought_from : ℕ → Imported → Result ℕ Refusal
brought_from start a = pick (eqb a.number 0) (Ok a.length) (Err (refusal a.number (place_from start a)))

abbrev pub or_refused : Result ℕ Refusal → Result ℕ NotBrought
or_refused (Ok n) = Ok n
or_refused (Err e) = Err (not_brought.Refused e)

-- the answer for a file that starts so, and a buffer of so many bytes: "`perch import` of a PAL file writes the log with `machine=pal`"
unfoldable pub brought_of : Result ℕ NoPart → List ℕ → ℕ → Result ℕ NotBrought
brought_of (Ok p) file room = or_refused (brought_from p (import_for (is_pal_file file) (drop p file) room))
brought_of (Err e) file room = Err (not_brought.NoPart e)

-- and what is left in the buffer
unfoldable pub left_in : Result ℕ NoPart → List ℕ → List ℕ → List ℕ
left_in (Ok p) file out = buffer_for (is_pal_file file) (drop p file) out
left_in (Err e) file out = out

-- A recording: the bytes of a log, or of a VGM file, which begin with "Vgm ". What they stand for: a machine, a tree of acts, and the check.
use Rattle.std.specs.Prelude.{ℕ, ◌+◌, Bool, true, List, [], ◌∷◌, eqb, ltb, leb, length, drop, Result, Ok, Err}
use Rattle.arith.specs.Pick.{pick, both}
use Rattle.text.specs.Ascii.{bytes}
use Rattle.text.specs.Key.{starts_with}
use Rattle.log_rules.specs.Head as log
use Rattle.log_rules.specs.Tree.{Tree}
use Rattle.log_rules.specs.Whole as whole
use Rattle.log_rules.specs.Whole.{check_refusal, passed_check, heavy}
use Rattle.log_rules.specs.declared.Checked.{Checked}
use Rattle.vgm_stream.specs.declared.Said.{Said}
use Rattle.vgm_stream.specs.Stream.{Stream, ended, refused, stream_of}
use Rattle.vgm_measure.specs.Import.{tree_for}
use Rattle.vgm_blocks.specs.Blocks.{front_blocks, front_end, judged}
use Rattle.vgm_file.specs.Header.{commands_at, is_pal_file}
use Rattle.vgm_file.specs.declared.NoPart.{NoPart}
use Rattle.vgm_file.specs.declared.NoPart.TheVariants as no

-- numbers that are bytes, as all that is lent
unfoldable pub are_bytes : List ℕ → Bool
are_bytes [] = true
are_bytes (x ∷ l) = both (leb x 255) (are_bytes l)

-- "it begins with `Vgm `"
unfoldable pub is_file : List ℕ → Bool
is_file b = both (starts_with (bytes "Vgm ") b) (are_bytes b)

-- A FILE

-- where its commands begin, behind the blocks in front of them; 0 where its header says no place
unfoldable pub start_in : Result ℕ NoPart → List ℕ → ℕ
start_in (Ok p) file = p + front_end (drop p file)
start_in (Err e) file = 0

unfoldable pub start_of : List ℕ → ℕ
start_of file = start_in (commands_at file) file

-- what its commands say
unfoldable pub stream_in : List ℕ → Stream
stream_in file = stream_of (drop (start_of file) file)

unfoldable pub said_in : Stream → List Said
said_in (ended l) = l
said_in (refused k p) = []

-- "the acts of a stream are request 10's .., without the log's 60,000 bytes; 9's totals hold"
unfoldable pub file_tree : List ℕ → Tree
file_tree file = tree_for (is_pal_file file) (said_in (stream_in file))

-- THE CHECK of a file, number and place in the file: 5, longer than 524,288 bytes; 35, a header that is cut short or points out of the file; 36, two chips; 34,
-- a sample block at fault; then the first byte at fault of its commands; then, at 0, 9
unfoldable pub commands_check : List ℕ → Stream → Checked
commands_check file (refused k p) = check_refusal k (start_of file + p)
commands_check file (ended l) =
    let t = tree_for (is_pal_file file) l in
    pick (heavy t) (check_refusal 9 0) (passed_check (is_pal_file file) t)

unfoldable pub part_check : Result ℕ NoPart → List ℕ → Checked
part_check (Ok p) file =
    let f = judged (front_blocks (drop p file)) 0 in
    pick (eqb f.number 0) (commands_check file (stream_in file)) (check_refusal f.number (p + f.place))
part_check (Err no.NoVgm) file = check_refusal 35 0
part_check (Err no.Cut) file = check_refusal 35 0
part_check (Err no.Outside) file = check_refusal 35 0
part_check (Err no.Dual) file = check_refusal 36 0x84

unfoldable pub file_check : List ℕ → Checked
file_check file = pick (ltb 524288 (length file)) (check_refusal 5 0) (part_check (commands_at file) file)

-- A RECORDING

unfoldable pub machine_of : List ℕ → Bool
machine_of b = pick (is_file b) (is_pal_file b) (log.machine_of b)

unfoldable pub tree_of : List ℕ → Tree
tree_of b = pick (is_file b) (file_tree b) (whole.tree_of b)

unfoldable pub check_of : List ℕ → Checked
check_of b = pick (is_file b) (file_check b) (whole.check_of b)

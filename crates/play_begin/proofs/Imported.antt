-- "where the import succeeds, playing the file and playing the imported log say the same": the player's text is made of the check's answer, the machine and the
-- tree, and these are the same. Assumes nothing.
use Prim.Native.Nat.{ℕ, ◌≤◌}
use mathlib.Core.Path.{◌≡◌}
use mathlib.Core.Bool.{true}
use mathlib.Core.List.{List}
use lib.ListN.{length, drop}
use Rattle.vgm_file.specs.Header.{commands_at}
use Rattle.std.specs.Prelude.{Ok}
use Rattle.vgm_stream.specs.Stream.{stream_of}
use Rattle.vgm_measure.specs.Import.{text_of, import_for}
use Rattle.recording.specs.Whole.{is_file, machine_of}
use Rattle.recording.proofs.Imported.{Same, imported_same}
use Rattle.play_begin.specs.Whole.{play_number, play_place, play_text}

said_same : (b log memory : List ℕ) → Same b log → length b ≤ 524288 → play_text log memory ≡ play_text b memory
unfolding play_text play_number play_place
said_same b log memory s short = rw (s.machine, s.tree, s.check short)

-- b is a VGM file whose commands begin at p, and the log is what they are brought in as, in room enough
pub plays_same : (b memory : List ℕ) (p room : ℕ) → is_file b ≡ true → commands_at b ≡ Ok p → length b ≤ 524288 → (import_for (machine_of b) (drop p b) room).number ≡ 0
    → play_text (text_of (machine_of b) (stream_of (drop p b))) memory ≡ play_text b memory
plays_same b memory p room f e short done = said_same b _ memory (imported_same b p room f e done) short

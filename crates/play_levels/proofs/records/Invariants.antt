-- The loop's invariant: the records that are left to be written make the whole, in place and in bytes; a turn is `lines_step`. Assumes nothing.
use mathlib.Core.Path.{◌≡◌}
use Prim.Native.Nat.{ℕ, ◌+◌, ◌-◌, ◌*◌, ◌≤◌}
use lib.ListN.{length, drop}
use lib.Seq.{sets}
use Rattle.play_text.specs.Entries.{entries_text}
use Rattle.play_levels.specs.Levels.{level_entries}
use Rattle.play_levels.specs.Words.{high_of}
use Rattle.play_levels.proofs.records.Given as goal

abbrev pub invariant-loop-i : goal.invariant-loop-i
invariant-loop-i l =
    (l.i ≤ l.n) × (length l.out ≡ length l.initial.out) × (l.place + 23 * (l.n - l.i) ≤ length l.initial.out) × ((t : ℕ) × (l.high ≡ high_of t))
    × (l.place + length (entries_text (level_entries l.time (l.n - l.i) (drop (2 * l.i) l.words))) ≡ l.at + length (entries_text (level_entries l.time l.n l.words)))
    × (sets l.out l.place (entries_text (level_entries l.time (l.n - l.i) (drop (2 * l.i) l.words))) ≡ sets l.initial.out l.at (entries_text (level_entries l.time l.n l.words)))

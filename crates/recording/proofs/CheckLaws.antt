-- The check by its tests. Assumes nothing.
use Prim.Native.Nat.{ℕ, ◌+◌, ◌≤◌, ◌<◌}
use mathlib.Core.Path.{◌≡◌}
use mathlib.Core.Bool.{Bool}
use mathlib.Core.List.{List}
use borrow.Author.Tests.{eq-eqb, ne_eqb, lt-ltb, le-ltb}
use lib.ListN.{length, drop}
use Rattle.log_rules.specs.Whole.{check_refusal}
use Rattle.log_rules.specs.declared.Checked.{Checked}
use Rattle.vgm_measure.specs.declared.Tally.{Tally}
use Rattle.vgm_blocks.specs.Blocks.{front_blocks, judged}
use Rattle.vgm_blocks.specs.declared.Filled.{Filled}
use Rattle.std.specs.Prelude.{Result, Ok}
use Rattle.vgm_file.specs.Header.{commands_at}
use Rattle.vgm_file.specs.declared.NoPart.{NoPart}
use Rattle.recording.specs.Counted.{check_from}
use Rattle.recording.specs.Whole.{stream_in, commands_check, part_check, file_check}

-- the totals
module _ (pal : Bool) (at : ℕ) (t : Tally) where
  pub totals_done : t.number ≡ 0
      → ◌≡◌ {A = Checked} (record { number = 0; place = 0; pal = pal; clocks = t.clocks; turns = t.turns; items = t.turns }) (check_from pal at t)
  unfolding check_from
  totals_done e = rw (eq-eqb t.number 0 e)

  pub totals_heavy : t.number ≡ 9 → check_refusal 9 0 ≡ check_from pal at t
  unfolding check_from
  totals_heavy e = rw e

  pub totals_fault : (t.number ≡ 0 → ⊥) → (t.number ≡ 9 → ⊥) → check_refusal t.number (at + t.place) ≡ check_from pal at t
  unfolding check_from
  totals_fault d e = rw (ne_eqb t.number 0 d, ne_eqb t.number 9 e)

-- a part, by the blocks in front of it
module _ (b : List ℕ) (p : ℕ) (f : Filled) (e : f ≡ judged (front_blocks (drop p b)) 0) where
  pub part_right : f.number ≡ 0 → commands_check b (stream_in b) ≡ part_check (Ok p) b
  unfolding part_check
  part_right h = rw (← e, eq-eqb f.number 0 h)

  pub part_fault : (f.number ≡ 0 → ⊥) → check_refusal f.number (p + f.place) ≡ part_check (Ok p) b
  unfolding part_check
  part_fault h = rw (← e, ne_eqb f.number 0 h)

-- a file, by its length and its part
module _ (b : List ℕ) where
  pub file_long : 524288 < length b → check_refusal 5 0 ≡ file_check b
  unfolding file_check
  file_long h = rw (lt-ltb 524288 (length b) h)

  pub file_part : (p : Result ℕ NoPart) → length b ≤ 524288 → p ≡ commands_at b → part_check p b ≡ file_check b
  unfolding file_check
  file_part p h e = rw (e, le-ltb 524288 (length b) h)

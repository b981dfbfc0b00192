-- A recording that passes: from its beginning the cursor gives its acts, one after the other, and then the end. Assumes nothing.
use Prim.Native.Nat.{ℕ, ◌≤◌, ◌<◌}
use mathlib.Core.Path.{◌≡◌, refl}
use mathlib.Core.Bool.{Bool, true, false, not}
use mathlib.Core.List.{List}
use native.Mathlib.Omega.{arith}
use borrow.Author.Tests.{ne_eqb, leb-true}
use lib.Dec.{eqb, ltb, leb}
use lib.ListN.{length}
use Rattle.arith.specs.Pick.{both}
use Rattle.arith.proofs.PickLaws.{pick_both, pick_each, both_left}
use Rattle.text.specs.Ascii.{bytes}
use Rattle.reading.specs.Saying.{on, Gives}
use Rattle.reading.proofs.SayingLaws.{by_on}
use Rattle.log_line.specs.declared.Act.{Act}
use Rattle.log_rules.specs.Tree.{acts}
use Rattle.log_cursor.specs.declared.Cursor as log
use Rattle.log_cursor.specs.Stepping as stepping
use Rattle.log_cursor.proofs.Whole as whole
use Rattle.std.specs.Prelude.{Result, Ok, Err}
use Rattle.vgm_file.specs.Header.{word, data_start, is_dual, is_pal_file, commands_at}
use Rattle.vgm_file.specs.declared.NoPart.{NoPart}
use Rattle.vgm_cursor.specs.declared.Spot.{Spot}
use Rattle.vgm_cursor.specs.Walking as walking
use Rattle.vgm_cursor.proofs.WalkLaws.{stream_gives, step_onward}
use Rattle.recording.specs.Whole.{is_file, start_of, tree_of, check_of}
use Rattle.recording.proofs.KindLaws.{log_tree, log_check, file_machine, file_tree_lem}
use Rattle.recording.proofs.Passing.{FilePasses, file_passes, file_stream, file_clocks, file_acts}
use Rattle.recording_cursor.specs.Stepping.{go, cursor_of, beginning, line_step, moved_by, head_step, file_step, step_of}
use Rattle.recording_cursor.proofs.Along.{gives_along}

-- A LOG: what its own cursor gives, this one does
log_gives : (b : List ℕ) → is_file b ≡ false → {c : log.Cursor} {l : List Act} {f : ℕ} → Gives (stepping.step_of b) c l f → Gives (step_of b) (cursor_of c 0 0) l f
unfolding step_of line_step
log_gives b n g = gives_along (stepping.step_of b) (step_of b) (λ c. cursor_of c 0 0) (λ c. Unit {0}) (λ c h. rw n) (λ c h. tt) tt g

-- A FILE

-- its commands begin behind its header
abbrev Behind : Result ℕ NoPart → Type 0
Behind (Ok p) = 0x38 ≤ p
Behind (Err e) = Unit {0}

commands_behind : (b : List ℕ) → Behind (commands_at b)
unfolding commands_at
commands_behind b =
    let inside = both (leb 0x38 (data_start b)) (leb (data_start b) (length b)) in
    pick_both Behind (not (eqb (word b 0) (word (bytes "Vgm ") 0))) tt
    (pick_both Behind (ltb (length b) 0x40) tt
    (pick_each Behind inside (λ e. pick_both Behind (is_dual b) tt (leb-true 0x38 (data_start b) (both_left (leb 0x38 (data_start b)) (leb (data_start b) (length b)) e))) (λ e. tt)))

start_behind : (b : List ℕ) → FilePasses b → 0 < start_of b
start_behind b p = let h = rw p.commands at (commands_behind b) in omega (arith, p.start)

module _ (b : List ℕ) (file : is_file b ≡ true) where
  -- behind the header, what its commands give
  commands_give : (s : Spot) {l : List Act} {f : ℕ} → 0 < s.at → Gives (walking.step_of (is_pal_file b) b) s l f → Gives (step_of b) (moved_by beginning s) l f
  unfolding step_of file_step
  commands_give s h g =
      gives_along (walking.step_of (is_pal_file b) b) (step_of b) (moved_by beginning) (λ c. 0 < c.at)
      (λ c i. rw (file, ne_eqb c.at 0 (λ z. omega arith), file_machine b file))
      (λ c i. (let o = step_onward (is_pal_file b) c b in omega arith))
      h g

  header_said : 0 < start_of b → step_of b beginning ≡ go on (moved_by beginning (walking.spot_of (start_of b) 0 0))
  unfolding step_of file_step head_step
  header_said h = rw (file, ne_eqb (start_of b) 0 (λ z. omega arith))

  -- a step for the header, one for each command, for each act, and for the end, at most
  file_gives : FilePasses b → Gives (step_of b) beginning (acts (tree_of b)) 2000002
  file_gives p =
      let place = start_behind b p in
      let few = rw p.tree at (file_acts b p) in
      rw (file_tree_lem b file, p.tree)
      (by_on (step_of b) 2000002 (header_said place)
      (commands_give (walking.spot_of (start_of b) 0 0) place (stream_gives (is_pal_file b) b (start_of b) p.said (file_stream b p) (file_clocks b p)))
      (omega (arith, p.short)))

-- A RECORDING, in 2,000,002 steps at most
pub cursor_gives : (b : List ℕ) → (check_of b).number ≡ 0 → Gives (step_of b) beginning (acts (tree_of b)) 2000002
cursor_gives b h = by (is_file b) refl
  where
    by : (t : Bool) → is_file b ≡ t → Gives (step_of b) beginning (acts (tree_of b)) 2000002
    by true e = file_gives b e (file_passes b e h)
    by false e = rw (log_tree b e) (log_gives b e (whole.cursor_gives b (rw (log_check b e) at h)))

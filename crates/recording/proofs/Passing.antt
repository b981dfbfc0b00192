-- A recording that passes: its totals, its acts, and what the check answers. Assumes nothing.
use Prim.Native.Nat.{ℕ, ◌+◌, ◌≤◌}
use mathlib.Core.Path.{◌≡◌, refl, ap}
use mathlib.Core.Bool.{Bool, true, false}
use mathlib.Core.List.{List}
use native.Mathlib.Omega.{arith}
use borrow.Author.Tests.{eqb-true, eqb-false, eq-eqb, ltb-false, le-ltb}
use lib.Dec.{eqb, ltb}
use lib.ListN.{length, drop}
use Rattle.arith.specs.Pick.{pick}
use Rattle.log_rules.specs.Tree.{acts, clocks, turns, Within}
use Rattle.log_rules.specs.Whole.{check_refusal, passed_check, heavy}
use Rattle.log_passing.proofs.Passing as log
use Rattle.log_passing.proofs.Passing.{heavy_not, not_heavy}
use Rattle.vgm_stream.specs.declared.Said.{Said}
use Rattle.vgm_stream.specs.Stream.{Stream, ended, refused, stream_of}
use Rattle.vgm_measure.specs.Import.{tree_for, clocks_for}
use Rattle.vgm_measure.proofs.FaultLaws.{Refused, refused_place, numbered}
use Rattle.vgm_import.proofs.ImportLaws as import
use Rattle.vgm_blocks.specs.Blocks.{front_blocks, front_end, judged}
use Rattle.vgm_blocks.specs.declared.Filled.{Filled}
use Rattle.std.specs.Prelude.{Result, Ok, Err}
use Rattle.vgm_file.specs.Header.{commands_at, is_pal_file}
use Rattle.vgm_file.specs.declared.NoPart.{NoPart}
use Rattle.vgm_file.specs.declared.NoPart.TheVariants as no
use Rattle.recording.specs.Whole.{is_file, start_of, stream_in, said_in, file_tree, commands_check, part_check, file_check, machine_of, tree_of, check_of}
use Rattle.recording.proofs.ByteLaws.{bytes_of, bytes_drop}
use Rattle.recording.proofs.FileLaws.{start_from, tree_items}
use Rattle.recording.proofs.KindLaws.{log_machine, log_tree, log_check, file_machine, file_tree_lem, file_check_lem, file_bytes_lem}

-- A FILE THAT PASSES

pub record FilePasses (b : List ℕ) : Type 0 where
  pub short : length b ≤ 524288
  -- its part, whose blocks in front are right; its commands begin behind them
  pub from : ℕ
  pub commands : commands_at b ≡ Ok from
  pub blocks : (judged (front_blocks (drop from b)) 0).number ≡ 0
  pub start : start_of b ≡ from + front_end (drop from b)
  -- what its commands say, and its totals
  pub said : List Said
  pub is : stream_in b ≡ ended said
  pub tree : file_tree b ≡ tree_for (is_pal_file b) said
  pub in_clocks : clocks (file_tree b) ≤ 2000000000
  pub in_turns : turns (file_tree b) ≤ 1000000

-- its commands
record CommandsPass (b : List ℕ) : Type 0 where
  said : List Said
  is : stream_in b ≡ ended said
  light : heavy (tree_for (is_pal_file b) said) ≡ false

commands_pass : (b : List ℕ) (size : ℕ) (x : Stream) → Refused size x → stream_in b ≡ x → (commands_check b x).number ≡ 0 → CommandsPass b
unfolding commands_check
commands_pass b size (refused k p) r e h = let z = (numbered size k p r).0 in absurd (omega arith)
commands_pass b size (ended l) r e h = by (heavy (tree_for (is_pal_file b) l)) refl h
  where
    by : (t : Bool) → heavy (tree_for (is_pal_file b) l) ≡ t → (pick t (check_refusal 9 0) (passed_check (is_pal_file b) (tree_for (is_pal_file b) l))).number ≡ 0 → CommandsPass b
    by true f h = absurd (omega arith)
    by false f h = record { said = l; is = e; light = f }

commands_of : (b : List ℕ) → (commands_check b (stream_in b)).number ≡ 0 → CommandsPass b
unfolding stream_in
commands_of b h = let s = drop (start_of b) b in commands_pass b (length s) (stream_of s) (refused_place s) refl h

pub tree_of_lem : (b : List ℕ) (l : List Said) → stream_in b ≡ ended l → file_tree b ≡ tree_for (is_pal_file b) l
unfolding file_tree said_in
tree_of_lem b l e = rw e

-- its blocks
blocks_pass : (b : List ℕ) → length b ≤ 524288 → (p : ℕ) → commands_at b ≡ Ok p → (f : Filled) → judged (front_blocks (drop p b)) 0 ≡ f
    → (pick (eqb f.number 0) (commands_check b (stream_in b)) (check_refusal f.number (p + f.place))).number ≡ 0 → FilePasses b
blocks_pass b short p e f j h = by (eqb f.number 0) refl h
  where
    by : (t : Bool) → eqb f.number 0 ≡ t → (pick t (commands_check b (stream_in b)) (check_refusal f.number (p + f.place))).number ≡ 0 → FilePasses b
    by true d h =
        let c = commands_of b h in
        let t = tree_of_lem b c.said c.is in
        let w = heavy_not (tree_for (is_pal_file b) c.said) c.light in
        record {
          short = short;
          from = p;
          commands = e;
          blocks = rw j (eqb-true f.number 0 d);
          start = start_from b p e;
          said = c.said;
          is = c.is;
          tree = t;
          in_clocks = rw t w.0;
          in_turns = rw t w.1;
        }
    by false d h = absurd (eqb-false f.number 0 d h)

-- its part
part_pass : (b : List ℕ) → length b ≤ 524288 → (p : Result ℕ NoPart) → commands_at b ≡ p → (part_check p b).number ≡ 0 → FilePasses b
unfolding part_check
part_pass b short (Err no.NoVgm) e h = absurd (omega arith)
part_pass b short (Err no.Cut) e h = absurd (omega arith)
part_pass b short (Err no.Outside) e h = absurd (omega arith)
part_pass b short (Err no.Dual) e h = absurd (omega arith)
part_pass b short (Ok p) e h = blocks_pass b short p e (judged (front_blocks (drop p b)) 0) refl h

passes_of : (b : List ℕ) → (file_check b).number ≡ 0 → FilePasses b
unfolding file_check
passes_of b h = by (ltb 524288 (length b)) refl h
  where
    by : (t : Bool) → ltb 524288 (length b) ≡ t → (pick t (check_refusal 5 0) (part_check (commands_at b) b)).number ≡ 0 → FilePasses b
    by true e h = absurd (omega arith)
    by false e h = part_pass b (ltb-false 524288 (length b) e) (commands_at b) refl h

pub file_passes : (b : List ℕ) → is_file b ≡ true → (check_of b).number ≡ 0 → FilePasses b
file_passes b e h = passes_of b (rw (file_check_lem b e) at h)

-- its stream, its clocks by its samples, and its acts
module _ (b : List ℕ) (p : FilePasses b) where
  pub file_stream : stream_of (drop (start_of b) b) ≡ ended p.said
  unfolding stream_in
  file_stream = p.is

  pub file_clocks : clocks_for (is_pal_file b) p.said ≤ 2000000000
  file_clocks = omega (arith, p.in_clocks, ap clocks p.tree, import.tree_clocks (is_pal_file b) p.said)

  pub file_acts : length (acts (file_tree b)) ≤ 1000000
  file_acts = rw p.tree (omega (arith, p.in_turns, ap turns p.tree, tree_items (is_pal_file b) p.said))

-- there the answer holds its machine and its totals
commands_answer : (b : List ℕ) (l : List Said) → stream_in b ≡ ended l → heavy (tree_for (is_pal_file b) l) ≡ false
    → commands_check b (stream_in b) ≡ passed_check (is_pal_file b) (tree_for (is_pal_file b) l)
unfolding commands_check
commands_answer b l e h = rw (e, h)

pub file_answer : (b : List ℕ) → FilePasses b → file_check b ≡ passed_check (is_pal_file b) (file_tree b)
unfolding file_check part_check
file_answer b p =
    let light = rw p.tree at (not_heavy (file_tree b) p.in_clocks p.in_turns) in
    rw (le-ltb 524288 (length b) p.short, p.commands, eq-eqb (judged (front_blocks (drop p.from b)) 0).number 0 p.blocks, p.tree)
    (commands_answer b p.said p.is light)

-- its tree is within the limits: what is written is a byte, as all that is lent
file_within : (b : List ℕ) → is_file b ≡ true → FilePasses b → Within (file_tree b) 0
unfolding stream_in
file_within b e p =
    let s = drop (start_of b) b in
    rw p.tree (import.tree_within (is_pal_file b) p.said (import.said_sound s (bytes_of s (bytes_drop (start_of b) b (file_bytes_lem b e))) p.said p.is))

-- A RECORDING THAT PASSES

pub record Clear (b : List ℕ) : Type 0 where
  pub in_clocks : clocks (tree_of b) ≤ 2000000000
  pub in_turns : turns (tree_of b) ≤ 1000000

pub clear : (b : List ℕ) → (check_of b).number ≡ 0 → Clear b
clear b h = by (is_file b) refl
  where
    by : (t : Bool) → is_file b ≡ t → Clear b
    by true e =
        let p = file_passes b e h in
        record { in_clocks = rw (file_tree_lem b e) p.in_clocks; in_turns = rw (file_tree_lem b e) p.in_turns }
    by false e =
        let c = log.clear b (rw (log_check b e) at h) in
        record { in_clocks = rw (log_tree b e) c.in_clocks; in_turns = rw (log_tree b e) c.in_turns }

-- the answer holds the machine and the tree's totals, whole and exact
pub passes : (b : List ℕ) → (check_of b).number ≡ 0 → check_of b ≡ passed_check (machine_of b) (tree_of b)
passes b h = by (is_file b) refl
  where
    by : (t : Bool) → is_file b ≡ t → check_of b ≡ passed_check (machine_of b) (tree_of b)
    by true e = rw (file_check_lem b e, file_machine b e, file_tree_lem b e) (file_answer b (file_passes b e h))
    by false e = rw (log_check b e, log_machine b e, log_tree b e) (log.passes (log.clear b (rw (log_check b e) at h)))

-- its acts are within the limits
pub tree_within : (b : List ℕ) → (check_of b).number ≡ 0 → Within (tree_of b) 0
tree_within b h = by (is_file b) refl
  where
    by : (t : Bool) → is_file b ≡ t → Within (tree_of b) 0
    by true e = rw (file_tree_lem b e) (file_within b e (file_passes b e h))
    by false e = rw (log_tree b e) (log.stands b (rw (log_check b e) at h)).within

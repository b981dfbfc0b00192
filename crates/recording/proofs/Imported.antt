-- "where the import succeeds, playing the file and playing the imported log say the same": a file and the log that it is brought in as have one machine, one tree of
-- acts, and one answer of the check; all that is played is made of these. Assumes nothing.
use Prim.Native.Nat.{ℕ, ◌+◌, ◌≤◌}
use mathlib.Core.Path.{◌≡◌, refl, sym, ap, ◌∙◌}
use mathlib.Core.Bool.{Bool, true, false}
use mathlib.Core.List.{List, [], ◌∷◌}
use native.Mathlib.Omega.{arith}
use native.Mathlib.Nat.{add-zero}
use borrow.Author.Tests.{eqb-true}
use lib.Dec.{eqb}
use lib.ListN.{length, take, drop}
use Rattle.log_rules.specs.Tree.{Tree, clocks, log_text}
use Rattle.log_rules.specs.Whole.{passed_check}
use Rattle.log_rules.specs.declared.Checked.{Checked}
use Rattle.log_passing.proofs.Passing.{printed}
use Rattle.vgm_stream.specs.declared.Said.{Said}
use Rattle.vgm_stream.specs.Stream.{ended, after, command_of, byte_step, stream_from, stream_of}
use Rattle.vgm_measure.specs.Import.{tree_for, text_of, import_for, buffer_for}
use Rattle.vgm_measure.proofs.AnswerLaws.{Imports, imports}
use Rattle.vgm_import.proofs.BufferLaws.{front_is}
use Rattle.vgm_import.proofs.ImportLaws as import
use Rattle.vgm_blocks.specs.Blocks.{is_block, front_blocks, front_end, judged}
use Rattle.vgm_blocks.proofs.FuelLaws.{rest_front, end_front, end_over}
use Rattle.vgm_blocks.proofs.JudgeLaws.{judge_end}
use Rattle.std.specs.Prelude.{Ok}
use Rattle.vgm_file.specs.Header.{commands_at, is_pal_file}
use Rattle.recording.specs.Whole.{is_file, start_of, stream_in, file_tree, machine_of, tree_of, check_of}
use Rattle.recording.proofs.ByteLaws.{bytes_of, bytes_drop}
use Rattle.recording.proofs.FileLaws.{start_from}
use Rattle.recording.proofs.KindLaws.{log_machine, log_tree, log_check, file_machine, file_tree_lem, file_check_lem, file_bytes_lem, passing_log}
use Rattle.recording.proofs.Passing.{FilePasses, tree_of_lem, file_answer}

-- A STREAM THAT ENDS HAS NO BLOCK IN FRONT: a block's first byte is no command

block_refused : (r : List ℕ) (l : List Said) → stream_of (0x67 ∷ r) ≡ ended l → ⊥
unfolding stream_of stream_from byte_step command_of after
block_refused r l e = let z : ◌≡◌ {A = ℕ} 0 1 = cc in omega arith

no_front : (s : List ℕ) (l : List Said) → stream_of s ≡ ended l → is_block s 0 ≡ false
unfolding is_block
no_front [] l e = refl
no_front (x ∷ r) l e = by (eqb x 0x67) refl
  where
    by : (t : Bool) → eqb x 0x67 ≡ t → is_block (x ∷ r) 0 ≡ false
    by true d = absurd (block_refused r l (rw (eqb-true x 0x67 d) at e))
    by false d = rw d

pub front_none : (s : List ℕ) (l : List Said) → stream_of s ≡ ended l → front_end s ≡ 0
front_none s l e = end_front s ∙ end_over s 0 (no_front s l e)

blocks_none : (s : List ℕ) (l : List Said) → stream_of s ≡ ended l → (judged (front_blocks s) 0).number ≡ 0
blocks_none s l e = rw (rest_front s, judge_end s 0 0 (no_front s l e))

-- THE LOG of what is said, for a machine
record LogOf (pal : Bool) (t : Tree) (text : List ℕ) : Type 0 where
  machine : machine_of text ≡ pal
  tree : tree_of text ≡ t
  check : check_of text ≡ passed_check pal t

log_of : (pal : Bool) (s : List ℕ) (room : ℕ) → import.Bytes s → (i : Imports pal room (stream_of s)) → LogOf pal (tree_for pal i.said) (text_of pal (stream_of s))
log_of pal s room b i =
    let l = i.said in
    let w = i.weight in
    let t = tree_for pal l in
    let ti = import.text_is pal l in
    let p = printed pal t (import.tree_within pal l (import.said_sound s b l i.is)) (omega (arith, w.clocks, import.tree_clocks pal l)) w.turns (omega (arith, w.short, ap length ti)) in
    let same : text_of pal (stream_of s) ≡ log_text pal t (clocks t) = ap (text_of pal) i.is ∙ (import.text_ended pal l ∙ ti) in
    let n = passing_log (log_text pal t (clocks t)) (ap (λ (c : Checked). c.number) p.0) in
    rw same (record {
      machine = log_machine (log_text pal t (clocks t)) n ∙ p.2;
      tree = log_tree (log_text pal t (clocks t)) n ∙ p.1;
      check = log_check (log_text pal t (clocks t)) n ∙ p.0;
    })

-- THE TWO ARE THE SAME
pub record Same (b text : List ℕ) : Type 0 where
  pub machine : machine_of text ≡ machine_of b
  pub tree : tree_of text ≡ tree_of b
  -- both pass, with the same totals; of a file that is too long nothing is said
  pub passes : (check_of text).number ≡ 0
  pub check : length b ≤ 524288 → check_of text ≡ check_of b

module _ (b : List ℕ) (p room : ℕ) (f : is_file b ≡ true) (e : commands_at b ≡ Ok p) (i : Imports (is_pal_file b) room (stream_of (drop p b))) where
  begins : start_of b ≡ p
  begins = start_from b p e ∙ (ap (λ (n : ℕ). p + n) (front_none (drop p b) i.said i.is) ∙ add-zero p)

  says : stream_in b ≡ ended i.said
  unfolding stream_in
  says = rw begins i.is

  stands_for : file_tree b ≡ tree_for (is_pal_file b) i.said
  stands_for = tree_of_lem b i.said says

  file_right : length b ≤ 524288 → FilePasses b
  file_right short =
      let w = i.weight in
      record {
        short = short;
        from = p;
        commands = e;
        blocks = blocks_none (drop p b) i.said i.is;
        start = start_from b p e;
        said = i.said;
        is = says;
        tree = stands_for;
        in_clocks = rw stands_for (omega (arith, w.clocks, import.tree_clocks (is_pal_file b) i.said));
        in_turns = rw stands_for w.turns;
      }

  same : Same b (text_of (is_pal_file b) (stream_of (drop p b)))
  same =
      let g = log_of (is_pal_file b) (drop p b) room (bytes_of (drop p b) (bytes_drop p b (file_bytes_lem b f))) i in
      record {
        machine = g.machine ∙ sym (file_machine b f);
        tree = g.tree ∙ (sym stands_for ∙ sym (file_tree_lem b f));
        passes = ap (λ (c : Checked). c.number) g.check;
        check = λ short. g.check ∙ (ap (passed_check (is_pal_file b)) (sym stands_for) ∙ (sym (file_answer b (file_right short)) ∙ sym (file_check_lem b f)));
      }

pub imported_same : (b : List ℕ) (p room : ℕ) → is_file b ≡ true → commands_at b ≡ Ok p → (import_for (machine_of b) (drop p b) room).number ≡ 0
    → Same b (text_of (machine_of b) (stream_of (drop p b)))
imported_same b p room f e done =
    rw (file_machine b f) (same b p room f e (imports (is_pal_file b) (drop p b) room (rw (file_machine b f) at done)))

-- the log as the import leaves it in a buffer
pub imported_buffer : (b out : List ℕ) (p : ℕ) → is_file b ≡ true → commands_at b ≡ Ok p → (done : (import_for (machine_of b) (drop p b) (length out)).number ≡ 0)
    → Same b (take (import_for (machine_of b) (drop p b) (length out)).length (buffer_for (machine_of b) (drop p b) out))
imported_buffer b out p f e done = rw (front_is (machine_of b) (drop p b) out done) (imported_same b p (length out) f e done)

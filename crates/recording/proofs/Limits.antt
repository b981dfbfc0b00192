-- What a check answers is within limits: its number, its place, and its clocks. Assumes nothing.
use Prim.Native.Nat.{ℕ, ◌+◌, ◌%◌, ◌^◌, ◌≤◌}
use mathlib.Core.Path.{◌≡◌, refl}
use mathlib.Core.List.{List}
use native.Mathlib.Omega.{arith}
use borrow.Author.Tests.{ltb-false}
use lib.Dec.{eqb, ltb}
use lib.ListN.{length, drop, length-drop}
use Rattle.arith.proofs.PickLaws.{pick_both, pick_each}
use Rattle.log_rules.specs.Whole as whole
use Rattle.log_rules.specs.Whole.{check_refusal, heavy}
use Rattle.log_rules.specs.declared.Checked.{Checked}
use Rattle.log_rules.proofs.Limits as log
use Rattle.log_passing.proofs.Passing.{heavy_not}
use Rattle.vgm_stream.specs.Stream.{Stream, ended, refused, stream_of}
use Rattle.vgm_measure.specs.Import.{tree_for}
use Rattle.vgm_measure.proofs.FaultLaws.{Refused, refused_place, numbered}
use Rattle.vgm_blocks.specs.Blocks.{front_blocks, judged}
use Rattle.vgm_blocks.proofs.LimitLaws.{judged_within}
use Rattle.std.specs.Prelude.{Result, Ok, Err}
use Rattle.vgm_file.specs.Header.{commands_at, is_pal_file}
use Rattle.vgm_file.specs.declared.NoPart.{NoPart}
use Rattle.vgm_file.specs.declared.NoPart.TheVariants as no
use Rattle.vgm_file.proofs.HeaderLaws.{from_inside}
use Rattle.recording.specs.Whole.{is_file, start_of, stream_in, commands_check, part_check, file_check, check_of}
use Rattle.recording.proofs.FileLaws.{start_within}

pub record Limited (c : Checked) : Type 0 where
  pub number : c.number ≤ 36
  pub place : c.place ≤ 524288
  pub clocks : c.clocks ≤ 2000000000

refusal_in : (k p : ℕ) → k ≤ 36 → p ≤ 524288 → Limited (check_refusal k p)
refusal_in k p n h = record { number = n; place = h; clocks = omega arith }

log_in : (b : List ℕ) → Limited (whole.check_of b)
log_in b =
    let l = log.check_limits b in
    record { number = (let h = l.number in omega arith); place = (let h = l.place in omega arith); clocks = l.clocks }

-- a file of so many bytes at most
module _ (b : List ℕ) (short : length b ≤ 524288) where
  commands_in : (size : ℕ) → start_of b + size ≤ length b → (x : Stream) → Refused size x → Limited (commands_check b x)
  unfolding commands_check
  commands_in size h (refused k p) r =
      let n = numbered size k p r in
      refusal_in k (start_of b + p) (omega (arith, n.1)) (omega (arith, n.2))
  commands_in size h (ended l) r =
      pick_each Limited (heavy (tree_for (is_pal_file b) l)) (λ e. refusal_in 9 0 (omega arith) (omega arith))
      (λ e. record { number = omega arith; place = omega arith; clocks = (heavy_not (tree_for (is_pal_file b) l) e).0 })

  stream_in_lem : Limited (commands_check b (stream_in b))
  unfolding stream_in
  stream_in_lem =
      let s = drop (start_of b) b in
      commands_in (length s) (omega (arith, start_within b, length-drop (start_of b) b)) (stream_of s) (refused_place s)

  part_in : (p : Result ℕ NoPart) → commands_at b ≡ p → Limited (part_check p b)
  unfolding part_check
  part_in (Ok p) e =
      let f = judged (front_blocks (drop p b)) 0 in
      let w = judged_within (drop p b) 0 in
      pick_both Limited (eqb f.number 0) stream_in_lem
      (refusal_in f.number (p + f.place) (omega (arith, w.number)) (omega (arith, w.place, from_inside b p e, length-drop p b)))
  part_in (Err no.NoVgm) e = refusal_in 35 0 (omega arith) (omega arith)
  part_in (Err no.Cut) e = refusal_in 35 0 (omega arith) (omega arith)
  part_in (Err no.Outside) e = refusal_in 35 0 (omega arith) (omega arith)
  part_in (Err no.Dual) e = refusal_in 36 0x84 (omega arith) (omega arith)

file_in : (b : List ℕ) → Limited (file_check b)
unfolding file_check
file_in b =
    pick_each Limited (ltb 524288 (length b)) (λ e. refusal_in 5 0 (omega arith) (omega arith))
    (λ e. part_in b (ltb-false 524288 (length b) e) (commands_at b) refl)

pub check_limits : (b : List ℕ) → Limited (check_of b)
unfolding check_of
check_limits b = pick_both Limited (is_file b) (file_in b) (log_in b)

-- a place in a recording has 24 bits
pub place_is : (place : ℕ) → place ≤ 524288 → place % 2 ^ 24 ≡ place
place_is place h = omega arith

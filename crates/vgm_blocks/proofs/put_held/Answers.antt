use Prim.Native.Nat.{ℕ, ◌-◌}
use mathlib.Core.List.{List}
use mathlib.Core.Path.{ap, ◌∙◌}
use lib.ListN.{length, take, drop}
use Rattle.text.proofs.KeyLaws.{take_rest}
use Rattle.c_bytes.specs.Numbers.{wide_of}
use Rattle.text_print.specs.Printed.{printed}
use Rattle.vgm_blocks.specs.Blocks.{block_at, address_of}
use Rattle.vgm_blocks.proofs.FillLaws.{has_address, fill_held}
use Rattle.vgm_blocks.proofs.put_held.Goals as goal

pub slice_bounds-fixed-count : goal.slice_bounds-fixed-count
slice_bounds-fixed-count c =
    let two = has_address (block_at c.args.stream.now c.args.at) c.requires.at_value_2 c.requires.at_value_3 in
    rw c.held-bytes.ensures two

pub slice_bounds-fixed-start : goal.slice_bounds-fixed-start
slice_bounds-fixed-start c = slice_bounds-fixed-count c

pub returns : goal.returns
unfolding address_of
returns c =
    let b = block_at c.args.stream.now c.args.at in
    let bytes = c.held-bytes.ensures in
    let from = c.saturating_sub-from.ensures ∙ ap (λ (x : ℕ). x - 0x8000) (c.u16_at-address.ensures ∙ ap (λ (r : List ℕ). wide_of r 0 2) bytes) in
    let l = c.held-bytes.result.now in
    let part = take_rest 2 l ∙ ap (drop 2) bytes in
    fill_held b c.requires.at_value_2 c.requires.at_value_3 c.args.memory.now _ c.requires.memory_len
    (c.fixed.ensures.out_after
    ∙ ap (λ (i : ℕ). printed c.args.memory.now i (take (length l - 2) (drop 2 l))) from
    ∙ ap (printed c.args.memory.now (address_of b - 0x8000)) part)

pub held-bytes-requires : goal.held-bytes-requires
held-bytes-requires c = c.requires.at_value

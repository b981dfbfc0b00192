use native.Mathlib.Omega.{arith}
use Rattle.text.specs.Ascii.{bytes}
use Rattle.play_text.specs.declared.Entry.TheVariants.{Play}
use Rattle.play_text.specs.Entries.{entry_text}
use Rattle.text_print.proofs.PieceLaws.{put_last}
use Rattle.play_text.proofs.PieceLaws.{lined}
use Prim.Native.Nat.{◌+◌, ◌≤◌}
use lib.ListN.{length}
use Rattle.play_text.proofs.TextLaws.{play_size}
use Rattle.play_text.proofs.play_line.Goals as goal

pub returns : goal.returns
unfolding entry_text
returns c = let room : c.args.at + length (entry_text Play) ≤ length c.args.out.now = omega (arith, play_size, c.requires) in
    lined c.args.out.now c.args.at Play _ _ room
    (put_last c.args.out.now c.args.at (bytes "play=1\n") c.fixed.new.out c.fixed.result room c.fixed.ensures.value c.fixed.ensures.out_after)

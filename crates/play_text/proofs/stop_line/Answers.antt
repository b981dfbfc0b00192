use native.Mathlib.Omega.{arith}
use mathlib.Core.List.{◌++◌}
use Rattle.text.specs.Ascii.{bytes}
use Rattle.text.specs.Decimal.{decimal_text}
use Rattle.play_text.specs.declared.Entry.TheVariants.{Stop}
use Rattle.play_text.specs.Entries.{entry_text}
use Rattle.text_print.proofs.PieceLaws.{put_last, put_more}
use Rattle.play_text.proofs.PieceLaws.{lined}
use Prim.Native.Nat.{◌+◌, ◌≤◌}
use lib.ListN.{length}
use Rattle.play_text.proofs.TextLaws.{stop_size}
use Rattle.play_text.proofs.stop_line.Goals as goal

pub returns : goal.returns
unfolding entry_text
returns c = let room : c.args.at + length (entry_text (Stop c.args.time)) ≤ length c.args.out.now = omega (arith, stop_size c.args.time, c.requires) in
    lined c.args.out.now c.args.at (Stop c.args.time) _ _ room
    (put_more c.args.out.now c.args.at (bytes "stop=") ((decimal_text c.args.time) ++ ((bytes "\n"))) c.fixed-a.new.out c.fixed-a.result c.fixed.new.out c.fixed.result room c.fixed-a.ensures.value c.fixed-a.ensures.out_after (λ h0.
    (put_more c.fixed-a.new.out c.fixed-a.result (decimal_text c.args.time) ((bytes "\n")) c.decimal-b.new.out c.decimal-b.result c.fixed.new.out c.fixed.result h0 c.decimal-b.ensures.value c.decimal-b.ensures.out_after (λ h1.
    put_last c.decimal-b.new.out c.decimal-b.result (bytes "\n") c.fixed.new.out c.fixed.result h1 c.fixed.ensures.value c.fixed.ensures.out_after))))

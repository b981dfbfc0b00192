use native.Mathlib.Omega.{arith}
use mathlib.Core.List.{◌++◌}
use Rattle.text.specs.Ascii.{bytes}
use Rattle.text.specs.Decimal.{decimal_text}
use Rattle.text.specs.Hex.{hex_text}
use Rattle.play_text.specs.declared.Entry.TheVariants.{Read}
use Rattle.play_text.specs.Entries.{entry_text}
use Rattle.text_print.proofs.PieceLaws.{put_last, put_more}
use Rattle.play_text.proofs.PieceLaws.{lined}
use Prim.Native.Nat.{◌+◌, ◌≤◌}
use lib.ListN.{length}
use Rattle.play_text.proofs.TextLaws.{read_size}
use Rattle.play_text.proofs.read_line.Goals as goal

pub returns : goal.returns
unfolding entry_text
returns c = let room : c.args.at + length (entry_text (Read c.args.time c.args.byte)) ≤ length c.args.out.now = omega (arith, read_size c.args.time c.args.byte, c.requires) in
    lined c.args.out.now c.args.at (Read c.args.time c.args.byte) _ _ room
    (put_more c.args.out.now c.args.at (bytes "read=") ((decimal_text c.args.time) ++ ((bytes ":") ++ ((hex_text 2 c.args.byte) ++ ((bytes "\n"))))) c.fixed-a.new.out c.fixed-a.result c.fixed.new.out c.fixed.result room c.fixed-a.ensures.value c.fixed-a.ensures.out_after (λ h0.
    (put_more c.fixed-a.new.out c.fixed-a.result (decimal_text c.args.time) ((bytes ":") ++ ((hex_text 2 c.args.byte) ++ ((bytes "\n")))) c.decimal-b.new.out c.decimal-b.result c.fixed.new.out c.fixed.result h0 c.decimal-b.ensures.value c.decimal-b.ensures.out_after (λ h1.
    (put_more c.decimal-b.new.out c.decimal-b.result (bytes ":") ((hex_text 2 c.args.byte) ++ ((bytes "\n"))) c.fixed-c.new.out c.fixed-c.result c.fixed.new.out c.fixed.result h1 c.fixed-c.ensures.value c.fixed-c.ensures.out_after (λ h2.
    (put_more c.fixed-c.new.out c.fixed-c.result (hex_text 2 c.args.byte) ((bytes "\n")) c.hex-d.new.out c.hex-d.result c.fixed.new.out c.fixed.result h2 c.hex-d.ensures.value c.hex-d.ensures.out_after (λ h3.
    put_last c.hex-d.new.out c.hex-d.result (bytes "\n") c.fixed.new.out c.fixed.result h3 c.fixed.ensures.value c.fixed.ensures.out_after))))))))

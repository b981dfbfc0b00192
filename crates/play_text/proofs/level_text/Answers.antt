use mathlib.Core.List.{◌++◌}
use Rattle.text.specs.Ascii.{bytes}
use Rattle.text.specs.Decimal.{decimal_text}
use Rattle.play_text.specs.declared.Entry.TheVariants.{Level}
use Rattle.play_text.specs.Entries.{entry_text}
use Rattle.text_print.proofs.PieceLaws.{put_last, put_more}
use Rattle.play_text.proofs.PieceLaws.{lined}
use Rattle.play_text.proofs.level_text.Goals as goal

pub returns : goal.returns
unfolding entry_text
returns c = let room = c.requires in
    lined c.args.out.now c.args.at (Level c.args.time c.args.level) _ _ room
    (put_more c.args.out.now c.args.at (bytes "level=") ((decimal_text c.args.time) ++ ((bytes ":") ++ ((decimal_text c.args.level) ++ ((bytes "\n"))))) c.fixed-a.new.out c.fixed-a.result c.fixed.new.out c.fixed.result room c.fixed-a.ensures.value c.fixed-a.ensures.out_after (λ h0.
    (put_more c.fixed-a.new.out c.fixed-a.result (decimal_text c.args.time) ((bytes ":") ++ ((decimal_text c.args.level) ++ ((bytes "\n")))) c.decimal-b.new.out c.decimal-b.result c.fixed.new.out c.fixed.result h0 c.decimal-b.ensures.value c.decimal-b.ensures.out_after (λ h1.
    (put_more c.decimal-b.new.out c.decimal-b.result (bytes ":") ((decimal_text c.args.level) ++ ((bytes "\n"))) c.fixed-c.new.out c.fixed-c.result c.fixed.new.out c.fixed.result h1 c.fixed-c.ensures.value c.fixed-c.ensures.out_after (λ h2.
    (put_more c.fixed-c.new.out c.fixed-c.result (decimal_text c.args.level) ((bytes "\n")) c.decimal-d.new.out c.decimal-d.result c.fixed.new.out c.fixed.result h2 c.decimal-d.ensures.value c.decimal-d.ensures.out_after (λ h3.
    put_last c.decimal-d.new.out c.decimal-d.result (bytes "\n") c.fixed.new.out c.fixed.result h3 c.fixed.ensures.value c.fixed.ensures.out_after))))))))

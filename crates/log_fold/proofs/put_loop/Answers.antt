use mathlib.Core.List.{◌++◌}
use Rattle.log_line.specs.declared.Line.TheVariants.{Loop, Done}
use Rattle.log_line.specs.Printed.{line_text}
use Rattle.text_print.proofs.PieceLaws.{put_last, put_more}
use Rattle.log_fold.specs.Moves.{loop_text}
use Rattle.log_fold.proofs.put_loop.Goals as goal

pub returns : goal.returns
unfolding loop_text
returns c =
    let a = c.args in
    let f = c.put_line-a in
    let g = c.fixed-b in
    let h = c.put_line in
    let s = c.args.body.now in
    put_more a.out.now a.to (line_text (Loop a.c)) (s ++ line_text Done) f.new.out f.result h.new.out h.result c.requires f.ensures.value f.ensures.out_after (λ p.
    put_more f.new.out f.result s (line_text Done) g.new.out g.result h.new.out h.result p g.ensures.value g.ensures.out_after (λ q.
    put_last g.new.out g.result (line_text Done) h.new.out h.result q h.ensures.value h.ensures.out_after))

use mathlib.Core.List.{[], ◌∷◌, ◌++◌}
use Rattle.text.specs.Decimal.{decimal_text}
use Rattle.text_print.proofs.PieceLaws.{put_last, put_more}
use Rattle.log_writer.proofs.keyed.Goals as goal

pub returns : goal.returns
returns c =
    let a = c.args in
    let f = c.fixed-a in
    let d = c.decimal-b in
    let g = c.fixed in
    put_more a.out.now a.at a.key.now (decimal_text a.n ++ (10 ∷ [])) f.new.out f.result g.new.out g.result c.requires f.ensures.value f.ensures.out_after (λ h.
    put_more f.new.out f.result (decimal_text a.n) (10 ∷ []) d.new.out d.result g.new.out g.result h d.ensures.value d.ensures.out_after (λ k.
    put_last d.new.out d.result (10 ∷ []) g.new.out g.result k g.ensures.value g.ensures.out_after))

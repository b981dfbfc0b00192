use Rattle.text_print.proofs.StoreLaws.{hex_put}
use Rattle.text_print.proofs.four.Goals as goal

pub returns : goal.returns
returns c =
    let start = c.args in
    hex_put start.out.now start.at start.v _ _ c.two.ensures c.two-2.ensures

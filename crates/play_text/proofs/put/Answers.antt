use mathlib.Core.Path.{sym, ◌∙◌}
use borrow.Author.Tests.{leb-true}
use Rattle.play_text.specs.Entries.{entry_text}
use Rattle.play_text.proofs.LineLaws.{lines_in_lem, lines_end_lem, lines_out, lines_stay}
use Rattle.play_text.proofs.put.Goals as goal

pub line-requires : goal.line-requires
line-requires c = leb-true _ _ (sym c.left.ensures ∙ c.if-left.true)

pub returns-then-left : goal.returns-then-left
returns-then-left c =
    let a = c.args in
    let h = leb-true _ _ (sym c.left.ensures ∙ c.if-left.true) in
    let e = c.line.ensures in record { value = e.place ∙ sym (lines_end_lem a.out.now a.at 1 (entry_text a.n) h); out_after = e.bytes ∙ sym (lines_in_lem a.out.now a.at 1 (entry_text a.n) h) }

pub returns : goal.returns
returns c =
    let a = c.args in
    let h = sym c.left.ensures ∙ c.if-left.false in record { value = sym (lines_stay a.out.now a.at 1 (entry_text a.n) h); out_after = sym (lines_out a.out.now a.at 1 (entry_text a.n) h) }

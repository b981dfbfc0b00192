use Prim.Native.Nat.{◌+◌, ◌*◌, ◌≤◌}
use mathlib.Core.Path.{sym, ◌∙◌}
use native.Mathlib.Omega.{arith}
use lib.ListN.{length}
use borrow.Author.Tests.{leb-true}
use Rattle.play_text.specs.declared.Entry.TheVariants.{Level}
use Rattle.play_text.specs.Entries.{entry_text}
use Rattle.play_text.proofs.TextLaws.{level_size}
use Rattle.play_text.proofs.LineLaws.{lines_in_lem, lines_end_lem, lines_out, lines_stay}
use Rattle.play_text.proofs.level_line.Goals as goal

pub level_text-requires : goal.level_text-requires
level_text-requires c =
    let a = c.args in
    let h : a.at + 23 * 1 ≤ length a.out.now = leb-true _ _ (sym c.left.ensures ∙ c.if-left.true) in
    omega (arith, h, level_size a.time c.from.result (omega arith))

pub returns-then-left : goal.returns-then-left
returns-then-left c =
    let a = c.args in
    let h = leb-true _ _ (sym c.left.ensures ∙ c.if-left.true) in
    let e = rw c.from.ensures at c.level_text.ensures in record { value = e.place ∙ sym (lines_end_lem a.out.now a.at 1 (entry_text (Level a.time a.level)) h); out_after = e.bytes ∙ sym (lines_in_lem a.out.now a.at 1 (entry_text (Level a.time a.level)) h) }

pub returns : goal.returns
returns c =
    let a = c.args in
    let h = sym c.left.ensures ∙ c.if-left.false in record { value = sym (lines_stay a.out.now a.at 1 (entry_text (Level a.time a.level)) h); out_after = sym (lines_out a.out.now a.at 1 (entry_text (Level a.time a.level)) h) }

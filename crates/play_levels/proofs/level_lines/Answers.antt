use mathlib.Core.Path.{◌≡◌, sym, ap, ◌∙◌}
use native.Mathlib.Omega.{arith}
use Prim.Native.Nat.{ℕ, ◌+◌, ◌*◌, ◌≤◌}
use lib.ListN.{length}
use borrow.Author.Tests.{leb-true}
use Rattle.play_levels.specs.Levels.{level_entries}
use Rattle.play_text.proofs.LineLaws.{lines_in_lem, lines_end_lem, lines_out, lines_stay}
use Rattle.play_levels.proofs.LineLaws.{levels_all}
use Rattle.play_levels.proofs.level_lines.Goals as goal

pub records-requires : goal.records-requires
records-requires c =
    let a = c.args in
    let h : a.at + 23 * a.n ≤ length a.out.now = leb-true _ _ (sym c.left.ensures ∙ c.if-left.true) in
    let k = c.min in record { n_in_bounds = omega (arith, k.ensures); n_in_bounds_2 = omega (arith, h, k.ensures) }

pub returns-then-left : goal.returns-then-left
returns-then-left c =
    let a = c.args in
    let h = leb-true _ _ (sym c.left.ensures ∙ c.if-left.true) in
    let all : level_entries a.time c.min.result a.words.now ≡ level_entries a.time a.n a.words.now =
    ap (λ (k : ℕ). level_entries a.time k a.words.now) c.min.ensures ∙ levels_all a.time a.n a.words.now in
    let e = rw all at c.records.ensures.value in
    let q = rw all at c.records.ensures.out_after in record { value = e ∙ sym (lines_end_lem a.out.now a.at a.n _ h); out_after = q ∙ sym (lines_in_lem a.out.now a.at a.n _ h) }

pub returns : goal.returns
returns c =
    let a = c.args in
    let h = sym c.left.ensures ∙ c.if-left.false in record { value = sym (lines_stay a.out.now a.at a.n _ h); out_after = sym (lines_out a.out.now a.at a.n _ h) }

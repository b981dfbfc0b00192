use Prim.Native.Nat.{ℕ, ◌+◌, ◌*◌, ◌/◌, ◌≤◌}
use mathlib.Core.Path.{◌≡◌, ap, ◌∙◌}
use mathlib.Core.Bool.{Bool, true, false}
use native.Mathlib.Omega.{arith}
use lib.ListN.{length}
use Rattle.arith.specs.Pick.{pick}
use Rattle.play_text.proofs.LineLaws.{lines_in_lem, lines_end_lem}
use Rattle.play_levels.specs.declared.High.{High}
use Rattle.play_levels.proofs.AheadLaws.{ahead_exact}
use Rattle.play_levels.proofs.one_line.Goals as goal

-- there is room for a line either way
room : (b : Bool) (at size : ℕ) → at + pick b 46 23 ≤ size → at + 23 * 1 ≤ size
room true at size h = omega arith
room false at size h = omega arith

pub line_ahead-requires : goal.line_ahead-requires
line_ahead-requires c =
    let b : c.args.h.base ≡ c.args.time / 10000 * 10000 = ap (λ (h : High). h.base) c.requires.h_value.0 in record { at_in_bounds = rw c.if-more.true at c.requires.more_in_bounds; h_value = (c.requires.h_value.0, omega (arith, b, c.if-h-gt0.true), c.requires.h_value.1, c.requires.h_value.2) }

pub returns-then-h-gt0 : goal.returns-then-h-gt0
returns-then-h-gt0 c = rw c.if-more.true c.line_ahead.ensures

pub returns : goal.returns
returns c =
    let a = c.args in
    let h = room a.more a.at (length a.out.now) c.requires.more_in_bounds in
    let e = c.level_line.ensures in
    ahead_exact (pick a.more 8 0) a.out.now a.at _ _ _ (e.value ∙ lines_end_lem a.out.now a.at 1 _ h) (e.out_after ∙ lines_in_lem a.out.now a.at 1 _ h)

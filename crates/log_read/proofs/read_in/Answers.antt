use mathlib.Core.Path.{sym, ◌∙◌}
use native.Mathlib.Omega.{arith}
use Rattle.log_rules.proofs.PlaceLaws.{next_pos, next_le, read_is, read_long, read_none, read_reaches}
use Rattle.log_rules.proofs.NumberLaws.{reading_numbers}
use Rattle.log_rules.specs.Lines.{next_line}
use Rattle.log_read.proofs.read_in.Goals as goal

pub returns-then-log-gt-MOST : goal.returns-then-log-gt-MOST
returns-then-log-gt-MOST c = let pair = reading_numbers _ _ _ _ (sym (read_long _ c.args.log.now _ c.if-log-gt-MOST.true)) in record { value = pair.0; reading_is = pair.1 }

pub returns-then-log-at : goal.returns-then-log-at
returns-then-log-at c = let pair = reading_numbers _ _ _ _ (sym (read_none _ c.args.log.now _ c.if-log-gt-MOST.false c.if-log-at.true)) in record { value = pair.0; reading_is = pair.1 }

-- the line ends behind its start, within the log
pub slice_bounds-spot-count : goal.slice_bounds-spot-count
slice_bounds-spot-count c = let a = c.args in omega (arith, c.line_end-e.ensures, next_pos a.log.now a.at c.if-log-at.false)

pub slice_bounds-spot-start : goal.slice_bounds-spot-start
slice_bounds-spot-start c = let a = c.args in omega (arith, c.line_end-e.ensures, next_pos a.log.now a.at c.if-log-at.false)

pub slice_bounds-spot-end : goal.slice_bounds-spot-end
slice_bounds-spot-end c = let a = c.args in omega (arith, c.line_end-e.ensures, next_le a.log.now a.at (omega arith))

pub item_of-requires : goal.item_of-requires
unfolding next_line
item_of-requires c =
    let a = c.args in
    read_reaches a.stand a.log.now a.at _ _ c.if-log-gt-MOST.false c.if-log-at.false
    c.line_end-e.ensures c.spot.ensures.value

pub returns : goal.returns
unfolding next_line
returns c =
    let a = c.args in let pair = reading_numbers _ _ _ _
    (c.item_of.ensures
    ∙ read_is a.stand a.log.now a.at _ _ c.if-log-gt-MOST.false c.if-log-at.false
    c.line_end-e.ensures c.spot.ensures.value) in record { value = pair.0; reading_is = pair.1 }

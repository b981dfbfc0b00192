-- Small blocks and what comes out of them, computed. Assumes nothing.
use mathlib.Core.Path.{◌≡◌, refl}
use mathlib.Core.List.{[], ◌∷◌}
use Rattle.bus.specs.declared.Access.TheVariants.{Read}
use Rattle.text.specs.Key.{starts_with, exactly}
use Rattle.text.specs.Decimal.{digits_of, decimal_text}
use Rattle.log_line.specs.declared.Act.TheVariants.{Wait, Access}
use Rattle.log_line.specs.Printed.{act_text, ended, line_text}
use Rattle.log_rules.specs.Tree.{end, act, loop, times, turns, text}
use Rattle.log_fold_rules.specs.Ahead.{leading, in_front, same_line, begins_with, copies, copies_there}
use Rattle.log_fold_rules.specs.Folding.{shorter, suits, choice_in, choice, made, folded, folded_tree}

-- three reads have 30 bytes, and 27 as a loop
three : folded_tree (in_front (times 3 (Access Read ∷ [])) end) ≡ loop 3 (act (Access Read) end) end
unfolding starts_with exactly digits_of decimal_text act_text ended line_text times turns text leading in_front same_line begins_with copies copies_there shorter suits choice_in choice made folded folded_tree
three = refl

-- two copies of 17 bytes have 34, and 34 as a loop: the lines are copied
equal_size : folded_tree (in_front (times 2 (Wait 12 ∷ Wait 123 ∷ [])) end) ≡ in_front (times 2 (Wait 12 ∷ Wait 123 ∷ [])) end
unfolding starts_with exactly digits_of decimal_text act_text ended line_text times turns text leading in_front same_line begins_with copies copies_there shorter suits choice_in choice made folded folded_tree
equal_size = refl

-- one byte more, and they are folded
one_more : folded_tree (in_front (times 2 (Wait 123 ∷ Wait 124 ∷ [])) end) ≡ loop 2 (in_front (Wait 123 ∷ Wait 124 ∷ []) end) end
unfolding starts_with exactly digits_of decimal_text act_text ended line_text times turns text leading in_front same_line begins_with copies copies_there shorter suits choice_in choice made folded folded_tree
one_more = refl

-- a loop that is there is copied, and lines before and behind it are no copies of each other
around : folded_tree (in_front (times 2 (Access Read ∷ [])) (loop 2 (in_front (times 3 (Access Read ∷ [])) end) (in_front (times 3 (Access Read ∷ [])) end)))
    ≡ in_front (times 2 (Access Read ∷ [])) (loop 2 (in_front (times 3 (Access Read ∷ [])) end) (loop 3 (act (Access Read) end) end))
unfolding starts_with exactly digits_of decimal_text act_text ended line_text times turns text leading in_front same_line begins_with copies copies_there shorter suits choice_in choice made folded folded_tree
around = refl

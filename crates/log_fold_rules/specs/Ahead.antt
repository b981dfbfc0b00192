-- The lines ahead at a wait, write or read outside a loop, and how many copies of the next p of them stand there.
use Rattle.std.specs.Prelude.{ℕ, zero, suc, List, [], ◌∷◌, Bool, true, false, length, take, drop}
use Rattle.arith.specs.Pick.{pick, both}
use Rattle.text.specs.Key.{exactly}
use Rattle.log_line.specs.declared.Act.{Act}
use Rattle.log_line.specs.declared.Line.TheVariants.{One}
use Rattle.log_line.specs.Printed.{line_text}
use Rattle.log_rules.specs.Tree.{Tree, end, act, loop}

-- "the next p lines are all of these kinds": the waits, writes and reads in front of a block, up to its first other line
unfoldable pub leading : Tree → List Act
leading end = []
leading (act a t) = a ∷ leading t
leading (loop n b t) = []

-- "equal": the same bytes
unfoldable pub same_line : Act → Act → Bool
same_line a b = exactly (line_text (One a)) (line_text (One b))

-- the lines b stand at the front of s
unfoldable pub begins_with : List Act → List Act → Bool
begins_with [] s = true
begins_with (a ∷ b) [] = false
begins_with (a ∷ b) (c ∷ s) = both (same_line a c) (begins_with b s)

-- "equal copies of themselves": how many copies of b stand at the front of s, one behind the other; n at most
unfoldable pub copies : ℕ → List Act → List Act → ℕ
copies zero b s = 0
copies (suc n) b s = pick (begins_with b s) (suc (copies n b (drop (length b) s))) 0

-- "as many copies as stand there, the first counted, at most 255", of the next p lines
unfoldable pub copies_there : List Act → ℕ → ℕ
copies_there s p = copies 255 (take p s) s

-- these acts in front of a block
unfoldable pub in_front : List Act → Tree → Tree
in_front [] t = t
in_front (a ∷ s) t = act a (in_front s t)

-- A log that passes: from its beginning the cursor gives its list, act by act, and then the end. Assumes nothing.
use mathlib.Core.Path.{◌≡◌, refl}
use mathlib.Core.List.{List}
use mathlib.Core.Bool.{Bool, true, false}
use Prim.Native.Nat.{ℕ}
use Rattle.reading.specs.Saying.{Gives}
use Rattle.log_rules.specs.Head.{machine_of, start_of}
use Rattle.log_rules.specs.Tree.{acts}
use Rattle.log_rules.specs.Whole.{tree_of, check_of}
use Rattle.log_passing.proofs.Passing.{Clear, clear, Passing, passing}
use Rattle.log_cursor.specs.Stepping.{beginning, step_of}
use Rattle.log_cursor.proofs.WalkLaws.{begin_ntsc, begin_pal}

-- in 2,000,002 steps at most
pub cursor_gives : (log : List ℕ) → (check_of log).number ≡ 0 → Gives (step_of log) beginning (acts (tree_of log)) 2000002
cursor_gives log h = go (machine_of log) refl
  where
    c : Clear log
    c = clear log h

    p : Passing log
    p = passing log c

    go : (m : Bool) → machine_of log ≡ m → Gives (step_of log) beginning (acts (tree_of log)) 2000002
    go true m = begin_pal log (tree_of log) (start_of log) p.place p.behind _ p.header p.reads c.in_turns (p.pal m)
    go false m = begin_ntsc log (tree_of log) (start_of log) p.place p.behind _ p.header p.reads c.in_turns (p.ntsc m)

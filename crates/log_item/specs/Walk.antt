-- Helper: nobody has to believe this; what the code's walk answers; proved to be the list's act (proofs/Listed).
-- The walk to an act of a block, with no loop unrolled: what its steps answer. That the act is the list's is proved.
use Rattle.std.specs.Prelude.{ℕ, ◌+◌, ◌-◌, ◌*◌, ◌%◌, ◌≤◌, ◌<◌, ◌≡◌, List, length, get_or, eqb, ltb, Result, Ok, Err}
use Rattle.refusal.specs.declared.Refusal.{Refusal}
use Rattle.arith.specs.Pick.{pick}
use Rattle.log_line.specs.declared.Act.{Act}
use Rattle.log_line.specs.declared.Act.TheVariants.{Wait}
use Rattle.log_rules.specs.declared.Block.{Block}
use Rattle.log_rules.specs.declared.Block.TheVariants.{Closed, Stopped}
use Rattle.log_rules.specs.Tree.{acts}
use Rattle.log_rules.specs.Block.{read_block, got_tree}
use Rattle.log_item.specs.declared.Hop.{Hop}
use Rattle.log_item.specs.declared.Hop.TheVariants.{Here, On, Lost}

-- the acts of the block at a place, at a depth
unfoldable pub acts_at : List ℕ → ℕ → ℕ → List Act
acts_at log i d = acts (got_tree (read_block log i d))

-- an act's line, the next one at `next`: the r-th act of the block is here, or is the one before the r-th further on
abbrev pub stay_of : Act → ℕ → ℕ → ℕ → Hop
stay_of a next d r = pick (eqb r 0) (Here a) (On next d (r - 1))

-- a loop line of n turns, its body at `from`: the r-th act is in the body, or behind the loop
abbrev pub inside_of : Result Block Refusal → ℕ → ℕ → ℕ → ℕ → Hop
inside_of (Ok (Closed p q t)) n from d r = pick (ltb r (n * t.items)) (On from (d + 1) (r % t.items)) (On q d (r - n * t.items))
inside_of (Ok (Stopped p q m t)) n from d r = Lost
inside_of (Err e) n from d r = Lost

-- the r-th act of the block at i is here, or is the r'-th of a block further on
abbrev pub Hops : List ℕ → ℕ → ℕ → ℕ → Hop → Type 0
Hops log i d r (Here a) = a ≡ get_or (acts_at log i d) r (Wait 0)
Hops log i d r (On i' d' r') = (i < i') × (i' ≤ length log) × (r' ≤ r) × (r' < length (acts_at log i' d')) × (get_or (acts_at log i d) r (Wait 0) ≡ get_or (acts_at log i' d') r' (Wait 0))
Hops log i d r Lost = ⊥

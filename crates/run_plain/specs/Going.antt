-- Helper: nobody has to believe this; what the plain run's loops hold between two clocks.
-- A run with its table on its way, and what working on comes to.
use Rattle.std.specs.Prelude.{ℕ, ◌+◌, ◌≤◌, ◌<◌, ◌≡◌, true, false, List, ltb, get_or}
use Rattle.arith.specs.Over.{over}
use Rattle.arith.specs.Pick.{both}
use Rattle.chip.specs.Level.{state_level}
use Rattle.chip.specs.Range.{in_range}
use Rattle.chip.specs.declared.State.{State}
use Rattle.run_answer.specs.Run.{room_of, flat}
use Rattle.run_answer.specs.Held.{Held}
use Rattle.run_dwell.specs.Dwell.{dwell_limit, dwell_by, run_answered}
use Rattle.run_dwell.specs.Kept.{Kept}
use Rattle.run_dwell.specs.declared.Counted.{Counted}
use Rattle.run_plain.specs.Calm.{is_calm}
use Rattle.run_plain.specs.declared.Stand.{Stand}

-- the run from s with `counts` and `lent` words stands at `state` after `done` clocks and n records
pub record Going (memory : List ℕ) (s : State) (counts lent words table : List ℕ) (state : State) (done n : ℕ) : Type 0 where
  pub held : Held memory s lent words state done n
  pub kept : Kept memory s counts done table

-- some run does
pub record Begun (memory words table : List ℕ) (state : State) (done n : ℕ) : Type 0 where
  pub start : State
  pub counts : List ℕ
  pub lent : List ℕ
  pub ranged : in_range start ≡ true
  pub going : Going memory start counts lent words table state done n

-- no clock up to `until` can take a count past its limit
unfoldable pub Spare : ℕ → ℕ → List ℕ → Type 0
Spare until done table = done < until → (i : ℕ) → get_or table i 0 + until ≤ dwell_limit + done

-- clocks up to a frame step, to `until` or until the room is used up: whatever run they are part of goes on
pub record Stretched (memory : List ℕ) (until : ℕ) (first : Stand) (words table words₁ table₁ : List ℕ) (r : Stand) : Type 0 where
  pub on : first.done ≤ r.done
  pub most : r.done ≤ until
  pub level : r.level ≡ state_level r.state
  pub spare : Spare until r.done table₁
  pub stops : both (both (ltb r.done until) (ltb r.records (room_of words))) (is_calm r.state) ≡ false
  pub going :
      (s : State) (counts lent : List ℕ)
      → Going memory s counts lent words table first.state first.done first.records
      → Going memory s counts lent words₁ table₁ r.state r.done r.records

-- all the clocks that are left: whatever run they are part of ends so
abbrev pub Ended : List ℕ → ℕ → List ℕ → List ℕ → State → ℕ → ℕ → List ℕ → Counted → Type 0
Ended memory count words table state done n words₁ r =
    (s : State) (counts lent : List ℕ)
    → Going memory s counts lent words table state done n
    → (r ≡ run_answered 0 s counts (dwell_by memory s counts count lent)) × (words₁ ≡ over (flat (dwell_by memory s counts count lent).marks) lent)

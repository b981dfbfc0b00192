-- Document 01, "Mixer and records": the plain reading, over any clockwork.
use Rattle.std.specs.Prelude.{ℕ, zero, suc, ◌+◌, ◌-◌, Bool, true, false, List, [], ◌∷◌, ◌++◌, eqb}
use Rattle.arith.specs.Pick.{pick}

-- what a reading goes by: one clock, the level of a state, and whether the next clock is not to be worked, whatever room there is
pub record Clockwork (S : Type 0) : Type 0 where
  pub clock : S → S
  pub level : S → ℕ
  pub full : S → Bool

-- a record: "its number in the run (from 1) and the level"; here "whole numbers of any size and no 32-bit words"
pub record Mark : Type 0 where
  pub clock : ℕ
  pub level : ℕ

-- how far a reading is: the state, the clocks done, the room left and the records so far
pub record Progress (S : Type 0) : Type 0 where
  pub state : S
  pub done : ℕ
  pub room : ℕ
  pub marks : List Mark

-- a record whose clock is "raised by the clocks done before it"
abbrev pub raised : ℕ → Mark → Mark
raised before mark = record { clock = before + mark.clock; level = mark.level }

-- "It starts with 0 clocks done and no records"
abbrev pub start : {S : Type 0} → ℕ → S → Progress S
start room s = record { state = s; done = 0; room = room; marks = [] }

module _ {S : Type 0} (m : Clockwork S) where
  -- the next clock's level is that before the clock
  abbrev pub same : S → Bool
  same s = eqb (m.level (m.clock s)) (m.level s)

  -- "exactly before a clock that needs a record with no room left"; request 1: "with this second way of ending early, the plain reading's too"
  abbrev pub stopped : Progress S → Bool
  stopped p = pick (m.full p.state) true (pick (same p.state) false (eqb p.room 0))

  -- a clock worked, with no record
  abbrev pub unrecorded : Progress S → Progress S
  unrecorded p = record { state = m.clock p.state; done = p.done + 1; room = p.room; marks = p.marks }

  -- a clock worked, its record behind the others
  abbrev pub recorded : Progress S → Progress S
  recorded p =
      record {
        state = m.clock p.state;
        done = p.done + 1;
        room = p.room - 1;
        marks = p.marks ++ (record { clock = p.done + 1; level = m.level (m.clock p.state) } ∷ []);
      }

  -- "appends, for each clock whose level differs from that before the clock, its number .. and the level"
  unfoldable pub worked : Progress S → Progress S
  worked p = pick (same p.state) (unrecorded p) (recorded p)

  -- "works every clock .. and ends at the count or by that early end", either of the two
  unfoldable pub reading : ℕ → Progress S → Progress S
  reading zero p = p
  reading (suc n) p = pick (stopped p) p (reading n (worked p))

  -- "A plain reading is fed a state, .. a count of any size and a room."
  unfoldable pub plain : ℕ → ℕ → S → Progress S
  plain room count s = reading count (start room s)

-- The levels by a run's records are those clock by clock. Assumes nothing.
use Prim.Native.Nat.{ℕ, zero, suc, ◌+◌, ◌-◌, ◌≤◌, ◌<◌}
use mathlib.Core.Path.{◌≡◌, refl, sym, ap, ap₂, ◌∙◌, subst}
use mathlib.Core.Bool.{Bool, true, false}
use mathlib.Core.List.{List, [], ◌∷◌, ◌++◌, append_assoc, append-nil}
use native.Mathlib.Nat.{zero-add, suc-add}
use native.Mathlib.Omega.{arith}
use lib.ListN.{length, get_or, replicate}
use borrow.Author.Tests.{eqb-true}
use Rattle.arith.specs.Iterate.{iterate}
use Rattle.arith.specs.Pick.{pick}
use Rattle.reading.specs.Reading.{Mark, Progress, start, same, stopped, unrecorded, recorded, worked, reading, plain}
use Rattle.run_answer.specs.Run.{chip_clockwork}
use Rattle.chip.specs.Clock.{chip_clock}
use Rattle.chip.specs.Level.{state_level}
use Rattle.chip.specs.declared.State.{State}
use Rattle.chip.proofs.RangeLaws.{level_most}
use Rattle.run_levels.specs.Levels.{clocks_levels, held_levels}
use Rattle.run_levels.specs.Ordered.{Ordered}

-- CLOCK BY CLOCK
module _ (memory : List ℕ) where
  -- a + b clocks are a, then b
  pub levels_add : (a b : ℕ) (s : State) → clocks_levels memory (a + b) s ≡ clocks_levels memory a s ++ clocks_levels memory b (iterate (chip_clock memory) a s)
  unfolding clocks_levels iterate
  levels_add zero b s = rw zero-add refl
  levels_add (suc a) b s = rw suc-add (ap (λ (l : List ℕ). state_level (chip_clock memory s) ∷ l) (levels_add a b (chip_clock memory s)))

  -- one level for each clock
  pub levels_length : (n : ℕ) (s : State) → length (clocks_levels memory n s) ≡ n
  unfolding clocks_levels
  levels_length zero s = refl
  levels_length (suc n) s = ap suc (levels_length n (chip_clock memory s))

  -- each is at most 32,767
  pub levels_most : (n : ℕ) (s : State) (i : ℕ) → get_or (clocks_levels memory n s) i 0 ≤ 32767
  unfolding clocks_levels
  levels_most zero s i = omega arith
  levels_most (suc n) s zero = level_most (chip_clock memory s)
  levels_most (suc n) s (suc i) = levels_most n (chip_clock memory s) i

  -- that at place i is the level after clock i + 1
  pub levels_at : (n : ℕ) (s : State) (i : ℕ) → i < n → get_or (clocks_levels memory n s) i 0 ≡ state_level (iterate (chip_clock memory) (i + 1) s)
  unfolding clocks_levels iterate
  levels_at zero s i h = absurd (omega arith)
  levels_at (suc n) s zero h = refl
  levels_at (suc n) s (suc i) h = rw suc-add (levels_at n (chip_clock memory s) i (omega arith))

-- RECORDS IN ORDER

-- the end is not before the start
pub ordered_end : (at : ℕ) (l : List Mark) (end : ℕ) → Ordered at l end → at ≤ end
unfolding Ordered
ordered_end at [] end h = h
ordered_end at (m ∷ l) end h = let k = ordered_end m.clock l end h.2 in omega (arith, h.0)

-- where they start may be earlier
pub ordered_from : (at at' : ℕ) (l : List Mark) (end : ℕ) → at ≤ at' → Ordered at' l end → Ordered at l end
unfolding Ordered
ordered_from at at' [] end k h = omega arith
ordered_from at at' (m ∷ l) end k h = (omega (arith, h.0), h.1, h.2)

-- one clock of a held level
held_step : (at v : ℕ) (l : List Mark) (end : ℕ) → Ordered (at + 1) l end → held_levels at v l end ≡ v ∷ held_levels (at + 1) v l end
unfolding held_levels Ordered
held_step at v [] end h = let e : end - at ≡ suc (end - (at + 1)) = omega arith in ap (λ (k : ℕ). replicate k v) e
held_step at v (m ∷ l) end h =
    let k = h.0 in
    let e : m.clock - 1 - at ≡ suc (m.clock - 1 - (at + 1)) = omega arith in
    ap (λ (k : ℕ). replicate k v ++ held_levels (m.clock - 1) m.level l end) e

-- a record right behind
held_mark : (at v w : ℕ) (l : List Mark) (end : ℕ) → held_levels at v (record { clock = at + 1; level = w } ∷ l) end ≡ held_levels at w l end
unfolding held_levels
held_mark at v w l end =
    let a : at + 1 - 1 - at ≡ 0 = omega arith in
    let b : at + 1 - 1 ≡ at = omega arith in
    ap₂ (λ (j k : ℕ). replicate j v ++ held_levels k w l end) a b

-- A READING UNDER WAY

-- from p on to q: the records that came, and the levels
pub record Sounded (memory : List ℕ) (p q : Progress State) : Type 0 where
  pub clocks : ℕ
  pub done : q.done ≡ p.done + clocks
  pub new : List Mark
  pub marks : q.marks ≡ p.marks ++ new
  pub ordered : Ordered p.done new q.done
  pub levels : held_levels p.done (state_level p.state) new q.done ≡ clocks_levels memory clocks p.state

module _ (memory : List ℕ) where
  sounded_none : (p : Progress State) → Sounded memory p p
  unfolding held_levels clocks_levels Ordered
  sounded_none p =
      let none : p.done - p.done ≡ 0 = omega arith in
      record {
        clocks = 0;
        done = omega arith;
        new = [];
        marks = sym (append-nil p.marks);
        ordered = omega arith;
        levels = ap (λ (k : ℕ). replicate k (state_level p.state)) none;
      }

  -- a clock in front, with no record
  sounded_same : (p q : Progress State) → state_level (chip_clock memory p.state) ≡ state_level p.state
      → Sounded memory (unrecorded (chip_clockwork memory) p) q → Sounded memory p q
  unfolding clocks_levels
  sounded_same p q e w =
      record {
        clocks = suc w.clocks;
        done = omega (arith, w.done);
        new = w.new;
        marks = w.marks;
        ordered = ordered_from p.done (p.done + 1) w.new q.done (omega arith) w.ordered;
        levels =
            ap (λ (v : ℕ). held_levels p.done v w.new q.done) (sym e)
            ∙ (held_step p.done (state_level (chip_clock memory p.state)) w.new q.done w.ordered
            ∙ ap (λ (l : List ℕ). state_level (chip_clock memory p.state) ∷ l) w.levels);
      }

  -- a clock in front, with its record
  sounded_mark : (p q : Progress State) → Sounded memory (recorded (chip_clockwork memory) p) q → Sounded memory p q
  unfolding clocks_levels Ordered
  sounded_mark p q w =
      let v = state_level (chip_clock memory p.state) in
      record {
        clocks = suc w.clocks;
        done = omega (arith, w.done);
        new = record { clock = p.done + 1; level = v } ∷ w.new;
        marks = w.marks ∙ append_assoc p.marks (record { clock = p.done + 1; level = v } ∷ []) w.new;
        ordered = (omega arith, level_most (chip_clock memory p.state), w.ordered);
        levels =
            held_mark p.done (state_level p.state) v w.new q.done
            ∙ (held_step p.done v w.new q.done w.ordered ∙ ap (λ (l : List ℕ). v ∷ l) w.levels);
      }

  sounded_worked : (p q : Progress State) → Sounded memory (worked (chip_clockwork memory) p) q → Sounded memory p q
  unfolding worked
  sounded_worked p q w = by (same (chip_clockwork memory) p.state) refl w
    where
      by : (t : Bool) → same (chip_clockwork memory) p.state ≡ t
          → Sounded memory (pick t (unrecorded (chip_clockwork memory) p) (recorded (chip_clockwork memory) p)) q → Sounded memory p q
      by true e w = sounded_same p q (eqb-true _ _ e) w
      by false e w = sounded_mark p q w

  pub sounded : (n : ℕ) (p : Progress State) → Sounded memory p (reading (chip_clockwork memory) n p)
  unfolding reading
  sounded zero p = sounded_none p
  sounded (suc n) p =
      by (stopped (chip_clockwork memory) p)
      (sounded_worked p (reading (chip_clockwork memory) n (worked (chip_clockwork memory) p)) (sounded n (worked (chip_clockwork memory) p)))
    where
      by : (t : Bool) → Sounded memory p (reading (chip_clockwork memory) n (worked (chip_clockwork memory) p))
          → Sounded memory p (pick t p (reading (chip_clockwork memory) n (worked (chip_clockwork memory) p)))
      by true w = sounded_none p
      by false w = w

-- THE PLAIN READING
module _ (memory : List ℕ) (room count : ℕ) (s : State) where
  abbrev read : Progress State
  read = plain (chip_clockwork memory) room count s

  -- THE LEVELS BY THE RECORDS ARE THOSE CLOCK BY CLOCK
  pub levels_held : held_levels 0 (state_level s) read.marks read.done ≡ clocks_levels memory read.done s
  unfolding plain
  levels_held =
      let w = sounded memory count (start room s) in
      let e : w.clocks ≡ read.done = omega (arith, w.done) in
      ap (λ (l : List Mark). held_levels 0 (state_level s) l read.done) w.marks ∙ (w.levels ∙ ap (λ (k : ℕ). clocks_levels memory k s) e)

  -- the records' clocks rise: the first is 1 at least, the last is one of the clocks done
  pub marks_ordered : Ordered 0 read.marks read.done
  unfolding plain
  marks_ordered = let w = sounded memory count (start room s) in subst (λ (l : List Mark). Ordered 0 l read.done) (sym w.marks) w.ordered

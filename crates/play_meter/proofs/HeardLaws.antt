-- The levels of a wait's lines, clock by clock. Assumes nothing.
use Prim.Native.Nat.{ℕ, zero, suc, ◌+◌, min, max}
use mathlib.Core.Path.{◌≡◌, refl, ◌∙◌}
use mathlib.Core.Bool.{Bool, true, false}
use mathlib.Core.List.{List, [], ◌∷◌, ◌++◌}
use native.Mathlib.Nat.{add-zero, zero-add, suc-add}
use native.Mathlib.Omega.{arith}
use lib.Dec.{eqb}
use Rattle.arith.specs.Iterate.{iterate}
use Rattle.arith.specs.Pick.{pick}
use Rattle.bus.specs.declared.Access.{Access}
use Rattle.bus.specs.declared.Access.TheVariants.{Write, Read}
use Rattle.chip.specs.Clock.{chip_clock}
use Rattle.chip.specs.Level.{state_level}
use Rattle.chip.specs.declared.State.{State}
use Rattle.play_text.specs.declared.Entry.{Entry}
use Rattle.play_text.specs.declared.Entry.TheVariants.{Level}
use Rattle.play_rules.specs.Sound.{heard, waited, read_line}
use Rattle.meter.specs.declared.Span.{Span}
use Rattle.meter.specs.Levels.{lowest, highest}
use Rattle.meter.specs.Spans.{span_over}
use Rattle.play_meter.specs.Meters.{levels_of}
use Rattle.play_meter.specs.Walking.{changed}

lowest_append : (x : ℕ) (a b : List ℕ) → lowest (lowest x a) b ≡ lowest x (a ++ b)
unfolding lowest
lowest_append x [] b = refl
lowest_append x (y ∷ a) b = lowest_append (min x y) a b

highest_append : (x : ℕ) (a b : List ℕ) → highest (highest x a) b ≡ highest x (a ++ b)
unfolding highest
highest_append x [] b = refl
highest_append x (y ∷ a) b = highest_append (max x y) a b

-- one list and then another
pub span_append : (s : Span) (a b : List ℕ) → span_over (span_over s a) b ≡ span_over s (a ++ b)
span_append s a b = rw (lowest_append s.low a b, highest_append s.high a b)

-- a read's line has no level
pub levels_read : (x : Access) (t : ℕ) (s : State) (l : List Entry) → levels_of (read_line x t s ++ l) ≡ levels_of l
unfolding read_line levels_of
levels_read (Write r v) t s l = refl
levels_read Read t s l = refl

-- the level after an access or a clock, where it differs
pub levels_heard_lem : (t last : ℕ) (s : State) (l : List Entry)
    → levels_of (heard t last s ++ l) ≡ pick (eqb (state_level s) last) (levels_of l) (state_level s ∷ levels_of l)
unfolding heard levels_of
levels_heard_lem t last s l = by (eqb (state_level s) last)
  where
    by : (b : Bool) → levels_of (pick b [] (Level t (state_level s) ∷ []) ++ l) ≡ pick b (levels_of l) (state_level s ∷ levels_of l)
    by true = refl
    by false = refl

pick_append : (b : Bool) (x : ℕ) (a l : List ℕ) → pick b (a ++ l) (x ∷ (a ++ l)) ≡ pick b a (x ∷ a) ++ l
pick_append true x a l = refl
pick_append false x a l = refl

module _ (memory : List ℕ) where
  -- THE LEVELS OF A WAIT, and of what follows
  pub levels_waited : (n t : ℕ) (s : State) (rest : ℕ → ℕ → State → List Entry)
      → levels_of (waited memory n t (state_level s) s rest)
      ≡ changed memory n s ++ levels_of (rest (t + n) (state_level (iterate (chip_clock memory) n s)) (iterate (chip_clock memory) n s))
  unfolding waited changed iterate
  levels_waited zero t s rest = rw add-zero refl
  levels_waited (suc n) t s rest =
      let s' = chip_clock memory s in
      let far = iterate (chip_clock memory) n s' in
      let e : t + 1 + n ≡ t + suc n = omega arith in
      levels_heard_lem (t + 1) (state_level s) s' (waited memory n (t + 1) (state_level s') s' rest)
      ∙ (rw (levels_waited n (t + 1) s' rest, e) refl
      ∙ pick_append (eqb (state_level s') (state_level s)) (state_level s') (changed memory n s') (levels_of (rest (t + suc n) (state_level far) far)))

  -- a + b clocks are a, then b
  pub changed_add : (a b : ℕ) (s : State) → changed memory (a + b) s ≡ changed memory a s ++ changed memory b (iterate (chip_clock memory) a s)
  unfolding changed iterate
  changed_add zero b s = rw zero-add refl
  changed_add (suc a) b s =
      let s' = chip_clock memory s in
      rw suc-add
      (rw (changed_add a b s')
      (pick_append (eqb (state_level s') (state_level s)) (state_level s') (changed memory a s') (changed memory b (iterate (chip_clock memory) a s'))))

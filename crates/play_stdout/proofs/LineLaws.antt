-- A log that passes has no more lines of text than the loop has turns. Assumes nothing.
use Prim.Native.Nat.{ℕ, zero, suc, ◌+◌, ◌*◌, ◌≤◌}
use native.Mathlib.Omega.{arith}
use mathlib.Core.Path.{◌≡◌}
use mathlib.Core.Bool.{Bool, true, false}
use mathlib.Core.List.{List, [], ◌∷◌, ◌++◌}
use lib.Dec.{eqb}
use lib.ListN.{length, length-append}
use Rattle.arith.specs.Pick.{pick}
use Rattle.bus.specs.declared.Access.{Access}
use Rattle.bus.specs.declared.Access.TheVariants as bus
use Rattle.log_line.specs.declared.Act.{Act}
use Rattle.log_line.specs.declared.Act.TheVariants as line
use Rattle.log_rules.specs.Tree.{acts, act_clocks}
use Rattle.recording.specs.Whole.{tree_of, check_of}
use Rattle.log_rules.proofs.CheckLaws.{acts_le}
use Rattle.log_passing.proofs.ActLaws.{clocks_in, clocks_listed}
use Rattle.recording.proofs.Passing.{clear}
use Rattle.chip.specs.Clock.{chip_clock}
use Rattle.chip.specs.Level.{state_level}
use Rattle.chip.specs.Range.{power_on}
use Rattle.chip.specs.declared.State.{State}
use Rattle.chip_access.specs.Access.{access_state}
use Rattle.play_text.specs.declared.Entry.{Entry}
use Rattle.play_text.specs.declared.Entry.TheVariants.{Level}
use Rattle.play_rules.specs.Sound.{heard, waited, read_line, entries_from, entries_of}

-- a clock or an access brings a level line at most, an access a status line besides

heard_few : (t last : ℕ) (s : State) → length (heard t last s) ≤ 1
unfolding heard
heard_few t last s = go (eqb (state_level s) last)
  where
    go : (b : Bool) → length (pick b [] (Level t (state_level s) ∷ [])) ≤ 1
    go true = omega arith
    go false = omega arith

read_few : (x : Access) (t : ℕ) (s : State) → length (read_line x t s) ≤ 1
unfolding read_line
read_few (bus.Write r v) t s = omega arith
read_few bus.Read t s = omega arith

module _ (memory : List ℕ) where
  waited_few : (n t last : ℕ) (s : State) (rest : ℕ → ℕ → State → List Entry) (k : ℕ) → ((t last : ℕ) (s : State) → length (rest t last s) ≤ k)
      → length (waited memory n t last s rest) ≤ n + k
  unfolding waited
  waited_few zero t last s rest k h = let b = h t last s in omega arith
  waited_few (suc n) t last s rest k h =
      let a = heard_few (t + 1) last (chip_clock memory s) in
      let b = waited_few n (t + 1) (state_level (chip_clock memory s)) (chip_clock memory s) rest k h in
      let l =
      length-append (heard (t + 1) last (chip_clock memory s)) (waited memory n (t + 1) (state_level (chip_clock memory s)) (chip_clock memory s) rest) in
      omega arith

  from_few : (list : List Act) (t last : ℕ) (s : State) → length (entries_from memory t last s list) ≤ 1 + clocks_in list + 2 * length list
  unfolding entries_from clocks_in act_clocks
  from_few [] t last s = omega arith
  from_few (line.Wait n ∷ list) t last s =
      let b = waited_few n t last s (λ t last s. entries_from memory t last s list) (1 + clocks_in list + 2 * length list) (from_few list) in
      omega arith
  from_few (line.Access x ∷ list) t last s =
      let s' : State = access_state x s in
      let a = read_few x t s in
      let b = heard_few t last s' in
      let c = from_few list t (state_level s') s' in
      let l = length-append (read_line x t s) (heard t last s' ++ entries_from memory t (state_level s') s' list) in
      let m = length-append (heard t last s') (entries_from memory t (state_level s') s' list) in
      omega arith

  pub lines_few : (log : List ℕ) → (check_of log).number ≡ 0 → (pal : Bool) → length (entries_of pal memory (acts (tree_of log))) ≤ 2002000003
  unfolding entries_of
  lines_few log h pal =
      let c = clear log h in
      let a = c.in_clocks in
      let b = c.in_turns in
      let d = acts_le (tree_of log) in
      let e = clocks_listed (tree_of log) in
      let f = from_few (acts (tree_of log)) 0 (state_level (power_on pal)) (power_on pal) in
      omega arith

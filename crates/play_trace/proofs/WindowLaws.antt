-- Where a window begins. Assumes nothing.
use Prim.Native.Nat.{ℕ, ◌+◌, ◌-◌, ◌≤◌, ◌<◌}
use mathlib.Core.Path.{◌≡◌, refl}
use mathlib.Core.List.{List, [], ◌∷◌}
use borrow.Author.Tests.{le-leb, lt-leb}
use Rattle.arith.specs.Iterate.{iterate}
use Rattle.bus.specs.declared.Access as busAccess
use Rattle.log_line.specs.declared.Act.{Act}
use Rattle.log_line.specs.declared.Act.TheVariants.{Wait, Access}
use Rattle.chip.specs.Clock.{chip_clock}
use Rattle.chip.specs.declared.State.{State}
use Rattle.chip_access.specs.Access.{access_state}
use Rattle.play_trace.specs.Window.{opened, window_from}

module _ (memory : List ℕ) (from until : ℕ) where
  -- the window of no act, or one that is reached, begins here
  pub opened_now : (l : List Act) (t : ℕ) (s : State) → from ≤ t → window_from memory from until l t s ≡ opened memory until l t s
  unfolding window_from
  opened_now [] t s h = refl
  opened_now (Wait n ∷ l) t s h = rw (le-leb from t h)
  opened_now (Access x ∷ l) t s h = rw (le-leb from t h)

  pub opened_end : (t : ℕ) (s : State) → window_from memory from until [] t s ≡ opened memory until [] t s
  unfolding window_from
  opened_end t s = refl

  -- an act before it
  pub later_access : (x : busAccess.Access) (l : List Act) (t : ℕ) (s : State) → t < from
      → window_from memory from until (Access x ∷ l) t s ≡ window_from memory from until l t (access_state x s)
  unfolding window_from
  later_access x l t s h = rw (lt-leb from t h)

  pub later_wait : (n : ℕ) (l : List Act) (t : ℕ) (s : State) → t < from → t + n ≤ from
      → window_from memory from until (Wait n ∷ l) t s ≡ window_from memory from until l (t + n) (iterate (chip_clock memory) n s)
  unfolding window_from
  later_wait n l t s h i = rw (lt-leb from t h, le-leb (t + n) from i)

  -- a wait that it begins in
  pub within_wait : (n : ℕ) (l : List Act) (t : ℕ) (s : State) → t < from → from < t + n
      → window_from memory from until (Wait n ∷ l) t s
      ≡ opened memory until (Wait (n - (from - t)) ∷ l) from (iterate (chip_clock memory) (from - t) s)
  unfolding window_from
  within_wait n l t s h i = rw (lt-leb from t h, lt-leb (t + n) from i)

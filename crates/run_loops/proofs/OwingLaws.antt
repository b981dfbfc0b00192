-- A record that is written where the next stretch begins. Assumes nothing.
use Prim.Native.Nat.{ℕ, ◌+◌, ◌*◌, ◌≤◌, ◌<◌}
use mathlib.Core.Path.{◌≡◌, refl, sym, ap, ◌∙◌}
use mathlib.Core.Bool.{Bool, true, false, not}
use mathlib.Core.List.{List}
use native.Mathlib.Omega.{arith}
use lib.Dec.{eqb, ltb}
use lib.ListN.{length, set, length-set}
use borrow.Author.Tests.{eqb-true, eqb-false, eq-eqb, ltb-true, ltb-false}
use Rattle.arith.specs.Pick.{pick}
use Rattle.arith.proofs.IterateLaws.{iterate_zero}
use Rattle.chip.specs.Clock.{chip_clock}
use Rattle.chip.specs.Level.{state_level}
use Rattle.chip.specs.Range.{in_range, Bytes}
use Rattle.chip.specs.declared.State.{State}
use Rattle.chip.proofs.RangeLaws.{state_in_lem}
use Rattle.leap_stretch.specs.Lagged.{lags_at, lags_of}
use Rattle.leap_stretch.proofs.LaggedLaws.{lagging_start, lagging_level, next_past}
use Rattle.run_answer.specs.Run.{room_of, stored}
use Rattle.run_answer.specs.Held.{Held}
use Rattle.run_answer.proofs.RunLaws.{held_start, held_same, held_mark}
use Rattle.run_loops.specs.Leap.{marked_records, marked_words}
use Rattle.run_loops.specs.Owing.{Owing}

clash : false ≡ true → ⊥
clash z = let y : ◌≡◌ {A = ℕ} 0 1 = cc in omega arith

-- a stretch begins with the state's level
pub level_start : (memory : List ℕ) → Bytes memory → (s : State) → in_range s ≡ true → (lags_of s).level ≡ state_level s
unfolding lags_of lags_at
level_start memory bytes s r =
    sym
    (ap state_level (sym (iterate_zero (chip_clock memory) s))
    ∙ lagging_level memory bytes s (state_in_lem s r) (lags_of s) (lagging_start memory s) 0 (omega arith)
    (next_past memory s (lags_of s) (lagging_start memory s)) (omega arith))

-- a record leaves the words' length
stored_length : (words : List ℕ) (n clock level : ℕ) → length (stored words n clock level) ≡ length words
unfolding stored
stored_length words n clock level = go (ltb n (room_of words))
  where
    go : (t : Bool) → length (pick t (set (set words (2 * n) clock) (2 * n + 1) level) words) ≡ length words
    go true = simp length-set refl
    go false = refl

pub marked_length : (words : List ℕ) (n clock level was : ℕ) → length (marked_words words n clock level was) ≡ length words
marked_length words n clock level was = go (eqb level was)
  where
    go : (t : Bool) → length (pick t words (stored words n clock level)) ≡ length words
    go true = refl
    go false = stored_length words n clock level

-- and is one more, or none
pub marked_more : (n level was : ℕ) → n ≤ marked_records n level was
marked_more n level was = go (eqb level was)
  where
    go : (t : Bool) → n ≤ pick t n (n + 1)
    go true = omega arith
    go false = omega arith

-- at a run's start nothing is owed
pub owing_start : (memory : List ℕ) (s : State) (words : List ℕ) (was : ℕ) → was ≡ state_level s → Owing memory s words words s 0 0 was
owing_start memory s words was e = rw (e, eq-eqb (state_level s) (state_level s) refl) (held_start memory s words)

-- whether there is no room for the record of a clock
abbrev pub full : ℕ → ℕ → ℕ → ℕ → Bool
full n room level was = pick (ltb n room) false (not (eqb level was))

module _ (memory : List ℕ) (s : State) (words₀ words : List ℕ) (state : State) (done n : ℕ) (h : Held memory s words₀ words state done n)
    (next : State) (q : next ≡ chip_clock memory state) (was : ℕ) (e : was ≡ state_level state) where
  -- THE CLOCK BEHIND A STRETCH, for whose record there is room, or which has none
  pub owing_behind : full n (room_of words₀) (state_level next) was ≡ false → Owing memory s words₀ words next (done + 1) n was
  owing_behind f = go (eqb (state_level next) was) refl
    where
      go : (t : Bool) → eqb (state_level next) was ≡ t
          → Held memory s words₀ (pick t words (stored words n (done + 1) (state_level next))) next (done + 1) (pick t n (n + 1))
      go true d = rw q (held_same memory s words₀ words state done n h (ap state_level (sym q) ∙ eqb-true _ _ d ∙ e))
      go false d =
          rw q (held_mark memory s words₀ words state done n h (λ z. eqb-false _ _ d (ap state_level q ∙ z ∙ sym e)) (room (ltb n (room_of words₀)) refl (rw d at f)))
        where
          room : (u : Bool) → ltb n (room_of words₀) ≡ u → pick u false true ≡ false → n < room_of words₀
          room true z w = ltb-true _ _ z
          room false z w = absurd (clash (sym w))

  -- and where there is none
  pub full_behind : full n (room_of words₀) (state_level next) was ≡ true
      → (room_of words₀ ≤ n) × (state_level (chip_clock memory state) ≡ state_level state → ⊥)
  full_behind f = go (ltb n (room_of words₀)) (eqb (state_level next) was) refl refl f
    where
      go : (u t : Bool) → ltb n (room_of words₀) ≡ u → eqb (state_level next) was ≡ t → pick u false (not t) ≡ true
          → (room_of words₀ ≤ n) × (state_level (chip_clock memory state) ≡ state_level state → ⊥)
      go true t z d w = absurd (clash w)
      go false true z d w = absurd (clash w)
      go false false z d w = (omega (arith, ltb-false n (room_of words₀) z), λ x. eqb-false _ _ d (ap state_level q ∙ x ∙ sym e))

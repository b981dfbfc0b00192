-- A wait clock by clock is the plain reading with room for every clock. Assumes nothing.
use Prim.Native.Nat.{ℕ, zero, suc, ◌+◌, ◌-◌, ◌≤◌, ◌<◌}
use mathlib.Core.Path.{◌≡◌, refl, sym, ◌∙◌}
use mathlib.Core.Bool.{Bool, true, false}
use mathlib.Core.List.{List, [], ◌∷◌, ◌++◌, map, map-append, append_assoc}
use native.Mathlib.Nat.{add-zero, zero-add}
use native.Mathlib.Omega.{arith}
use lib.Dec.{eqb}
use lib.ListN.{length}
use borrow.Author.Tests.{ne_eqb, eqb-true}
use Rattle.arith.specs.Pick.{pick}
use Rattle.reading.specs.Reading.{Mark, Progress, start, same, stopped, unrecorded, recorded, worked, reading, plain}
use Rattle.run_answer.specs.Run.{chip_clockwork}
use Rattle.chip.specs.Clock.{chip_clock}
use Rattle.chip.specs.Level.{state_level}
use Rattle.chip.specs.declared.State.{State}
use Rattle.play_text.specs.declared.Entry.{Entry}
use Rattle.play_text.specs.declared.Entry.TheVariants.{Level}
use Rattle.play_rules.specs.Sound.{heard, waited}
use Rattle.play_rules.specs.Portion.{entry_at, last_of}
use Rattle.play_rules.proofs.RoomLaws.{plain_all, plain_room, plain_most, plain_few}

last_append : (last : ℕ) (ms : List Mark) (m : Mark) → last_of last (ms ++ (m ∷ [])) ≡ m.level
unfolding last_of
last_append last [] m = refl
last_append last (n ∷ ms) m = last_append n.level ms m

module _ (memory : List ℕ) where
  goes_on_lem : (n : ℕ) (p : Progress State) → stopped (chip_clockwork memory) p ≡ false → reading (chip_clockwork memory) (suc n) p ≡ reading (chip_clockwork memory) n (worked (chip_clockwork memory) p)
  unfolding reading
  goes_on_lem n p e = rw e

  unstopped : (p : Progress State) → 0 < p.room → stopped (chip_clockwork memory) p ≡ false
  unstopped p h = by (same (chip_clockwork memory) p.state)
    where
      by : (t : Bool) → pick t false (eqb p.room 0) ≡ false
      by true = refl
      by false = ne_eqb p.room 0 (λ z. omega arith)

  module _ (t last : ℕ) (rest : ℕ → ℕ → State → List Entry) where
    -- what is left of a reading, clock by clock
    abbrev Left : ℕ → Progress State → Progress State → Type 0
    Left n p r =
        (map (entry_at t) r.marks ++ rest (t + (p.done + n)) (state_level r.state) r.state
        ≡ map (entry_at t) p.marks ++ waited memory n (t + p.done) (state_level p.state) p.state rest)
        × (last_of last p.marks ≡ state_level p.state → last_of last r.marks ≡ state_level r.state)

    heard_none : (u l : ℕ) (s : State) → eqb (state_level s) l ≡ true → heard u l s ≡ []
    unfolding heard
    heard_none u l s e = rw e

    heard_some : (u l : ℕ) (s : State) → eqb (state_level s) l ≡ false → heard u l s ≡ Level u (state_level s) ∷ []
    unfolding heard
    heard_some u l s e = rw e

    unrecorded_left : (n : ℕ) (p r : Progress State) → same (chip_clockwork memory) p.state ≡ true → Left n (unrecorded (chip_clockwork memory) p) r → Left (suc n) p r
    unfolding waited
    unrecorded_left n p r e i =
        let a : p.done + suc n ≡ p.done + 1 + n = omega arith in
        let b : t + p.done + 1 ≡ t + (p.done + 1) = omega arith in (
          rw (a, b, heard_none (t + (p.done + 1)) (state_level p.state) (chip_clock memory p.state) e) i.0,
          λ q. i.1 (q ∙ sym (eqb-true _ _ e)),
        )

    recorded_left : (n : ℕ) (p r : Progress State) → same (chip_clockwork memory) p.state ≡ false → Left n (recorded (chip_clockwork memory) p) r → Left (suc n) p r
    unfolding waited
    recorded_left n p r e i =
        let a : p.done + suc n ≡ p.done + 1 + n = omega arith in
        let b : t + p.done + 1 ≡ t + (p.done + 1) = omega arith in (
          rw (a, b, heard_some (t + (p.done + 1)) (state_level p.state) (chip_clock memory p.state) e) (i.0 ∙ rw (map-append, append_assoc) refl),
          λ q. i.1 (last_append last p.marks _),
        )

    read_left : (n : ℕ) (p : Progress State) → n ≤ p.room → Left n p (reading (chip_clockwork memory) n p)
    unfolding reading waited worked
    read_left zero p h = (rw add-zero refl, λ e. e)
    read_left (suc n) p h = rw (goes_on_lem n p (unstopped p (omega arith))) (by (same (chip_clockwork memory) p.state) refl (λ q i. read_left n q i))
      where
        by : (z : Bool) → same (chip_clockwork memory) p.state ≡ z → ((q : Progress State) → n ≤ q.room → Left n q (reading (chip_clockwork memory) n q))
            → Left (suc n) p (reading (chip_clockwork memory) n (pick z (unrecorded (chip_clockwork memory) p) (recorded (chip_clockwork memory) p)))
        by true e ih = unrecorded_left n p (reading (chip_clockwork memory) n (unrecorded (chip_clockwork memory) p)) e (ih (unrecorded (chip_clockwork memory) p) (omega arith))
        by false e ih = recorded_left n p (reading (chip_clockwork memory) n (recorded (chip_clockwork memory) p)) e (ih (recorded (chip_clockwork memory) p) (omega arith))

  module _ (n t : ℕ) (s : State) where
    -- the whole wait
    abbrev pub all : Progress State
    all = plain (chip_clockwork memory) (1 + n) n s

    pub waited_all : (rest : ℕ → ℕ → State → List Entry) → waited memory n t (state_level s) s rest ≡ map (entry_at t) all.marks ++ rest (t + n) (state_level all.state) all.state
    unfolding plain
    waited_all rest =
        let i = read_left t 0 rest n (start (1 + n) s) (omega arith) in
        sym (rw (zero-add, add-zero) at i.0)

    pub last_all : last_of (state_level s) all.marks ≡ state_level all.state
    unfolding plain last_of
    last_all = (read_left t (state_level s) (λ u l x. []) n (start (1 + n) s) (omega arith)).1 refl

    pub done_all : all.done ≡ n
    done_all = plain_all (chip_clockwork memory) (1 + n) n s (λ x. refl) (positive few)
      where
        few : length all.marks ≤ n
        few =
            let f = plain_few (chip_clockwork memory) (1 + n) n s in
            let m = plain_most (chip_clockwork memory) (1 + n) n s in
            omega arith

        positive : length all.marks ≤ n → 0 < all.room
        positive f = let r = plain_room (chip_clockwork memory) (1 + n) n s in omega arith

-- What a run holds, and how clocks keep it: for any engine. Assumes nothing.
use Prim.Native.Nat.{ℕ, ◌+◌, ◌-◌, ◌*◌, ◌≤◌, ◌<◌}
use mathlib.Core.Path.{◌≡◌, refl, sym, ap, ◌∙◌, subst}
use mathlib.Core.List.{List, [], ◌∷◌, ◌++◌}
use native.Mathlib.Nat.{add-zero}
use native.Mathlib.Omega.{arith}
use lib.ListN.{length, set, length-append}
use borrow.Author.Tests.{eq-eqb, ne_eqb}
use Rattle.arith.specs.Iterate.{iterate}
use Rattle.arith.proofs.IterateLaws.{iterate_zero}
use Rattle.reading.specs.Reading.{Mark, Progress, start, reading, plain}
use Rattle.reading.proofs.ReadingLaws.{Unchanged, reading_add, reading_few, reading_keeps, reading_quiet, reading_same, reading_mark, reading_stop}
use Rattle.chip.specs.Clock.{chip_clock}
use Rattle.chip.specs.Level.{state_level}
use Rattle.chip.specs.Range.{Bytes}
use Rattle.chip.specs.declared.State.{State}
use Rattle.chip.proofs.RangeLaws.{StateRanged, clock_kept}
use Rattle.arith.specs.Over.{over}
use Rattle.run_answer.specs.Run.{chip_clockwork, room_of, stored, flat, read_by, answered}
use Rattle.run_answer.specs.Held.{Held}
use Rattle.run_answer.proofs.WordLaws.{over_none, over_more, length_flat, length_over, stored_in}

pub held_at : {memory : List ℕ} {s : State} {words₀ words : List ℕ} {state next : State} {d e n : ℕ} → state ≡ next → d ≡ e
    → Held memory s words₀ words state d n → Held memory s words₀ words next e n
held_at {memory} {s} {words₀} {words} {state} {next} {d} {e} {n} p q h =
    subst (λ (k : ℕ). Held memory s words₀ words next k n) q (subst (λ (x : State). Held memory s words₀ words x d n) p h)

module _ (memory : List ℕ) (s : State) (words₀ : List ℕ) where
  -- at the start
  pub held_start : Held memory s words₀ words₀ s 0 0
  unfolding reading
  held_start =
      record {
        marks = [];
        read = ap (λ (k : ℕ). start k s) (omega arith);
        count = refl;
        most = omega arith;
        stored = sym (over_none words₀);
      }

  module _ (words : List ℕ) (state : State) (done n : ℕ) (h : Held memory s words₀ words state done n) where
    -- the words are as many as were lent
    pub held_length : length words ≡ length words₀
    held_length = ap length h.stored ∙ length_over (flat h.marks) words₀ (omega (arith, length_flat h.marks, h.count, h.most))

    -- no more records than clocks
    pub held_few : n ≤ done
    held_few =
        let few = reading_few (chip_clockwork memory) done (start (room_of words₀) s) in
        omega (arith, h.count, rw h.read at few)

    -- the state stays in range
    pub held_ranged : Bytes memory → StateRanged s → StateRanged state
    held_ranged bytes r =
        rw h.read at (reading_keeps (chip_clockwork memory) StateRanged (clock_kept memory bytes) done (start (room_of words₀) s) r)

    abbrev here : Progress State
    here = record { state = state; done = done; room = room_of words₀ - n; marks = h.marks }

    -- reading on from what is held
    on : (k : ℕ) → reading (chip_clockwork memory) (done + k) (start (room_of words₀) s) ≡ reading (chip_clockwork memory) k here
    on k = reading_add (chip_clockwork memory) done k (start (room_of words₀) s) ∙ ap (reading (chip_clockwork memory) k) h.read

    none : Unchanged (chip_clockwork memory) 0 state
    none k q = ap state_level (ap (λ (i : ℕ). iterate (chip_clock memory) i state) (let e : k ≡ 0 = omega arith in e) ∙ iterate_zero (chip_clock memory) state)

    -- g clocks that leave the level
    pub held_leap : (g : ℕ) → Unchanged (chip_clockwork memory) g state → Held memory s words₀ words (iterate (chip_clock memory) g state) (done + g) n
    held_leap g q =
        record {
          marks = h.marks;
          read = on g ∙ reading_quiet (chip_clockwork memory) (λ s. refl) g here q;
          count = h.count;
          most = h.most;
          stored = h.stored;
        }

    -- a clock with no record
    pub held_same : state_level (chip_clock memory state) ≡ state_level state → Held memory s words₀ words (chip_clock memory state) (done + 1) n
    unfolding iterate
    held_same e =
        record {
          marks = h.marks;
          read = on 1 ∙ reading_same (chip_clockwork memory) (λ s. refl) 0 here none (eq-eqb _ _ e) ∙ rw add-zero;
          count = h.count;
          most = h.most;
          stored = h.stored;
        }

    -- a clock with its record
    pub held_mark : (state_level (chip_clock memory state) ≡ state_level state → ⊥) → n < room_of words₀
        → Held memory s words₀ (stored words n (done + 1) (state_level (chip_clock memory state))) (chip_clock memory state) (done + 1) (n + 1)
    unfolding iterate
    held_mark e q =
        record {
          marks = h.marks ++ (m ∷ []);
          read =
              let less : room_of words₀ - n - 1 ≡ room_of words₀ - (n + 1) = omega arith in
              on 1 ∙ reading_mark (chip_clockwork memory) (λ s. refl) 0 here none (ne_eqb _ _ e) (omega arith) ∙ rw (add-zero, less);
          count = length-append h.marks (m ∷ []) ∙ omega (arith, h.count);
          most = omega arith;
          stored =
              stored_in words n m.clock m.level (omega (arith, held_length))
              ∙ ap (λ (w : List ℕ). set (set w (2 * n) m.clock) (2 * n + 1) m.level) h.stored
              ∙ over_more h.marks m words₀ n h.count (omega arith);
        }
      where
        m : Mark
        m = record { clock = done + 1; level = state_level (chip_clock memory state) }

    -- a clock that needs a record and has no room: the reading ends here
    held_stuck : (count : ℕ) → (state_level (chip_clock memory state) ≡ state_level state → ⊥) → room_of words₀ ≤ n → done ≤ count
        → reading (chip_clockwork memory) count (start (room_of words₀) s) ≡ here
    unfolding iterate
    held_stuck count e q b =
        let no_room : room_of words₀ - n ≡ 0 = omega arith in
        let split : count ≡ done + (0 + (count - done)) = omega arith in
        rw split (on (0 + (count - done)) ∙ reading_stop (chip_clockwork memory) (λ s. refl) 0 (count - done) here none (ne_eqb _ _ e) no_room ∙ rw add-zero)

    -- what a run of count clocks answers and leaves, once its reading is here
    Given : ℕ → Type 0
    Given count =
        (record { number = 0; state = state; done = done; records = n } ≡ answered 0 s (read_by memory s count words₀))
        × (words ≡ over (flat (read_by memory s count words₀).marks) words₀)

    given : (count : ℕ) → reading (chip_clockwork memory) count (start (room_of words₀) s) ≡ here → Given count
    unfolding Given answered read_by plain
    given count e = (rw e (rw h.count refl), rw e h.stored)

    -- at the count
    pub held_end : (count : ℕ) → done ≡ count
        → (record { number = 0; state = state; done = done; records = n } ≡ answered 0 s (read_by memory s count words₀))
        × (words ≡ over (flat (read_by memory s count words₀).marks) words₀)
    unfolding Given
    held_end count e = given count (rw (← e) h.read)

    -- and at the early end
    pub held_early : (count : ℕ) → (state_level (chip_clock memory state) ≡ state_level state → ⊥) → room_of words₀ ≤ n → done ≤ count
        → (record { number = 0; state = state; done = done; records = n } ≡ answered 0 s (read_by memory s count words₀))
        × (words ≡ over (flat (read_by memory s count words₀).marks) words₀)
    unfolding Given
    held_early count e q b = given count (held_stuck count e q b)

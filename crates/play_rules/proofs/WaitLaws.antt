-- A portion of a wait, read with room for many records, is so many turns with room for one. Assumes nothing.
use Prim.Native.Nat.{ℕ, zero, suc, ◌+◌, ◌-◌, ◌≤◌, ◌<◌}
use mathlib.Core.Path.{◌≡◌, refl, sym, ap, ap₂, ◌∙◌, subst}
use mathlib.Core.Logic.{◌⊎◌, inl, inr}
use mathlib.Core.Bool.{true}
use mathlib.Core.List.{List, [], ◌∷◌, map}
use native.Mathlib.Nat.{add-zero, add_assoc}
use native.Mathlib.Omega.{arith}
use lib.ListN.{length}
use borrow.Author.Tests.{le-leb, ne_eqb}
use Rattle.reading.specs.Saying.{on, says}
use Rattle.reading.specs.Reading.{Mark, Progress, raised, start, plain}
use Rattle.reading.proofs.ReadingLaws.{later, reading_keeps}
use Rattle.run_answer.specs.Run.{chip_clockwork}
use Rattle.chip.specs.Range.{in_range, Bytes}
use Rattle.chip.specs.declared.State.{State}
use Rattle.chip.proofs.RangeLaws.{StateRanged, state_in_lem, state_back, clock_kept}
use Rattle.recording_cursor.specs.declared.Cursor.{Cursor}
use Rattle.play_text.specs.declared.Entry.{Entry}
use Rattle.play_text.specs.declared.Entry.TheVariants.{Level}
use Rattle.play_rules.specs.declared.Player.{Player}
use Rattle.play_rules.specs.Turns.{Go, go, player_of, mark_said, mark_last, waited_by, wait_turn, turn_of, Goes, here, quietly, saying}
use Rattle.play_rules.specs.Portion.{entry_at, last_of}
use Rattle.play_rules.proofs.RoomLaws.{plain_more, plain_all, plain_most, plain_room, plain_none}

-- RECORDS FROM A LATER START

-- clocks counted from d earlier
entries_raised : (t d : ℕ) (ms : List Mark) → map (entry_at t) (map (raised d) ms) ≡ map (entry_at (t + d)) ms
entries_raised t d [] = refl
entries_raised t d (m ∷ ms) =
    ap (λ (k : ℕ). Level k m.level ∷ map (entry_at t) (map (raised d) ms)) (sym (add_assoc t d m.clock))
    ∙ ap (λ (l : List Entry). Level (t + d + m.clock) m.level ∷ l) (entries_raised t d ms)

last_raised : (last d : ℕ) (ms : List Mark) → last_of last (map (raised d) ms) ≡ last_of last ms
unfolding last_of
last_raised last d [] = refl
last_raised last d (m ∷ ms) = last_raised m.level d ms

-- A TURN OR MORE

module _ (turn : Player → Go) where
  -- a turn or more
  pub record Ways (p : Player) (entries : List Entry) (q : Player) : Type 0 where
    pub turns : ℕ
    pub some : 0 < turns
    pub few : turns ≤ length entries + 1
    pub goes : Goes turn p entries turns q

  pub by_quiet : {p p' q : Player} {entries : List Entry} {n : ℕ} → turn p ≡ go on p' → Goes turn p' entries n q → Goes turn p entries (suc n) q
  by_quiet {p = p} {q = q} {entries = entries} {n = n} e g =
      let g' : Goes turn (turn p).state entries n q = rw e g in
      quietly (ap (λ (x : Go). x.said) e) g'

  pub by_saying : {p p' q : Player} {a : Entry} {entries : List Entry} {n : ℕ} → turn p ≡ go (says a) p' → Goes turn p' entries n q → Goes turn p (a ∷ entries) (suc n) q
  by_saying {p = p} {q = q} {entries = entries} {n = n} e g =
      let g' : Goes turn (turn p).state entries n q = rw e g in
      saying (ap (λ (x : Go). x.said) e) g'

-- TURNS OF A WAIT

module _ (log memory : List ℕ) where
  wait_turn_lem : (w t last : ℕ) (s : State) (c : Cursor) → 0 < w → w ≤ 1000000 → t + w ≤ 2000000000
      → turn_of log memory (player_of 2 w t last s c)
      ≡ go (mark_said t (plain (chip_clockwork memory) 1 w s).marks)
      (player_of 2 (w - (plain (chip_clockwork memory) 1 w s).done) (t + (plain (chip_clockwork memory) 1 w s).done) (mark_last last (plain (chip_clockwork memory) 1 w s).marks) (plain (chip_clockwork memory) 1 w s).state c)
  unfolding turn_of wait_turn waited_by
  wait_turn_lem w t last s c z a b = rw (ne_eqb w 0 (λ y. omega arith), le-leb w 1000000 a, le-leb (t + w) 2000000000 b)

  -- the room and the records of a reading with room for one
  room_of_lem : (w : ℕ) (s : State) (r : Progress State) → r ≡ plain (chip_clockwork memory) 1 w s → (ms : List Mark) → r.marks ≡ ms → r.room + length ms ≡ 1
  room_of_lem w s r e ms h =
      ap (λ (l : List Mark). r.room + length l) (sym h)
      ∙ (ap (λ (x : Progress State). x.room + length x.marks) e ∙ plain_room (chip_clockwork memory) 1 w s)

  -- behind a portion that read r
  abbrev behind : ℕ → ℕ → ℕ → Cursor → Progress State → Player
  behind w t last c r = player_of 2 (w - r.done) (t + r.done) (last_of last r.marks) r.state c

  abbrev Read : ℕ → ℕ → ℕ → State → Cursor → Progress State → Type 0
  Read w t last s c r = Ways (turn_of log memory) (player_of 2 w t last s c) (map (entry_at t) r.marks) (behind w t last c r)

  module _ (w t last : ℕ) (s : State) (c : Cursor) (z : 0 < w) (a : w ≤ 1000000) (b : t + w ≤ 2000000000) where
    -- a turn that brings no record ends the wait
    none : (more : ℕ) (r : Progress State) → r ≡ plain (chip_clockwork memory) 1 w s → r.marks ≡ [] → Read w t last s c (plain (chip_clockwork memory) (1 + more) w s)
    unfolding last_of mark_said mark_last
    none more r e h =
        let room : 0 < r.room = (let q : r.room + 0 ≡ 1 = room_of_lem w s r e [] h in omega arith) in
        let d : r.done ≡ w = rw e (plain_all (chip_clockwork memory) 1 w s (λ x. refl) (rw e at room)) in
        let zero : w - r.done ≡ 0 = omega arith in
        let turn : turn_of log memory (player_of 2 w t last s c) ≡ go on (player_of 2 (w - r.done) (t + r.done) last r.state c) = wait_turn_lem w t last s c z a b ∙ rw (← e, h) refl in
        let whole : plain (chip_clockwork memory) (1 + more) w s ≡ later r.done [] (start (r.room + more) r.state) =
        plain_more (chip_clockwork memory) 1 w s more ∙ rw (← e, h, zero) (ap (later r.done []) (plain_none (chip_clockwork memory) (r.room + more) r.state)) in
        subst (Read w t last s c) (sym whole)
        (let g : Goes (turn_of log memory) (player_of 2 w t last s c) [] 1 (player_of 2 (w - (r.done + 0)) (t + (r.done + 0)) last r.state c) = rw add-zero (by_quiet (turn_of log memory) turn here) in
        record { turns = 1; some = omega arith; few = omega arith; goes = g })

    -- a turn that brings a record, and then what the rest of the wait brings
    one : (more : ℕ) (r : Progress State) → r ≡ plain (chip_clockwork memory) 1 w s → (x : Mark) → r.marks ≡ x ∷ []
        → (rest : Progress State) → plain (chip_clockwork memory) (1 + more) w s ≡ later r.done (x ∷ []) rest
        → (n : ℕ) → n ≤ length (map (entry_at (t + r.done)) rest.marks) + 1 → Goes (turn_of log memory) (player_of 2 (w - r.done) (t + r.done) x.level r.state c) (map (entry_at (t + r.done)) rest.marks) n
        (player_of 2 (w - r.done - rest.done) (t + r.done + rest.done) (last_of x.level rest.marks) rest.state c)
        → Read w t last s c (plain (chip_clockwork memory) (1 + more) w s)
    unfolding last_of mark_said mark_last
    one more r e x h rest whole n few g =
        let turn : turn_of log memory (player_of 2 w t last s c) ≡ go (says (entry_at t x)) (player_of 2 (w - r.done) (t + r.done) x.level r.state c) = wait_turn_lem w t last s c z a b ∙ rw (← e, h) refl in
        let i : w - (r.done + rest.done) ≡ w - r.done - rest.done = omega arith in
        let j : t + (r.done + rest.done) ≡ t + r.done + rest.done = omega arith in
        subst (Read w t last s c) (sym whole)
        (rw (entries_raised t r.done rest.marks, last_raised x.level r.done rest.marks, i, j)
        (record { turns = suc n; some = omega arith; few = omega arith; goes = by_saying (turn_of log memory) turn g }))

  -- a reading whose only record took its only room
  as_later : (r : Progress State) (x : Mark) → r.marks ≡ x ∷ [] → r.room ≡ 0 → r ≡ later r.done (x ∷ []) (start 0 r.state)
  as_later r x h room =
      ap₂ (λ (k : ℕ) (ms : List Mark). record { state = r.state; done = r.done; room = k; marks = ms }) room h ∙ rw add-zero

  either_way : (n : ℕ) → (n ≡ 0) ⊎ (0 < n)
  either_way zero = inl refl
  either_way (suc n) = inr (omega arith)

  -- as many turns as a portion has records, and one where it has none
  pub waits : (more w t last : ℕ) (s : State) (c : Cursor) → 0 < w → w ≤ 1000000 → t + w ≤ 2000000000 → Read w t last s c (plain (chip_clockwork memory) (1 + more) w s)
  unfolding last_of
  waits zero w t last s c z a b = by (plain (chip_clockwork memory) 1 w s) refl (plain (chip_clockwork memory) 1 w s).marks refl
    where
      by : (r : Progress State) → r ≡ plain (chip_clockwork memory) 1 w s → (ms : List Mark) → r.marks ≡ ms → Read w t last s c (plain (chip_clockwork memory) (1 + 0) w s)
      by r e [] h = none w t last s c z a b 0 r e h
      by r e (x ∷ y ∷ ms) h = absurd (let q : r.room + suc (suc (length ms)) ≡ 1 = room_of_lem w s r e (x ∷ y ∷ ms) h in omega arith)
      by r e (x ∷ []) h =
          let room : r.room ≡ 0 = (let q : r.room + 1 ≡ 1 = room_of_lem w s r e (x ∷ []) h in omega arith) in
          let k : w - r.done - 0 ≡ w - r.done = omega arith in
          one w t last s c z a b 0 r e x h (start 0 r.state) (sym e ∙ as_later r x h room) 0 (omega arith) (rw (k, add-zero) here)
  waits (suc more) w t last s c z a b =
      by (plain (chip_clockwork memory) 1 w s) refl (plain (chip_clockwork memory) 1 w s).marks refl (λ w t last s z a b. waits more w t last s c z a b)
    where
      by : (r : Progress State) → r ≡ plain (chip_clockwork memory) 1 w s → (ms : List Mark) → r.marks ≡ ms
          → ((w t last : ℕ) (s : State) → 0 < w → w ≤ 1000000 → t + w ≤ 2000000000 → Read w t last s c (plain (chip_clockwork memory) (1 + more) w s))
          → Read w t last s c (plain (chip_clockwork memory) (1 + suc more) w s)
      by r e [] h ih = none w t last s c z a b (suc more) r e h
      by r e (x ∷ y ∷ ms) h ih = absurd (let q : r.room + suc (suc (length ms)) ≡ 1 = room_of_lem w s r e (x ∷ y ∷ ms) h in omega arith)
      by r e (x ∷ []) h ih =
          let room : r.room ≡ 0 = (let q : r.room + 1 ≡ 1 = room_of_lem w s r e (x ∷ []) h in omega arith) in
          let most : r.done ≤ w = rw e (plain_most (chip_clockwork memory) 1 w s) in
          let k : r.room + suc more ≡ 1 + more = omega arith in
          let whole : plain (chip_clockwork memory) (1 + suc more) w s ≡ later r.done (x ∷ []) (plain (chip_clockwork memory) (1 + more) (w - r.done) r.state) =
          plain_more (chip_clockwork memory) 1 w s (suc more) ∙ rw (← e, h, k) refl in
          on (either_way (w - r.done)) whole most
        where
          on : (w - r.done ≡ 0) ⊎ (0 < w - r.done)
              → plain (chip_clockwork memory) (1 + suc more) w s ≡ later r.done (x ∷ []) (plain (chip_clockwork memory) (1 + more) (w - r.done) r.state) → r.done ≤ w
              → Read w t last s c (plain (chip_clockwork memory) (1 + suc more) w s)
          on (inr d) whole most =
              let i = ih (w - r.done) (t + r.done) x.level r.state d (omega arith) (omega arith) in
              one w t last s c z a b (suc more) r e x h (plain (chip_clockwork memory) (1 + more) (w - r.done) r.state) whole i.turns i.few i.goes
          on (inl d) whole most =
              let k : w - r.done - 0 ≡ w - r.done = omega arith in
              let rest : plain (chip_clockwork memory) (1 + more) (w - r.done) r.state ≡ start (1 + more) r.state =
              ap (λ (n : ℕ). plain (chip_clockwork memory) (1 + more) n r.state) d ∙ plain_none (chip_clockwork memory) (1 + more) r.state in
              one w t last s c z a b (suc more) r e x h (start (1 + more) r.state) (whole ∙ ap (later r.done (x ∷ [])) rest) 0 (omega arith) (rw (k, add-zero) here)

-- a portion keeps the state in range
pub plain_ranged : (memory : List ℕ) → Bytes memory → (a n : ℕ) (s : State) → in_range s ≡ true → in_range (plain (chip_clockwork memory) a n s).state ≡ true
unfolding plain
plain_ranged memory bytes a n s h = state_back _ (reading_keeps (chip_clockwork memory) StateRanged (clock_kept memory bytes) n (start a s) (state_in_lem s h))

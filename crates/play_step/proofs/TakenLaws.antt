-- What a step does is what the player's turns say: each turn is one, and a portion of a wait as many as it has records. Assumes nothing.
use Prim.Native.Nat.{ℕ, ◌+◌, ◌-◌, ◌≤◌, ◌<◌}
use mathlib.Core.Path.{◌≡◌, refl, sym, ap, ◌∙◌}
use mathlib.Core.Bool.{Bool, true, false}
use mathlib.Core.List.{List, [], ◌∷◌, map}
use native.Mathlib.Nat.{add-zero}
use native.Mathlib.Omega.{arith}
use lib.Dec.{eqb, leb}
use lib.ListN.{length}
use lib.Seq.{sets}
use borrow.Author.Tests.{eqb-true, eqb-false, leb-true, leb-false}
use Rattle.arith.specs.Pick.{pick}
use Rattle.reading.specs.Saying.{Said, over, on, says, refused}
use Rattle.reading.specs.Reading.{Progress}
use Rattle.run_answer.proofs.AnswerLaws.{number_none, number_three}
use Rattle.chip.specs.Range.{in_range, Bytes}
use Rattle.chip.specs.declared.State.{State}
use Rattle.play_text.specs.declared.Entry.{Entry}
use Rattle.play_text.specs.Entries.{entry_text, entries_text}
use Rattle.play_text.proofs.LineLaws.{lines_in_lem, lines_end_lem}
use Rattle.play_text.proofs.TextLaws.{entries_none, entries_one}
use Rattle.play_rules.specs.declared.Player.{Player}
use Rattle.play_rules.specs.Portion.{entry_at}
use Rattle.play_rules.specs.Turns.{Go, go, player_of, cursor_turn, phase_turn, turn_of, Goes, here}
use Rattle.play_rules.proofs.TurnLaws.{turn_phase, turn_cursor, turn_three, turn_nine, Ends, Short, cursor_stays, phase_stays, cursor_short, phase_short}
use Rattle.play_rules.proofs.WaitLaws.{by_quiet, by_saying, waits, plain_ranged}
use Rattle.play_turn.specs.declared.Told.{Told}
use Rattle.play_turn.specs.declared.Told.TheVariants.{Over, On, Says, Refused}
use Rattle.play_turn.specs.declared.Went.{Went}
use Rattle.play_turn.specs.Turned.{told_as, went}
use Rattle.play_step.specs.declared.Taken.{Taken}
use Rattle.play_step.specs.Steps.{taken_of, taken_bytes, room_for, portion_of, portion_text, portion_taken, wait_number, halted, wait_taken, wait_text, step_taken, step_bytes}
use Rattle.play_step.proofs.PortionLaws.{number_run, number_late, number_own, room_fits, room_some, portion_size}

-- WHAT A STEP COMES TO

-- a turn or more, and their lines behind `at`
pub record Moved (turn : Player → Go) (p : Player) (at : ℕ) (before after : List ℕ) (r : Taken) : Type 0 where
  pub entries : List Entry
  pub turns : ℕ
  pub some : 0 < turns
  pub goes : Goes turn p entries turns r.player
  pub place : r.at ≡ at + length (entries_text entries)
  pub fits : at + length (entries_text entries) ≤ length before
  pub bytes : after ≡ sets before at (entries_text entries)
  pub fine : in_range r.player.state ≡ true

-- what a step of the loop comes to, by its kind
pub record Took (turn : Player → Go) (p : Player) (at : ℕ) (before after : List ℕ) (r : Taken) : Type 0 where
  pub moved : r.kind ≡ 0 → Moved turn p at before after r
  pub ended : r.kind ≡ 1 → (after ≡ before) × ((turn p).said ≡ over)
  pub halted : r.kind ≡ 2 → (after ≡ before) × ((turn p).said ≡ refused r.number r.place)
  -- over or refused, the player and the place are those that it came with
  pub stays : (r.kind ≡ 0 → ⊥) → (r.player ≡ p) × (r.at ≡ at)
  pub kinds : r.kind ≤ 2

-- A TURN THAT IS NO PART OF A WAIT
module _ (turn : Player → Go) (p : Player) (at : ℕ) (before after : List ℕ) (r : Taken) where
  took_of : (s : Said Entry) (q : Player) → turn p ≡ go s q → r ≡ taken_of before at (told_as s) q → after ≡ taken_bytes before at (told_as s) → at + 23 ≤ length before
      → Short s → in_range r.player.state ≡ true → (Ends s → q ≡ p) → Took turn p at before after r
  took_of over q e a b f h k w =
      let z : r.kind ≡ 1 = ap (λ (t : Taken). t.kind) a in
      record {
        moved = λ y. absurd (omega arith);
        ended = λ y. (b, ap (λ (g : Go). g.said) e);
        halted = λ y. absurd (omega arith);
        stays = λ y. (ap (λ (t : Taken). t.player) a ∙ w tt, ap (λ (t : Taken). t.at) a);
        kinds = omega arith;
      }
  took_of on q e a b f h k w =
      let z : r.kind ≡ 0 = ap (λ (t : Taken). t.kind) a in
      let i : r.at ≡ at = ap (λ (t : Taken). t.at) a in
      let j : r.player ≡ q = ap (λ (t : Taken). t.player) a in
      record {
        moved =
            λ y. record {
              entries = [];
              turns = 1;
              some = omega arith;
              goes = rw j (by_quiet turn e here);
              place = rw entries_none (i ∙ sym (add-zero at));
              fits = rw entries_none (omega arith);
              bytes = rw entries_none b;
              fine = k;
            };
        ended = λ y. absurd (omega arith);
        halted = λ y. absurd (omega arith);
        stays = λ y. absurd (y z);
        kinds = omega arith;
      }
  took_of (says n) q e a b f h k w =
      let z : r.kind ≡ 0 = ap (λ (t : Taken). t.kind) a in
      let i : r.at ≡ at + length (entry_text n) = ap (λ (t : Taken). t.at) a ∙ lines_end_lem before at 1 (entry_text n) (omega arith) in
      let j : r.player ≡ q = ap (λ (t : Taken). t.player) a in
      record {
        moved =
            λ y. record {
              entries = n ∷ [];
              turns = 1;
              some = omega arith;
              goes = rw j (by_saying turn e here);
              place = rw entries_one i;
              fits = rw entries_one (omega arith);
              bytes = rw entries_one (b ∙ lines_in_lem before at 1 (entry_text n) (omega arith));
              fine = k;
            };
        ended = λ y. absurd (omega arith);
        halted = λ y. absurd (omega arith);
        stays = λ y. absurd (y z);
        kinds = omega arith;
      }
  took_of (refused k' place) q e a b f h k w =
      let z : r.kind ≡ 2 = ap (λ (t : Taken). t.kind) a in
      let i : r.number ≡ k' = ap (λ (t : Taken). t.number) a in
      let j : r.place ≡ place = ap (λ (t : Taken). t.place) a in
      record {
        moved = λ y. absurd (omega arith);
        ended = λ y. absurd (omega arith);
        halted = λ y. (b, ap (λ (g : Go). g.said) e ∙ rw (i, j) refl);
        stays = λ y. (ap (λ (t : Taken). t.player) a ∙ w tt, ap (λ (t : Taken). t.at) a);
        kinds = omega arith;
      }

  took_refusal : (number : ℕ) → turn p ≡ go (refused number 0) p → r ≡ halted number p at → after ≡ before → Took turn p at before after r
  took_refusal number e a b =
      let z : r.kind ≡ 2 = ap (λ (t : Taken). t.kind) a in
      let i : r.number ≡ number = ap (λ (t : Taken). t.number) a in
      let j : r.place ≡ 0 = ap (λ (t : Taken). t.place) a in
      record {
        moved = λ y. absurd (omega arith);
        ended = λ y. absurd (omega arith);
        halted = λ y. (b, ap (λ (g : Go). g.said) e ∙ rw (i, j) refl);
        stays = λ y. (ap (λ (t : Taken). t.player) a, ap (λ (t : Taken). t.at) a);
        kinds = omega arith;
      }

module _ (log memory : List ℕ) (p : Player) (before : List ℕ) (at : ℕ) where
  -- A PORTION OF A WAIT
  module _ (size : length memory ≡ 32768) (f : in_range p.state ≡ true) (space : at + 23 ≤ length before) (phase : p.phase ≡ 2) (some : 0 < p.wait) (after : List ℕ) (r : Taken)
      (k : in_range r.player.state ≡ true) where
    abbrev room : ℕ
    room = room_for (length before) at

    abbrev R : Progress State
    R = portion_of memory room p

    came_to : r ≡ portion_taken p at R → player_of 2 (p.wait - R.done) (p.time + R.done) (portion_taken p at R).player.last R.state p.cursor ≡ r.player
    came_to e =
        ap (λ (n : ℕ). player_of n (p.wait - R.done) (p.time + R.done) (portion_taken p at R).player.last R.state p.cursor) (sym phase)
        ∙ ap (λ (t : Taken). t.player) (sym e)

    took_portion : p.wait ≤ 1000000 → p.time + p.wait ≤ 2000000000 → r ≡ portion_taken p at R → after ≡ sets before at (portion_text p R) → Took (turn_of log memory) p at before after r
    took_portion short total e b =
        let one : 1 + (room - 1) ≡ room = (let x = room_some (length before) at space in omega arith) in
        let same : player_of 2 p.wait p.time p.last p.state p.cursor ≡ p = ap (λ (n : ℕ). player_of n p.wait p.time p.last p.state p.cursor) (sym phase) in
        let w = rw (one, same) at (waits log memory (room - 1) p.wait p.time p.last p.state p.cursor some short total) in
        let i : r.at ≡ at + length (portion_text p R) = ap (λ (t : Taken). t.at) e in
        let z : r.kind ≡ 0 = ap (λ (t : Taken). t.kind) e in
        record {
          moved =
              λ y. record {
                entries = map (entry_at p.time) R.marks;
                turns = w.turns;
                some = w.some;
                goes = rw (came_to e) at w.goes;
                place = i;
                fits = portion_size memory p room (length before) at (room_fits (length before) at (omega arith));
                bytes = b;
                fine = k;
              };
          ended = λ y. absurd (omega arith);
          halted = λ y. absurd (omega arith);
          stays = λ y. absurd (y z);
          kinds = omega arith;
        }

    took_wait : r ≡ wait_taken memory room p at → after ≡ sets before at (wait_text memory room p) → Took (turn_of log memory) p at before after r
    unfolding wait_taken wait_text
    took_wait e b = by (leb p.wait 1000000) refl (leb (p.time + p.wait) 2000000000) refl
      where
        by : (t : Bool) → leb p.wait 1000000 ≡ t → (u : Bool) → leb (p.time + p.wait) 2000000000 ≡ u → Took (turn_of log memory) p at before after r
        by true a true c =
            let short = leb-true p.wait 1000000 a in
            let total = leb-true (p.time + p.wait) 2000000000 c in
            let n : wait_number memory p ≡ 0 = number_run memory p total ∙ number_none memory p.state p.wait size f short in
            took_portion short total (rw n at e) (rw n at b)
        by true a false c =
            let short = leb-true p.wait 1000000 a in
            let late = leb-false (p.time + p.wait) 2000000000 c in
            let n : wait_number memory p ≡ 9 = number_late memory p late ∙ rw (number_none memory p.state p.wait size f short) refl in
            took_refusal (turn_of log memory) p at before after r 9 (turn_nine log memory p phase some short late) (rw n at e) (rw n at b)
        by false a u c =
            let long = leb-false p.wait 1000000 a in
            let n : wait_number memory p ≡ 3 = number_own memory p 2 (number_three memory p.state p.wait size f long) in
            took_refusal (turn_of log memory) p at before after r 3 (turn_three log memory p phase some long) (rw n at e) (rw n at b)

  -- A STEP IS ONE TURN OR SEVERAL
  pub step_took : length memory ≡ 32768 → in_range p.state ≡ true → at + 23 ≤ length before → (after : List ℕ) (r : Taken) → r ≡ step_taken log memory p before at
      → after ≡ step_bytes log memory p before at → in_range r.player.state ≡ true → Took (turn_of log memory) p at before after r
  unfolding step_taken step_bytes
  step_took size f space after r e b k = by (eqb p.phase 2) refl (eqb p.wait 0) refl e b
    where
      by : (t : Bool) → eqb p.phase 2 ≡ t → (u : Bool) → eqb p.wait 0 ≡ u
          → r ≡ pick t (pick u (taken_of before at (told_as (cursor_turn log p).said) (cursor_turn log p).state) (wait_taken memory (room_for (length before) at) p at))
          (taken_of before at (told_as (phase_turn p).said) (phase_turn p).state)
          → after ≡ pick t (pick u (taken_bytes before at (told_as (cursor_turn log p).said)) (sets before at (wait_text memory (room_for (length before) at) p))) (taken_bytes before at (told_as (phase_turn p).said))
          → Took (turn_of log memory) p at before after r
      by true i true j e b =
          took_of (turn_of log memory) p at before after r (cursor_turn log p).said (cursor_turn log p).state (turn_cursor log memory p (eqb-true p.phase 2 i) (eqb-true p.wait 0 j)) e b space
          (cursor_short log p) k (cursor_stays log p)
      by true i false j e b =
          took_wait size f space (eqb-true p.phase 2 i) (let n = eqb-false p.wait 0 j in omega (arith, n)) after r k e b
      by false i u j e b =
          took_of (turn_of log memory) p at before after r (phase_turn p).said (phase_turn p).state (turn_phase log memory p (eqb-false p.phase 2 i)) e b space
          (phase_short p) k (phase_stays p)

  -- WHAT THE CODE'S PARTS COME TO
  pub by_turn : (eqb p.phase 2 ≡ true → eqb p.wait 0 ≡ true) → (w : Went) → w ≡ went (pick (eqb p.phase 2) (cursor_turn log p) (phase_turn p)) → (after : List ℕ) (r : Taken)
      → r ≡ taken_of before at w.told w.player → after ≡ taken_bytes before at w.told → (r ≡ step_taken log memory p before at) × (after ≡ step_bytes log memory p before at)
  unfolding step_taken step_bytes
  by_turn z w e after r a b = by (eqb p.phase 2) (eqb p.wait 0) z (rw e at a) (rw e at b)
    where
      by : (t u : Bool) → (t ≡ true → u ≡ true)
          → r ≡ taken_of before at (told_as (pick t (cursor_turn log p) (phase_turn p)).said) (pick t (cursor_turn log p) (phase_turn p)).state
          → after ≡ taken_bytes before at (told_as (pick t (cursor_turn log p) (phase_turn p)).said)
          → (r ≡ pick t (pick u (taken_of before at (told_as (cursor_turn log p).said) (cursor_turn log p).state) (wait_taken memory (room_for (length before) at) p at))
          (taken_of before at (told_as (phase_turn p).said) (phase_turn p).state))
          × (after ≡ pick t (pick u (taken_bytes before at (told_as (cursor_turn log p).said)) (sets before at (wait_text memory (room_for (length before) at) p))) (taken_bytes before at (told_as (phase_turn p).said)))
      by true true z a b = (a, b)
      by true false z a b = absurd (let y = z refl in let x : ◌≡◌ {A = ℕ} 0 1 = cc in omega arith)
      by false u z a b = (a, b)

  pub by_wait : eqb p.phase 2 ≡ true → eqb p.wait 0 ≡ false → (after : List ℕ) (r : Taken) → r ≡ wait_taken memory (room_for (length before) at) p at
      → after ≡ sets before at (wait_text memory (room_for (length before) at) p) → (r ≡ step_taken log memory p before at) × (after ≡ step_bytes log memory p before at)
  unfolding step_taken step_bytes
  by_wait i j after r a b = rw (i, j) (a, b)

pub taken_player : (out : List ℕ) (at : ℕ) (w : Told) (p : Player) → (taken_of out at w p).player ≡ p
taken_player out at Over p = refl
taken_player out at On p = refl
taken_player out at (Says n) p = refl
taken_player out at (Refused k q) p = refl

-- a wait keeps the state in range
pub wait_kept : (memory : List ℕ) → Bytes memory → (room : ℕ) (p : Player) (at : ℕ) → in_range p.state ≡ true → in_range (wait_taken memory room p at).player.state ≡ true
unfolding wait_taken
wait_kept memory bytes room p at f = by (eqb (wait_number memory p) 0)
  where
    by : (t : Bool) → in_range (pick t (portion_taken p at (portion_of memory room p)) (halted (wait_number memory p) p at)).player.state ≡ true
    by true = plain_ranged memory bytes room p.wait p.state f
    by false = f

-- Between crates: what a step of the player leaves in lent bytes; proved to be turns (proofs/TakenLaws).
-- A step of the player over lent bytes: a turn's line, or a portion of a wait as lines.
use Rattle.std.specs.Prelude.{ℕ, ◌+◌, ◌-◌, ◌*◌, ◌/◌, List, [], map, length, get_or, eqb, leb, ltb}
use Rattle.std.proofs.lemmas.List.Edits.{sets}
use Rattle.arith.specs.Pick.{pick}
use Rattle.reading.specs.Reading.{Progress, plain}
use Rattle.run_answer.specs.Run.{chip_clockwork, number}
use Rattle.chip.specs.declared.State.{State}
use Rattle.play_text.specs.Entries.{entry_text, entries_text}
use Rattle.play_text.specs.Lines.{lines_in, lines_end}
use Rattle.play_rules.specs.declared.Player.{Player}
use Rattle.play_rules.specs.Portion.{entry_at, last_of}
use Rattle.play_rules.specs.Turns.{player_of, cursor_turn, phase_turn}
use Rattle.play_turn.specs.declared.Told.{Told}
use Rattle.play_turn.specs.declared.Told.TheVariants.{Over, On, Says, Refused}
use Rattle.play_turn.specs.Turned.{told_as}
use Rattle.play_step.specs.declared.Taken.{Taken}

-- what is taken from a turn: 0 gone on, 1 over, 2 refused with number and place
abbrev pub taken_of : List ℕ → ℕ → Told → Player → Taken
taken_of out at Over p = record { kind = 1; number = 0; place = 0; player = p; at = at }
taken_of out at On p = record { kind = 0; number = 0; place = 0; player = p; at = at }
taken_of out at (Says n) p = record { kind = 0; number = 0; place = 0; player = p; at = lines_end out at 1 (entry_text n) }
taken_of out at (Refused k q) p = record { kind = 2; number = k; place = q; player = p; at = at }

-- its line in the buffer
abbrev pub taken_bytes : List ℕ → ℕ → Told → List ℕ
taken_bytes out at Over = out
taken_bytes out at On = out
taken_bytes out at (Says n) = lines_in out at 1 (entry_text n)
taken_bytes out at (Refused k q) = out

-- how many records surely fit behind `at`: 23 bytes for each, and at most 256
unfoldable pub room_for : ℕ → ℕ → ℕ
room_for size at = pick (ltb ((size - at) / 23) 256) ((size - at) / 23) 256

-- the last of n levels in words, or the one before them
abbrev pub last_in : ℕ → ℕ → List ℕ → ℕ
last_in last n words = pick (eqb n 0) last (get_or words (2 * n - 1) 0)

-- a portion of a wait is the plain reading with so much room
abbrev pub portion_of : List ℕ → ℕ → Player → Progress State
portion_of memory room p = plain (chip_clockwork memory) room p.wait p.state

-- its records as lines
abbrev pub portion_text : Player → Progress State → List ℕ
portion_text p r = entries_text (map (entry_at p.time) r.marks)

-- the player behind it
abbrev pub portion_taken : Player → ℕ → Progress State → Taken
portion_taken p at r =
    record {
      kind = 0;
      number = 0;
      place = 0;
      player = player_of p.phase (p.wait - r.done) (p.time + r.done) (last_of p.last r.marks) r.state p.cursor;
      at = at + length (portion_text p r);
    }

-- a wait's number: its run's own, 1, 2 or 3, "Lowest number first"; then 9, "over 2,000,000,000 clocks"
unfoldable pub wait_number : List ℕ → Player → ℕ
wait_number memory p =
    pick (eqb (number memory p.state p.wait) 0) (pick (leb (p.time + p.wait) 2000000000) 0 9) (number memory p.state p.wait)

-- "A refusal returns its number and place, the state .. as given"
abbrev pub halted : ℕ → Player → ℕ → Taken
halted number p at = record { kind = 2; number = number; place = 0; player = p; at = at }

-- a wait: a portion of it, or its refusal
unfoldable pub wait_taken : List ℕ → ℕ → Player → ℕ → Taken
wait_taken memory room p at =
    pick (eqb (wait_number memory p) 0) (portion_taken p at (portion_of memory room p)) (halted (wait_number memory p) p at)

-- its lines; refused, "lent memory untouched"
unfoldable pub wait_text : List ℕ → ℕ → Player → List ℕ
wait_text memory room p = pick (eqb (wait_number memory p) 0) (portion_text p (portion_of memory room p)) []

-- WHAT A STEP COMES TO: a portion of a wait, or a turn
unfoldable pub step_taken : List ℕ → List ℕ → Player → List ℕ → ℕ → Taken
step_taken log memory p out at =
    pick (eqb p.phase 2)
    (pick (eqb p.wait 0)
    (taken_of out at (told_as (cursor_turn log p).said) (cursor_turn log p).state)
    (wait_taken memory (room_for (length out) at) p at))
    (taken_of out at (told_as (phase_turn p).said) (phase_turn p).state)

-- WHAT IT LEAVES IN THE LENT BYTES
unfoldable pub step_bytes : List ℕ → List ℕ → Player → List ℕ → ℕ → List ℕ
step_bytes log memory p out at =
    pick (eqb p.phase 2)
    (pick (eqb p.wait 0)
    (taken_bytes out at (told_as (cursor_turn log p).said))
    (sets out at (wait_text memory (room_for (length out) at) p)))
    (taken_bytes out at (told_as (phase_turn p).said))

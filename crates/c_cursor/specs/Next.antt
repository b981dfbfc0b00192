-- The operations on a cursor's bytes: at a log's beginning, and the next item.
use Rattle.std.specs.Prelude.{ℕ, zero, suc, ◌*◌, ◌^◌, List, length, eqb}
use Rattle.arith.specs.Pick.{pick}
use Rattle.reading.specs.Saying.{Said, over, on, says, refused, Turn}
use Rattle.log_cursor.specs.declared.Cursor.{Cursor}
use Rattle.log_cursor.specs.declared.Given.{Given}
use Rattle.log_cursor.specs.declared.Stepped.{Stepped}
use Rattle.log_cursor.specs.Stepping.{stepped_of, found_number, found_place, found_acts, is_moved, is_refused, step_of, beginning}
use Rattle.c_log.specs.Logs.{log_packed, acts_value}
use Rattle.c_cursor.specs.Cursors.{cursor_size, cursor_bytes, cursor_of, cursor_encoded}

-- AT THE BEGINNING: any bytes of a cursor's length, whatever they held; 2 for another length
abbrev pub start_packed : List ℕ → ℕ
start_packed b = pick (eqb (length b) cursor_size) 0 2

abbrev pub start_bytes : List ℕ → List ℕ
start_bytes b = cursor_encoded beginning b

-- THE NEXT ITEM

-- a step that said something ends a search
unfoldable pub ended_by : {A B : Type 0} → Said A → B → B → B
ended_by over here further = here
ended_by on here further = further
ended_by (says a) here further = here
ended_by (refused k p) here further = here

-- steps up to the first that says something, at most f of them
unfoldable pub next_in : {S A : Type 0} → (S → Turn S A) → ℕ → S → Turn S A
next_in step zero s = record { said = on; state = s }
next_in step (suc f) s = ended_by (step s).said (step s) (next_in step f (step s).state)

-- from a cursor on; a log that passes has no more steps in all
unfoldable pub next_of : List ℕ → Cursor → Stepped
next_of log c = stepped_of (next_in (step_of log) 2000002 c)

-- "kind x 2^24 + what it holds", as an item's; kind 0, the log's end; kind 4, moved to no item yet
abbrev pub next_found : Given → ℕ
next_found f = log_packed (found_number f) (found_place f) (pick (is_moved f) (4 * 2 ^ 24) (acts_value (found_acts f)))

-- 2 for another length; then the number and the place of the line that the cursor comes to
unfoldable pub next_packed : List ℕ → List ℕ → ℕ
next_packed log b = pick (eqb (length b) cursor_size) (next_found (next_of log (cursor_of b)).found) 2

-- the bytes afterwards: the cursor's where it came to; refused, as they were
abbrev pub cursor_moved : Stepped → List ℕ → List ℕ
cursor_moved s b = pick (is_refused s.found) b (cursor_bytes s.cursor)

unfoldable pub next_bytes : List ℕ → List ℕ → List ℕ
next_bytes log b = pick (eqb (length b) cursor_size) (cursor_moved (next_of log (cursor_of b)) b) b

-- CALLS: the bytes b behind a start and k calls for the next item, each with the bytes as the one before left them
unfoldable pub called : List ℕ → ℕ → List ℕ → List ℕ
called log zero b = start_bytes b
called log (suc k) b = next_bytes log (called log k b)

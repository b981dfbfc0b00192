-- The player as a teller that says lines, one small step at a time, for any player and any bytes.
use Rattle.std.specs.Prelude.{ℕ, suc, ◌+◌, ◌-◌, ◌≡◌, Bool, false, List, [], ◌∷◌, eqb, leb}
use Rattle.arith.specs.Pick.{pick}
use Rattle.bus.specs.declared.Access.{Access}
use Rattle.bus.specs.declared.Access.TheVariants as bus
use Rattle.log_line.specs.declared.Act.{Act}
use Rattle.log_line.specs.declared.Act.TheVariants as line
use Rattle.reading.specs.Saying.{Said, over, on, says, refused, Turn}
use Rattle.recording_cursor.specs.declared.Cursor.{Cursor}
use Rattle.recording_cursor.specs.Stepping.{beginning, step_of}
use Rattle.reading.specs.Reading.{Mark, Progress, plain}
use Rattle.run_answer.specs.Run.{chip_clockwork}
use Rattle.chip.specs.Level.{state_level}
use Rattle.chip.specs.Range.{power_on}
use Rattle.chip.specs.declared.State.{State}
use Rattle.chip_access.specs.Access.{access_state, access_byte}
use Rattle.play_text.specs.declared.Entry.{Entry}
use Rattle.play_text.specs.declared.Entry.TheVariants.{Play, Level, Read, Stop}
use Rattle.play_rules.specs.declared.Player.{Player}

abbrev pub Go : Type 0
Go = Turn Player Entry

abbrev pub go : Said Entry → Player → Go
go w p = record { said = w; state = p }

-- the phases: `play=1` is due; the first level is; the log's acts go on; from `ended` on all is over
abbrev pub opening : ℕ
opening = 0

abbrev pub first : ℕ
first = 1

abbrev pub acting : ℕ
acting = 2

abbrev pub ended : ℕ
ended = 3

abbrev pub player_of : ℕ → ℕ → ℕ → ℕ → State → Cursor → Player
player_of phase wait time last s c = record { phase = phase; wait = wait; time = time; last = last; state = s; cursor = c }

-- a player at the beginning of a log for the machine (true is PAL)
unfoldable pub fresh_player : Bool → Player
fresh_player pal = player_of opening 0 0 0 (power_on pal) beginning

-- a player with nothing to play
unfoldable pub ended_player : Player
ended_player = player_of ended 0 0 0 (power_on false) beginning

-- behind an access that led to the state s: a line where the level is other than the last written
unfoldable pub level_told : Player → State → Cursor → Go
level_told p s c =
    pick (eqb (state_level s) p.last) (go on (player_of acting 0 p.time p.last s c))
    (go (says (Level p.time (state_level s))) (player_of acting 0 p.time (state_level s) s c))

-- an act of the log (a read leaves the level)
unfoldable pub acted : Player → Act → Cursor → Go
acted p (line.Wait n) c = go on (player_of acting n p.time p.last p.state c)
acted p (line.Access (bus.Write r v)) c = level_told p (access_state (bus.Write r v) p.state) c
acted p (line.Access bus.Read) c =
    go (says (Read p.time (access_byte bus.Read p.state))) (player_of acting 0 p.time p.last (access_state bus.Read p.state) c)

-- what a step of the cursor says: at the log's end `stop=T`; a line at fault is refused, and the player stays
unfoldable pub step_said : Player → Said Act → Cursor → Go
step_said p over c = go (says (Stop p.time)) (player_of ended 0 p.time p.last p.state c)
step_said p on c = go on (player_of acting 0 p.time p.last p.state c)
step_said p (says a) c = acted p a c
step_said p (refused k q) c = go (refused k q) p

unfoldable pub cursor_turn : List ℕ → Player → Go
cursor_turn log p = step_said p (step_of log p.cursor).said (step_of log p.cursor).state

-- the first level that a portion of a wait brought, as a line; and the last level behind it
unfoldable pub mark_said : ℕ → List Mark → Said Entry
mark_said t [] = on
mark_said t (m ∷ ms) = says (Level (t + m.clock) m.level)

unfoldable pub mark_last : ℕ → List Mark → ℕ
mark_last last [] = last
mark_last last (m ∷ ms) = m.level

-- the player behind a portion of its wait
unfoldable pub waited_by : Player → Progress State → Go
waited_by p r =
    go (mark_said p.time r.marks)
    (player_of acting (p.wait - r.done) (p.time + r.done) (mark_last p.last r.marks) r.state p.cursor)

-- a wait up to its next line but one, or its end: the plain reading with room for one record. 3: "a run of more than 1,000,000 clocks";
-- 9: "over 2,000,000,000 clocks"
unfoldable pub wait_turn : List ℕ → Player → Go
wait_turn memory p =
    pick (leb p.wait 1000000)
    (pick (leb (p.time + p.wait) 2000000000) (waited_by p (plain (chip_clockwork memory) 1 p.wait p.state)) (go (refused 9 0) p))
    (go (refused 3 0) p)

-- the first two lines, and the end
unfoldable pub phase_turn : Player → Go
phase_turn p =
    pick (eqb p.phase opening) (go (says Play) (player_of first p.wait p.time p.last p.state p.cursor))
    (pick (eqb p.phase first)
    (go (says (Level p.time (state_level p.state))) (player_of acting p.wait p.time (state_level p.state) p.state p.cursor))
    (go over p))

-- ONE TURN of a player
unfoldable pub turn_of : List ℕ → List ℕ → Player → Go
turn_of log memory p =
    pick (eqb p.phase acting) (pick (eqb p.wait 0) (cursor_turn log p) (wait_turn memory p)) (phase_turn p)

-- from a player, in so many turns, to another, with the lines that are said on the way
pub data Goes (turn : Player → Go) : Player → List Entry → ℕ → Player → Type 0 where
  here : {p : Player} → Goes turn p [] 0 p
  quietly : {p q : Player} {entries : List Entry} {n : ℕ} → (turn p).said ≡ on → Goes turn (turn p).state entries n q → Goes turn p entries (suc n) q
  saying : {p q : Player} {entry : Entry} {entries : List Entry} {n : ℕ} → (turn p).said ≡ says entry → Goes turn (turn p).state entries n q
      → Goes turn p (entry ∷ entries) (suc n) q

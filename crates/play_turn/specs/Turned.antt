-- A turn as it is handed back; that it is `turn_of` is proved (play_step/proofs/TakenLaws).
use Rattle.std.specs.Prelude.{ℕ, ◌≡◌, true, List, [], ◌∷◌}
use Rattle.reading.specs.Saying.{Said, over, on, says, refused, said_number, said_place, said_things}
use Rattle.log_line.specs.declared.Act.{Act}
use Rattle.log_cursor.specs.declared.Given.{Given}
use Rattle.chip.specs.Range.{in_range}
use Rattle.play_text.specs.declared.Entry.{Entry}
use Rattle.play_rules.specs.declared.Player.{Player}
use Rattle.play_rules.specs.Turns.{Go}
use Rattle.play_turn.specs.declared.Told.{Told}
use Rattle.play_turn.specs.declared.Told.TheVariants.{Over, On, Says, Refused}
use Rattle.play_turn.specs.declared.Went.{Went}

-- what is said
abbrev pub told_as : Said Entry → Told
told_as over = Over
told_as on = On
told_as (says n) = Says n
told_as (refused k p) = Refused k p

abbrev pub went : Go → Went
went g = record { told = told_as g.said; player = g.state }

-- what a step of the cursor found, as what is said
abbrev pub found_said : Given → Said Act
found_said (Given.Act a) = says a
found_said Given.Moved = on
found_said Given.End = over
found_said (Given.Refused k p) = refused k p

-- a state in range stays in range
abbrev pub Keeps : Player → Went → Type 0
Keeps p w = in_range p.state ≡ true → in_range w.player.state ≡ true

-- Document 01: "When an answer is an enum, a definition states this paper's number and values for each enum case": a turn is 0 at 0 unless it is
-- refused
abbrev pub told_number : Told → ℕ
told_number Over = 0
told_number On = 0
told_number (Says n) = 0
told_number (Refused k p) = k

abbrev pub told_place : Told → ℕ
told_place Over = 0
told_place On = 0
told_place (Says n) = 0
told_place (Refused k p) = p

-- and its value, the entry
abbrev pub told_entries : Told → List Entry
told_entries Over = []
told_entries On = []
told_entries (Says n) = n ∷ []
told_entries (Refused k p) = []

-- an answer has those of what is said
abbrev pub ToldIs : Said Entry → Told → Type 0
ToldIs w r = (told_number r ≡ said_number w) × (told_place r ≡ said_place w) × (told_entries r ≡ said_things w)

-- The readings settled for requests 2 and 9, as one table: where a line stands, its bytes, and what is found. Every row holds, by computation.
use Rattle.std.specs.Prelude.{ℕ, ◌≡◌, refl, List, [], ◌∷◌, ◌++◌, true, false, Result, Ok, Err}
use Rattle.refusal.specs.declared.Refusal.{Refusal}
use Rattle.refusal.specs.Refusal.{refusal}
use Rattle.bus.specs.Register.{is_register}
use Rattle.bus.specs.declared.Access.TheVariants.{Write, Read}
use Rattle.text.specs.Ascii.{bytes}
use Rattle.text.specs.Key.{starts_with, exactly}
use Rattle.text.specs.Numbers.{within}
use Rattle.text.specs.Decimal.{digit, digits, formed, decimal}
use Rattle.text.specs.Hex.{hex_digit, hex_value, hex_digits, hex}
use Rattle.log_line.specs.declared.Act.TheVariants.{Access}
use Rattle.log_line.specs.declared.Line.{Line}
use Rattle.log_line.specs.declared.Line.TheVariants.{Header, Machine, One, Done, Stop}
use Rattle.log_line.specs.Printed.{ended}
use Rattle.log_line.specs.Said.{counted, written, write_of, wait_of, loop_of, stop_of, unfed_line, line_of}
use Rattle.log_fault.specs.declared.Stand.{Stand}
use Rattle.log_fault.specs.declared.Stand.TheVariants.{First, Among, Alone}
use Rattle.log_form.specs.Forms.{suits, along, nothing, goes_on, begins_number, reach}
use Rattle.log_begins.specs.Begins.{any_true, begins}
use Rattle.log_fault.specs.Allowed.{keys_of}
use Rattle.log_begins.specs.Counts.{keyed, unfed, said, counts}
use Rattle.log_fault.specs.Fault.{whole_of, fault_at, spotted, spot_of}

-- a line with its line feed, or at the log's end without one
pub data LineRow : Type 0 where
  line : Stand → List ℕ → Result Line Refusal → LineRow
  last : Stand → List ℕ → Result Line Refusal → LineRow

-- what is found of each line, and what is to be
abbrev pub found : List LineRow → List (Result Line Refusal)
found [] = []
found (line st s f ∷ rows) = spot_of st (ended s) ∷ found rows
found (last st s f ∷ rows) = spot_of st s ∷ found rows

abbrev pub expected : List LineRow → List (Result Line Refusal)
expected [] = []
expected (line st s f ∷ rows) = f ∷ expected rows
expected (last st s f ∷ rows) = f ∷ expected rows

abbrev inside : ℕ → Stand
inside d = Among false d

abbrev second : Stand
second = Among true 0

abbrev pub settled : List LineRow
settled =
    last First (bytes "lo") (Err (refusal 17 2))
    ∷ last First (bytes "log=1") (Err (refusal 17 5))
    ∷ line First (bytes "log=1") (Ok Header)
    ∷ line First (bytes "log=2") (Err (refusal 15 4))
    ∷ line First (bytes "log=12") (Err (refusal 15 5))
    ∷ line First ((bytes "log=1") ++ (13 ∷ [])) (Err (refusal 15 5))
    ∷ line First (bytes "loop=2") (Err (refusal 14 2))
    ∷ line First (bytes "done=loop") (Err (refusal 14 0))
    ∷ line First (bytes "stop=0") (Err (refusal 14 0))
    ∷ line First [] (Err (refusal 14 0))
    ∷ line First (bytes "write=4014:00") (Err (refusal 14 0))
    ∷ line (inside 0) [] (Err (refusal 14 0))
    ∷ line (inside 0) (bytes "wait") (Err (refusal 14 4))
    ∷ line (inside 0) (bytes "waits=5") (Err (refusal 14 4))
    ∷ line (inside 0) (bytes "wai=5") (Err (refusal 14 3))
    ∷ line (inside 0) (bytes "w=1") (Err (refusal 14 1))
    ∷ line (inside 0) (bytes "wait=") (Err (refusal 15 5))
    ∷ line (inside 0) (bytes "wait=0") (Err (refusal 16 5))
    ∷ line (inside 0) (bytes "wait=01") (Err (refusal 15 5))
    ∷ line (inside 0) (bytes "wait=00") (Err (refusal 15 5))
    ∷ line (inside 0) (bytes "wait=0x") (Err (refusal 15 5))
    ∷ line (inside 0) (bytes "stop=00") (Err (refusal 15 6))
    ∷ line (inside 0) (bytes "stop=01") (Err (refusal 15 6))
    ∷ line (inside 0) (bytes "stop=2000000001") (Err (refusal 16 5))
    ∷ line (inside 0) (bytes "stop=2000000000") (Ok (Stop 2000000000))
    ∷ line (inside 0) (bytes "stop=0") (Ok (Stop 0))
    ∷ line (inside 0) (bytes "wait=1000001") (Err (refusal 16 5))
    ∷ line (inside 0) (bytes "wait=1234567890123456789012345") (Err (refusal 16 5))
    ∷ line (inside 0) (bytes "loop=256") (Err (refusal 16 5))
    ∷ line (inside 0) (bytes "loop=1") (Err (refusal 16 5))
    ∷ line (inside 0) (bytes "loop=0") (Err (refusal 16 5))
    ∷ line (inside 0) (bytes "loop=256x") (Err (refusal 15 7))
    ∷ line (inside 0) (bytes "wait=1000001x") (Err (refusal 15 11))
    ∷ line (inside 0) (bytes "wait=1000000x") (Err (refusal 15 12))
    ∷ line (inside 0) (bytes "loop=1x") (Err (refusal 15 6))
    ∷ last (inside 0) (bytes "loop=1") (Err (refusal 17 6))
    ∷ last (inside 0) (bytes "loop=256") (Err (refusal 16 5))
    ∷ last (inside 0) (bytes "wait=0") (Err (refusal 16 5))
    ∷ last (inside 0) (bytes "wait=1000001") (Err (refusal 16 5))
    ∷ last (inside 0) (bytes "wait=1000000") (Err (refusal 17 12))
    ∷ line (inside 0) (bytes "log=1") (Err (refusal 14 2))
    ∷ line (inside 7) (bytes "log=1") (Err (refusal 14 2))
    ∷ line (inside 8) (bytes "log=1") (Err (refusal 14 0))
    ∷ line (inside 0) (bytes "done=loop") (Err (refusal 8 0))
    ∷ last (inside 0) (bytes "done=loop") (Err (refusal 14 0))
    ∷ line (inside 0) (bytes "done=loops") (Err (refusal 14 0))
    ∷ last (inside 0) (bytes "d") (Err (refusal 14 0))
    ∷ last (inside 1) (bytes "done=loop") (Err (refusal 17 9))
    ∷ line (inside 1) (bytes "done=loops") (Err (refusal 15 9))
    ∷ line (inside 1) (bytes "done=loop") (Ok Done)
    ∷ line (inside 1) (bytes "stop=5") (Err (refusal 8 0))
    ∷ last (inside 1) (bytes "stop=5") (Err (refusal 14 0))
    ∷ line (inside 1) (bytes "stop=x") (Err (refusal 14 0))
    ∷ line (inside 1) (bytes "stop=00") (Err (refusal 14 0))
    ∷ line (inside 1) (bytes "stop=2000000001") (Err (refusal 14 0))
    ∷ last (inside 1) (bytes "st") (Err (refusal 14 0))
    ∷ line (inside 8) (bytes "loop=2") (Err (refusal 7 0))
    ∷ line (inside 8) (bytes "loop=1") (Err (refusal 14 0))
    ∷ line (inside 8) (bytes "loop=256") (Err (refusal 14 0))
    ∷ last (inside 8) (bytes "loop=2") (Err (refusal 14 0))
    ∷ last (inside 8) (bytes "l") (Err (refusal 14 0))
    ∷ line (inside 0) (bytes "write=4014:00") (Err (refusal 4 0))
    ∷ last (inside 0) (bytes "write=4014:00") (Err (refusal 17 13))
    ∷ line (inside 0) (bytes "write=4014:0g") (Err (refusal 15 12))
    ∷ line (inside 0) (bytes "write=400A:00") (Err (refusal 15 9))
    ∷ line (inside 0) (bytes "write=4000:000") (Err (refusal 15 13))
    ∷ line (inside 0) (bytes "write=4000:00") (Ok (One (Access (Write 0x4000 0))))
    ∷ line (inside 0) (bytes "read=4016") (Err (refusal 15 8))
    ∷ line (inside 0) (bytes "read=4015x") (Err (refusal 15 9))
    ∷ line (inside 0) (bytes "read=4015") (Ok (One (Access Read)))
    ∷ line (Alone false) (bytes "log=1") (Err (refusal 14 2))
    ∷ line (Alone false) (bytes "stop=5") (Ok (Stop 5))
    ∷ line (Alone false) (bytes "done=loop") (Ok Done)
    ∷ line second (bytes "machine=pal") (Ok Machine)
    ∷ last second (bytes "m") (Err (refusal 17 1))
    ∷ line second (bytes "mx") (Err (refusal 14 1))
    ∷ line second (bytes "machine") (Err (refusal 14 7))
    ∷ line second (bytes "machine=ntsc") (Err (refusal 15 8))
    ∷ line second (bytes "machine=pal2") (Err (refusal 15 11))
    ∷ last second (bytes "machine=pal") (Err (refusal 17 11))
    ∷ line second (bytes "stop=0") (Ok (Stop 0))
    ∷ line second (bytes "done=loop") (Err (refusal 8 0))
    ∷ line second (bytes "log=1") (Err (refusal 14 2))
    ∷ line First (bytes "machine=pal") (Err (refusal 14 0))
    ∷ line (inside 0) (bytes "machine=pal") (Err (refusal 14 0))
    ∷ last (inside 0) (bytes "m") (Err (refusal 14 0))
    ∷ line (inside 8) (bytes "machine=pal") (Err (refusal 14 0))
    ∷ line (Alone true) (bytes "machine=pal") (Ok Machine)
    ∷ line (Alone true) (bytes "done=loop") (Ok Done)
    ∷ line (Alone false) (bytes "machine=pal") (Err (refusal 14 0))
    ∷ []

pub settled_holds : found settled ≡ expected settled
unfolding is_register starts_with exactly within digit digits formed decimal hex_digit hex_value hex_digits hex ended counted written write_of wait_of loop_of stop_of unfed_line line_of keys_of suits along nothing goes_on begins_number any_true begins reach whole_of keyed unfed said counts fault_at spotted spot_of
settled_holds = refl

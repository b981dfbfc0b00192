-- What `perch vcd FROM CLOCKS` writes about a log: a VCD of a window of it.
use Rattle.std.specs.Prelude.{ℕ, zero, suc, ◌+◌, Bool, true, false, List, [], ◌∷◌, ◌++◌, eqb}
use Rattle.arith.specs.Pick.{pick}
use Rattle.text.specs.Ascii.{bytes}
use Rattle.text_lines.specs.Lines.{refused_line}
use Rattle.vcd_text.specs.Lines.{time_line, value_line}
use Rattle.recording.specs.Whole.{machine_of}
use Rattle.log_rules.specs.Tree.{acts}
use Rattle.recording.specs.Whole.{tree_of}
use Rattle.chip.specs.Range.{power_on}
use Rattle.chip_seen.specs.declared.Seen.{Seen}
use Rattle.play_begin.specs.Whole.{play_number, play_place}
use Rattle.play_trace.specs.declared.Bus.{Bus}
use Rattle.play_trace.specs.declared.Point.{Point}
use Rattle.play_trace.specs.declared.Event.{Event}
use Rattle.play_trace.specs.declared.Event.TheVariants.{Begins, Clocked, Accessed}
use Rattle.play_trace.specs.declared.Place.{Place}
use Rattle.play_trace.specs.declared.Next.{Next}
use Rattle.play_trace.specs.Window.{Window, window_from}
use Rattle.play_trace.specs.Stepping.{step_of, next_of, place_time}

-- the lanes, each with its width and its code: `$var wire WIDTH CODE NAME $end`
unfoldable pub head_text : List ℕ
head_text =
    bytes "$version perchpulley $end\n$timescale 1 ns $end\n$scope module perchpulley $end\n$var wire 31 c clock $end\n$var wire 15 l level $end\n"
    ++ (bytes "$scope module channels $end\n$var wire 4 1 square1 $end\n$var wire 4 2 square2 $end\n$var wire 4 t triangle $end\n"
    ++ (bytes "$var wire 4 n noise $end\n$var wire 7 d dmc $end\n$upscope $end\n$scope module interrupts $end\n$var wire 1 i line $end\n"
    ++ (bytes "$var wire 1 f frame_flag $end\n$var wire 1 g dmc_flag $end\n$upscope $end\n$scope module bus $end\n"
    ++ bytes "$var wire 16 r register $end\n$var wire 8 v value $end\n$var wire 1 x read $end\n$upscope $end\n$upscope $end\n$enddefinitions $end\n")))

-- a lane's line: where every lane is wanted, or where it differs from before
unfoldable pub lane_line : Bool → ℕ → ℕ → ℕ → ℕ → List ℕ
lane_line every width code before after = pick every (value_line width code after) (pick (eqb before after) [] (value_line width code after))

-- the lanes of what is seen, by their codes: l, 1, 2, t, n, d, i, f, g
unfoldable pub seen_lines : Bool → Seen → Seen → List ℕ
seen_lines every a b =
    lane_line every 15 108 a.level b.level
    ++ (lane_line every 4 49 a.square1 b.square1
    ++ (lane_line every 4 50 a.square2 b.square2
    ++ (lane_line every 4 116 a.triangle b.triangle
    ++ (lane_line every 4 110 a.noise b.noise
    ++ (lane_line every 7 100 a.dmc b.dmc
    ++ (lane_line every 1 105 a.line b.line
    ++ (lane_line every 1 102 a.frame_flag b.frame_flag ++ lane_line every 1 103 a.dmc_flag b.dmc_flag)))))))

-- the bus, by its codes: r, v, x
unfoldable pub bus_lines : Bus → List ℕ
bus_lines b = value_line 16 114 b.register ++ (value_line 8 118 b.value ++ value_line 1 120 b.read)

-- a time line "only where something changes", and none twice: `told` is the last one's time
unfoldable pub time_on : ℕ → ℕ → List ℕ
time_on told time = pick (eqb told time) [] (time_line time)

-- a moment: its time, and its clock by the code c
unfoldable pub point_lines : ℕ → Point → List ℕ
point_lines told p = time_on told p.time ++ value_line 31 99 p.clock

-- "`$dumpvars` has every lane at FROM"; no access was there yet
unfoldable pub begin_text : Point → List ℕ
begin_text p =
    time_line p.time
    ++ (bytes "$dumpvars\n" ++ (value_line 31 99 p.clock ++ (seen_lines true p.seen p.seen ++ (bus_lines (record { register = 0; value = 0; read = 0 }) ++ bytes "$end\n"))))

-- an event's lines
unfoldable pub event_text : ℕ → Event → List ℕ
event_text told (Begins p) = begin_text p
event_text told (Clocked before p) = point_lines told p ++ seen_lines false before p.seen
event_text told (Accessed before p b) = point_lines told p ++ (bus_lines b ++ seen_lines false before p.seen)

unfoldable pub event_time : Event → ℕ
event_time (Begins p) = p.time
event_time (Clocked before p) = p.time
event_time (Accessed before p b) = p.time

-- events one after the other, and "the last time line is the window's end"
unfoldable pub events_text : ℕ → List Event → ℕ → List ℕ
events_text told [] end = time_on told end
events_text told (e ∷ l) end = event_text told e ++ events_text (event_time e) l end

unfoldable pub window_text : Window → List ℕ
window_text w = head_text ++ events_text 0 w.events w.end.time

-- THE TEXT for a log, a sample memory and a window of `count` clocks, on the log's machine; refused as the player. Each of its lines ends in one line feed
unfoldable pub vcd_text : List ℕ → List ℕ → ℕ → ℕ → List ℕ
vcd_text log memory from count =
    pick (eqb (play_number log memory) 0)
    (window_text (window_from memory from (from + count) (acts (tree_of log)) 0 (power_on (machine_of log))))
    (refused_line (play_number log memory) (play_place log memory))

-- what is written of a step: an event's lines; at the window's end the last time line; a refusal's
unfoldable pub next_text : ℕ → Next → List ℕ
next_text told (Next.Over time) = time_on told time
next_text told Next.Moved = []
next_text told (Next.Shown e) = event_text told e
next_text told (Next.Refused k q) = refused_line k q

-- the time line that is the last one behind it
unfoldable pub told_after : ℕ → Next → ℕ
told_after told (Next.Over time) = told
told_after told Next.Moved = told
told_after told (Next.Shown e) = event_time e
told_after told (Next.Refused k q) = told

abbrev pub is_over : Next → Bool
is_over (Next.Over time) = true
is_over Next.Moved = false
is_over (Next.Shown e) = false
is_over (Next.Refused k q) = true

-- what is written of n steps, or of those up to the end (from a log's beginning, all behind the head: proofs/Joined)
unfoldable pub steps_text : List ℕ → List ℕ → ℕ → ℕ → ℕ → ℕ → Place → List ℕ
steps_text log memory from until zero told p = []
steps_text log memory from until (suc n) told p =
    let t = step_of log memory from until p in
    let next = next_of t.said (place_time t.state) in
    next_text told next ++ pick (is_over next) [] (steps_text log memory from until n (told_after told next) t.state)

-- The acts of a VGM file, command by command: a wait in samples moves on; a write is given where its clock has come, and before it the waits up to that clock.
use Rattle.std.specs.Prelude.{ℕ, ◌+◌, ◌-◌, min, Bool, List, [], ◌∷◌, eqb, leb, drop, Result, Ok, Err, Option, None, Some}
use Rattle.arith.specs.Pick.{pick}
use Rattle.bus.specs.declared.Access.TheVariants.{Write as Written}
use Rattle.log_line.specs.declared.Act.{Act}
use Rattle.log_line.specs.declared.Act.TheVariants.{Wait as Waited, Access}
use Rattle.refusal.specs.declared.Refusal.{Refusal}
use Rattle.refusal.specs.Refusal.{refusal}
use Rattle.reading.specs.Saying as saying
use Rattle.reading.specs.Saying.{Turn, over, on, says, refused}
use Rattle.vgm_stream.specs.declared.Await.{Await}
use Rattle.vgm_stream.specs.declared.Await.TheVariants.{Command}
use Rattle.vgm_stream.specs.declared.Said as vgm
use Rattle.vgm_stream.specs.declared.Said.TheVariants.{Wait, Write}
use Rattle.vgm_stream.specs.declared.Step.{Step}
use Rattle.vgm_stream.specs.declared.Step.TheVariants.{End, Fault, Next, Says}
use Rattle.vgm_stream.specs.Stream.{byte_step}
use Rattle.vgm_measure.specs.Import.{stood}
use Rattle.vgm_cursor.specs.declared.Spot.{Spot}
use Rattle.log_cursor.specs.Stepping.{told}
use Rattle.vgm_cursor.specs.declared.Stepped.{Stepped}

-- A COMMAND: what it says, and the place behind it; none at the end; or the number and place of the first byte at fault. It stands at `at`, where so much is awaited; f
-- is what is read behind its next byte
abbrev pub Read : Type 0
Read = Result (Option (vgm.Said × ℕ)) Refusal

unfoldable pub command_by : Step → ℕ → (Await → Read) → Read
command_by End at f = Ok None
command_by (Fault k) at f = Err (refusal k at)
command_by (Next w) at f = f w
command_by (Says s) at f = Ok (Some (s, at + 1))

-- "27 stream ends before $66 (at its length)"
unfoldable pub command_from : Await → ℕ → List ℕ → Read
command_from w at [] = Err (refusal 27 at)
command_from w at (b ∷ l) = command_by (byte_step w b) at (λ v. command_from v (at + 1) l)

-- the command at a place of a file
unfoldable pub command_at : List ℕ → ℕ → Read
command_at file at = command_from Command at (drop at file)

-- a place in a file, the samples before it, and the clocks that were given as waits
abbrev pub spot_of : ℕ → ℕ → ℕ → Spot
spot_of at samples clock = record { at = at; samples = samples; clock = clock }

abbrev pub Go : Type 0
Go = Turn Spot Act

abbrev pub go : saying.Said Act → Spot → Go
go w c = record { said = w; state = c }

-- "All clocks before an access since the last one or the start, or before the end, are one gap: waits of 1000000 first, then the rest"
unfoldable pub gap_at : Bool → Spot → ℕ
gap_at pal c = stood pal c.samples - c.clock

-- more samples than 2,000,000,000 clocks have on either machine: 9
unfoldable pub wait_on : Bool → Spot → Go
wait_on pal c =
    let n = min (gap_at pal c) 1000000 in
    pick (leb c.samples 100000000) (go (says (Waited n)) (spot_of c.at c.samples (c.clock + n))) (go (refused 9 0) c)

unfoldable pub move_on : Spot → ℕ → ℕ → Go
move_on c n at = pick (leb (c.samples + n) 100000000) (go on (spot_of at (c.samples + n) c.clock)) (go (refused 9 0) c)

-- what a command comes to
unfoldable pub command_step : Bool → Spot → Read → Go
command_step pal c (Ok None) = pick (eqb (gap_at pal c) 0) (go over c) (wait_on pal c)
command_step pal c (Err e) = go (refused e.number e.place) c
command_step pal c (Ok (Some (Wait n, p))) = move_on c n p
command_step pal c (Ok (Some (Write r v, p))) =
    pick (eqb (gap_at pal c) 0) (go (says (Access (Written r v))) (spot_of p c.samples c.clock)) (wait_on pal c)

-- ONE STEP: one command, or a wait before it
unfoldable pub step_of : Bool → List ℕ → Spot → Go
step_of pal file c = command_step pal c (command_at file c.at)

-- the answer for what is said
abbrev pub stepped_of : Go → Stepped
stepped_of t = record { found = told t.said; spot = t.state }

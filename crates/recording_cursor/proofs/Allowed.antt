-- AN ACT THAT A CURSOR SAYS IS WITHIN THE LIMITS, whatever the recording and whatever the cursor. Assumes nothing.
use Rattle.std.specs.Prelude.{Result, Ok, Err, None, Some}
use Prim.Native.Nat.{ℕ, ◌+◌, ◌-◌, ◌≤◌, min}
use mathlib.Core.Path.{◌≡◌}
use mathlib.Core.Bool.{Bool, true, false}
use mathlib.Core.List.{List, [], ◌∷◌}
use native.Mathlib.Omega.{arith}
use borrow.Author.Tests.{leb-true, eqb-false}
use lib.Dec.{eqb, leb, ltb}
use lib.ListN.{get_or, drop}
use Rattle.refusal.specs.declared.Refusal.{Refusal}
use Rattle.arith.specs.Pick.{both}
use Rattle.arith.proofs.PickLaws.{pick_both, pick_each, both_left, both_right}
use Rattle.bus.specs.Register.{is_register}
use Rattle.reading.specs.Saying.{Said, over, on, says, refused}
use Rattle.log_line.specs.declared.Act.{Act}
use Rattle.log_line.specs.declared.Act.TheVariants as act
use Rattle.log_line.specs.declared.Line.{Line}
use Rattle.log_line.specs.declared.Line.TheVariants.{Header, Machine, One, Loop, Done, Stop, NoForm, NoRegister}
use Rattle.log_line.specs.Printed.{Allowed, Printable}
use Rattle.log_fault.specs.declared.Stand.{Stand}
use Rattle.log_rules.specs.Reading.{standing, read_in}
use Rattle.log_rules.proofs.PlaceLaws.{HadIn, had_in, had_text}
use Rattle.log_cursor.specs.declared.Cursor as log
use Rattle.log_cursor.specs.Stepping as stepping
use Rattle.log_cursor.specs.Stepping.{loops_open, moved_to, entered, again, turned, followed, read_step}
use Rattle.vgm_stream.specs.declared.Await.{Await}
use Rattle.vgm_stream.specs.declared.Await.TheVariants.{Command, Register, Value, Low, High}
use Rattle.vgm_stream.specs.declared.Said as vgm
use Rattle.vgm_stream.specs.declared.Said.TheVariants.{Wait, Write}
use Rattle.vgm_stream.specs.declared.Step.{Step}
use Rattle.vgm_stream.specs.declared.Step.TheVariants.{End, Fault, Next, Says}
use Rattle.vgm_stream.specs.Stream.{command_of, register_of, byte_step}
use Rattle.vgm_cursor.specs.declared.Spot.{Spot}
use Rattle.vgm_cursor.specs.Walking as walking
use Rattle.vgm_cursor.specs.Walking.{Read, command_by, command_from, command_at, gap_at, wait_on, move_on, command_step}
use Rattle.recording.specs.Whole.{are_bytes, is_file, start_of, machine_of}
use Rattle.recording.proofs.ByteLaws.{bytes_drop}
use Rattle.recording.proofs.KindLaws.{file_bytes_lem}
use Rattle.recording_cursor.specs.declared.Cursor.{Cursor}
use Rattle.recording_cursor.specs.Stepping as cursor
use Rattle.recording_cursor.specs.Stepping.{line_step, head_step, file_step, step_of}

abbrev pub SaysAllowed : Said Act → Type 0
SaysAllowed over = Unit {0}
SaysAllowed on = Unit {0}
SaysAllowed (says a) = Allowed a
SaysAllowed (refused k q) = Unit {0}

-- A LINE OF A LOG

abbrev LineAllowed : stepping.Go → Type 0
LineAllowed t = SaysAllowed t.said

module _ (c : log.Cursor) where
  turned_allowed : (d p n : ℕ) → LineAllowed (turned c d p n)
  unfolding turned
  turned_allowed d p n = pick_both LineAllowed (eqb n 0) {a = stepping.go on (moved_to c (d - 1) p)} {b = stepping.go on (again c d n)} tt tt

  followed_allowed : (d p : ℕ) (l : Line) → Printable l → LineAllowed (followed c d p l)
  unfolding followed
  followed_allowed d p Header h = tt
  followed_allowed d p Machine h = tt
  followed_allowed d p (One a) h = h
  followed_allowed d p (Loop n) h = pick_both LineAllowed (ltb d 8) {a = stepping.go on (entered c d p n)} {b = stepping.go (refused 7 c.at) c} tt tt
  followed_allowed d p Done h =
      pick_both LineAllowed (eqb d 0) {a = stepping.go (refused 8 c.at) c} {b = turned c d p (get_or c.left (d - 1) 0)} tt
      (turned_allowed d p (get_or c.left (d - 1) 0))
  followed_allowed d p (Stop n) h = pick_both LineAllowed (eqb d 0) {a = stepping.go over c} {b = stepping.go (refused 8 c.at) c} tt tt
  followed_allowed d p NoForm h = tt
  followed_allowed d p NoRegister h = tt

  read_allowed : (st : Stand) (b : List ℕ) (r : Result (Line × ℕ) Refusal) → HadIn st b c.at r → LineAllowed (read_step c r)
  unfolding read_step
  read_allowed st b (Ok (l, p)) h = followed_allowed (loops_open c) p l (had_text h).1
  read_allowed st b (Err e) h = tt

line_allowed : (b : List ℕ) (c : log.Cursor) → LineAllowed (stepping.step_of b c)
unfolding stepping.step_of
line_allowed b c =
    let st = standing b c.at (loops_open c) in
    read_allowed c st b (read_in st b c.at) (had_in st b c.at)

-- A COMMAND OF A FILE

abbrev SaidOk : vgm.Said → Type 0
SaidOk (Wait n) = Unit {0}
SaidOk (Write r v) = (is_register r ≡ true) × (v ≤ 255)

abbrev AwaitOk : Await → Type 0
AwaitOk Command = Unit {0}
AwaitOk Register = Unit {0}
AwaitOk (Value r) = is_register (0x4000 + r) ≡ true
AwaitOk Low = Unit {0}
AwaitOk (High n) = Unit {0}

abbrev StepOk : Step → Type 0
StepOk End = Unit {0}
StepOk (Fault k) = Unit {0}
StepOk (Next w) = AwaitOk w
StepOk (Says s) = SaidOk s

abbrev ReadOk : Read → Type 0
ReadOk (Ok None) = Unit {0}
ReadOk (Err e) = Unit {0}
ReadOk (Ok (Some (s, p))) = SaidOk s

byte_ok : (w : Await) → AwaitOk w → (b : ℕ) → b ≤ 255 → StepOk (byte_step w b)
unfolding byte_step command_of register_of
byte_ok Command h b l =
    pick_both StepOk (eqb b 0xb4) tt
    (pick_both StepOk (eqb b 0x61) tt
    (pick_both StepOk (eqb b 0x62) tt
    (pick_both StepOk (eqb b 0x63) tt
    (pick_both StepOk (both (leb 0x70 b) (leb b 0x7f)) tt
    (pick_both StepOk (eqb b 0x66) tt tt)))))
byte_ok Register h b l = pick_each StepOk (is_register (0x4000 + b)) (λ e. e) (λ e. tt)
byte_ok (Value r) h b l = (h, l)
byte_ok Low h b l = tt
byte_ok (High n) h b l = tt

by_ok : (st : Step) (at : ℕ) (f : Await → Read) → StepOk st → ((v : Await) → AwaitOk v → ReadOk (f v)) → ReadOk (command_by st at f)
unfolding command_by
by_ok End at f h k = tt
by_ok (Fault n) at f h k = tt
by_ok (Next w) at f h k = k w h
by_ok (Says s) at f h k = h

from_ok : (l : List ℕ) → are_bytes l ≡ true → (w : Await) → AwaitOk w → (at : ℕ) → ReadOk (command_from w at l)
unfolding command_from are_bytes
from_ok [] e w h at = tt
from_ok (b ∷ l) e w h at =
    by_ok (byte_step w b) at (λ v. command_from v (at + 1) l) (byte_ok w h b (leb-true b 255 (both_left (leb b 255) (are_bytes l) e)))
    (λ v k. from_ok l (both_right (leb b 255) (are_bytes l) e) v k (at + 1))

abbrev SpotAllowed : walking.Go → Type 0
SpotAllowed t = SaysAllowed t.said

module _ (pal : Bool) (c : Spot) where
  wait_allowed : eqb (gap_at pal c) 0 ≡ false → SpotAllowed (wait_on pal c)
  unfolding wait_on
  wait_allowed e =
      let some = eqb-false (gap_at pal c) 0 e in
      let n = min (gap_at pal c) 1000000 in
      let few : (1 ≤ n) × (n ≤ 1000000) = bounds (gap_at pal c) some in
      pick_both SpotAllowed (leb c.samples 100000000) {a = walking.go (says (act.Wait n)) (walking.spot_of c.at c.samples (c.clock + n))} {b = walking.go (refused 9 0) c} few tt
    where
      bounds : (g : ℕ) → (g ≡ 0 → ⊥) → (1 ≤ min g 1000000) × (min g 1000000 ≤ 1000000)
      bounds g h = (omega arith, omega arith)

  command_allowed : (r : Read) → ReadOk r → SpotAllowed (command_step pal c r)
  unfolding command_step move_on
  command_allowed (Ok None) h = pick_each SpotAllowed (eqb (gap_at pal c) 0) (λ e. tt) wait_allowed
  command_allowed (Err e) h = tt
  command_allowed (Ok (Some (Wait n, p))) h =
      pick_both SpotAllowed (leb (c.samples + n) 100000000) {a = walking.go on (walking.spot_of p (c.samples + n) c.clock)} {b = walking.go (refused 9 0) c} tt tt
  command_allowed (Ok (Some (Write r v, p))) h = pick_each SpotAllowed (eqb (gap_at pal c) 0) (λ e. h) wait_allowed

spot_allowed : (pal : Bool) (b : List ℕ) → are_bytes b ≡ true → (c : Spot) → SpotAllowed (walking.step_of pal b c)
unfolding walking.step_of command_at
spot_allowed pal b e c = command_allowed pal c (command_from Command c.at (drop c.at b)) (from_ok (drop c.at b) (bytes_drop c.at b e) Command tt c.at)

-- A RECORDING

abbrev GoesAllowed : cursor.Go → Type 0
GoesAllowed t = SaysAllowed t.said

file_allowed : (b : List ℕ) → are_bytes b ≡ true → (c : Cursor) → GoesAllowed (file_step b c)
unfolding file_step head_step
file_allowed b e c =
    pick_both GoesAllowed (eqb c.log.at 0) {a = head_step b c}
    (pick_both GoesAllowed (eqb (start_of b) 0) {a = cursor.go (refused 35 0) c} {b = cursor.go on (cursor.moved_by c (walking.spot_of (start_of b) 0 0))} tt tt)
    (spot_allowed (machine_of b) b e (cursor.spot_at c))

pub step_allowed : (b : List ℕ) (c : Cursor) → SaysAllowed (step_of b c).said
unfolding step_of line_step
step_allowed b c = pick_each GoesAllowed (is_file b) (λ e. file_allowed b (file_bytes_lem b e) c) (λ e. line_allowed b c.log)

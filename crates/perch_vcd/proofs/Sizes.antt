-- How long the texts are: small buffers always hold them. Assumes nothing.
use Prim.Native.Nat.{ℕ, ◌+◌}
use mathlib.Core.Path.{◌≡◌, refl}
use mathlib.Core.Bool.{Bool, true, false}
use mathlib.Core.List.{List, []}
use native.Mathlib.Omega.{arith}
use lib.Dec.{eqb, leb}
use lib.ListN.{length, length-append}
use lib.Seq.{sets}
use Rattle.arith.specs.Pick.{pick}
use Rattle.arith.proofs.PickLaws.{pick_both}
use Rattle.text.specs.Ascii.{bytes}
use Rattle.text_print.specs.Printed.{printed, placed}
use Rattle.text_lines.proofs.Sizes.{UpTo, pair_size}
use Rattle.vcd_text.proofs.Sizes.{time_size, value_size}
use Rattle.chip_seen.specs.declared.Seen.{Seen}
use Rattle.play_trace.specs.declared.Bus.{Bus}
use Rattle.play_trace.specs.declared.Point.{Point}
use Rattle.play_trace.specs.declared.Event.{Event}
use Rattle.play_trace.specs.declared.Event.TheVariants.{Begins, Clocked, Accessed}
use Rattle.play_trace.specs.declared.Next.{Next}
use Rattle.perch_vcd.specs.Text.{head_text, lane_line, seen_lines, bus_lines, time_on, point_lines, begin_text, event_text, next_text}

-- 1,024 bytes hold the head
pub head_size : UpTo 1024 head_text
unfolding head_text
head_size = omega arith

lane_size : (every : Bool) (w code a b : ℕ) → UpTo (w + 4) (lane_line every w code a b)
unfolding lane_line
lane_size every w code a b =
    pick_both (UpTo (w + 4)) every (value_size w code b) (pick_both (UpTo (w + 4)) (eqb a b) (omega arith) (value_size w code b))

seen_size : (every : Bool) (a b : Seen) → UpTo 77 (seen_lines every a b)
unfolding seen_lines
seen_size every a b =
    simp length-append
    (omega (
      arith,
      lane_size every 15 108 a.level b.level,
      lane_size every 4 49 a.square1 b.square1,
      lane_size every 4 50 a.square2 b.square2,
      lane_size every 4 116 a.triangle b.triangle,
      lane_size every 4 110 a.noise b.noise,
      lane_size every 7 100 a.dmc b.dmc,
      lane_size every 1 105 a.line b.line,
      lane_size every 1 102 a.frame_flag b.frame_flag,
      lane_size every 1 103 a.dmc_flag b.dmc_flag,
    ))

bus_size : (b : Bus) → UpTo 37 (bus_lines b)
unfolding bus_lines
bus_size b = simp length-append (omega (arith, value_size 16 114 b.register, value_size 8 118 b.value, value_size 1 120 b.read))

time_on_size : (told time : ℕ) → UpTo 22 (time_on told time)
unfolding time_on
time_on_size told time = pick_both (UpTo 22) (eqb told time) (omega arith) (time_size time)

point_size : (told : ℕ) (p : Point) → UpTo 57 (point_lines told p)
unfolding point_lines
point_size told p = simp length-append (omega (arith, time_on_size told p.time, value_size 31 99 p.clock))

begin_size_lem : (p : Point) → UpTo 256 (begin_text p)
unfolding begin_text
begin_size_lem p =
    simp length-append
    (omega (arith, time_size p.time, value_size 31 99 p.clock, seen_size true p.seen p.seen, bus_size (record { register = 0; value = 0; read = 0 })))

-- 256 bytes hold an event's lines
pub event_size : (told : ℕ) (e : Event) → UpTo 256 (event_text told e)
unfolding event_text
event_size told (Begins p) = begin_size_lem p
event_size told (Clocked before p) = simp length-append (omega (arith, point_size told p, seen_size false before p.seen))
event_size told (Accessed before p b) = simp length-append (omega (arith, point_size told p, bus_size b, seen_size false before p.seen))

-- and what is written of any step
pub next_size : (told : ℕ) (n : Next) → UpTo 256 (next_text told n)
unfolding next_text
next_size told (Next.Over t) = omega (arith, time_on_size told t)
next_size told Next.Moved = omega arith
next_size told (Next.Shown e) = event_size told e
next_size told (Next.Refused k q) = omega (arith, pair_size (bytes "refused=") k q)

-- no text
pub placed_none : (out : List ℕ) (at : ℕ) → at ≡ placed out at []
unfolding placed
placed_none out at = by (leb (at + 0) (length out))
  where
    by : (b : Bool) → at ≡ pick b (at + 0) at
    by true = omega arith
    by false = refl

pub printed_none : (out : List ℕ) (at : ℕ) → out ≡ printed out at []
unfolding printed
printed_none out at = by (leb (at + 0) (length out))
  where
    by : (b : Bool) → out ≡ pick b (sets out at []) out
    by true = refl
    by false = refl

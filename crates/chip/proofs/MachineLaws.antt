-- Request 9: a machine is "fixed at power-on": no clock changes it, and no step of the frame. Assumes nothing.
use Prim.Native.Nat.{ℕ}
use mathlib.Core.Path.{◌≡◌, refl, ◌∙◌}
use mathlib.Core.Bool.{Bool}
use mathlib.Core.List.{List}
use Rattle.arith.proofs.PickLaws.{pick_both}
use Rattle.chip_frame.specs.Frame.{next_step, frame_due, frame_moved, is_quarter, is_half}
use Rattle.chip_tables.specs.Table.{frame_times}
use Rattle.chip.specs.Clock.{with_frame, timers_clocked, reader_clocked, quarter_frame, half_frame, quarter_if, half_if, stepped, framed, chip_clock}
use Rattle.chip.specs.declared.State.{State}

-- the same machine
pub record Alike (s x : State) : Type 0 where
  pub pal : x.pal ≡ s.pal

same : (s : State) → Alike s s
same s = record { pal = refl }

envelopes_machine : (s : State) → Alike s (quarter_frame s)
unfolding quarter_frame
envelopes_machine s = record { pal = refl }

lengths_machine : (s : State) → Alike s (half_frame s)
unfolding half_frame
lengths_machine s = record { pal = refl }

-- what a step clocks
pub clocked_machine : (half quarter : Bool) (s : State) → Alike s (half_if half (quarter_if quarter s))
clocked_machine half quarter s =
    let e : Alike s (quarter_if quarter s) = pick_both (Alike s) quarter (envelopes_machine s) (same s) in
    pick_both (Alike s) half (record { pal = (lengths_machine (quarter_if quarter s)).pal ∙ e.pal }) e

-- a step of the frame
pub step_machine : (step : ℕ) (s : State) → Alike s (stepped step s)
unfolding stepped
step_machine step s = record { pal = (clocked_machine (is_half step s.frame) (is_quarter step s.frame) s).pal }

timers_machine : (s : State) → (timers_clocked s).pal ≡ s.pal
unfolding timers_clocked
timers_machine s = refl

reader_machine : (memory : List ℕ) (s : State) → (reader_clocked memory s).pal ≡ s.pal
unfolding reader_clocked
reader_machine memory s = refl

framed_machine : (s : State) → Alike s (framed s)
unfolding framed
framed_machine s =
    let moved : State = with_frame s (frame_moved (frame_times s.pal) s.frame) in
    let step : ℕ = next_step (frame_times s.pal) s.frame in
    pick_both (Alike s) (frame_due (frame_times s.pal) s.frame) {a = stepped step moved} {b = moved} (record { pal = (step_machine step moved).pal })
    (record { pal = refl })

-- A CLOCK LEAVES THE MACHINE
pub clock_machine : (memory : List ℕ) (s : State) → Alike s (chip_clock memory s)
unfolding chip_clock
clock_machine memory s =
    record {
      pal =
          (framed_machine (reader_clocked memory (timers_clocked s))).pal
          ∙ reader_machine memory (timers_clocked s)
          ∙ timers_machine s;
    }

-- Request 9: a machine is "fixed at power-on; no access changes it". Assumes nothing.
use Prim.Native.Nat.{ℕ}
use mathlib.Core.Path.{refl}
use lib.Dec.{eqb}
use Rattle.arith.specs.Bit.{bit_set}
use Rattle.arith.proofs.PickLaws.{pick_both}
use Rattle.chip_frame.specs.Frame.{frame_written}
use Rattle.chip.specs.Clock.{with_frame, stepped}
use Rattle.chip.specs.declared.State.{State}
use Rattle.chip.proofs.MachineLaws.{Alike, step_machine}
use Rattle.chip_access.specs.Status.{status_read}
use Rattle.chip_access.specs.Write.{channel_of, place_of, enables_written, sequencer_written, control_written, channel_written, register_written}

enables_machine : (value : ℕ) (s : State) → Alike s (enables_written value s)
unfolding enables_written
enables_machine value s = record { pal = refl }

sequencer_machine : (value : ℕ) (s : State) → Alike s (sequencer_written value s)
unfolding sequencer_written
sequencer_machine value s =
    let begun : State = with_frame s (frame_written value s.frame) in
    pick_both (Alike s) (bit_set value 7) {a = stepped 1 begun} {b = begun} (record { pal = (step_machine 1 begun).pal }) (record { pal = refl })

-- A WRITE LEAVES THE MACHINE
pub write_machine : (register value : ℕ) (s : State) → Alike s (register_written register value s)
unfolding register_written channel_written control_written
write_machine register value s =
    pick_both (Alike s) (eqb (channel_of register) 0) (record { pal = refl })
    (pick_both (Alike s) (eqb (channel_of register) 1) (record { pal = refl })
    (pick_both (Alike s) (eqb (channel_of register) 2) (record { pal = refl })
    (pick_both (Alike s) (eqb (channel_of register) 3) (record { pal = refl })
    (pick_both (Alike s) (eqb (channel_of register) 4) (record { pal = refl })
    (pick_both (Alike s) (eqb (place_of register) 1) (enables_machine value s) (sequencer_machine value s))))))

-- SO DOES A STATUS READ
pub read_machine : (s : State) → Alike s (status_read s)
unfolding status_read
read_machine s = record { pal = refl }

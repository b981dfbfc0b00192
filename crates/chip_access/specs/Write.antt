-- Document 01, "Register bits" and "$4015": a write, decoded to a channel and a place.
use Rattle.std.specs.Prelude.{ℕ, ◌-◌, ◌/◌, ◌%◌, eqb}
use Rattle.arith.specs.Pick.{pick}
use Rattle.arith.specs.Bit.{bit_set}
use Rattle.chip_square.specs.Square.{square_enabled}
use Rattle.chip_square.specs.Write.{square_write}
use Rattle.chip_triangle.specs.Triangle.{triangle_enabled}
use Rattle.chip_triangle.specs.Write.{triangle_write}
use Rattle.chip_noise.specs.Noise.{noise_enabled, noise_write}
use Rattle.chip_dmc.specs.Write.{dmc_write, dmc_enabled}
use Rattle.chip_frame.specs.Frame.{frame_written}
use Rattle.chip_square.specs.declared.Square.{Square}
use Rattle.chip_triangle.specs.declared.Triangle.{Triangle}
use Rattle.chip_noise.specs.declared.Noise.{Noise}
use Rattle.chip.specs.Clock.{with_dmc, with_frame, stepped}
use Rattle.chip.specs.declared.State.{State}

abbrev pub with_square1 : State → Square → State
with_square1 s q =
    record {
      square1 = q;
      square2 = s.square2;
      triangle = s.triangle;
      noise = s.noise;
      dmc = s.dmc;
      frame = s.frame;
      pal = s.pal;
    }

abbrev pub with_square2 : State → Square → State
with_square2 s q =
    record {
      square1 = s.square1;
      square2 = q;
      triangle = s.triangle;
      noise = s.noise;
      dmc = s.dmc;
      frame = s.frame;
      pal = s.pal;
    }

abbrev pub with_triangle : State → Triangle → State
with_triangle s t =
    record {
      square1 = s.square1;
      square2 = s.square2;
      triangle = t;
      noise = s.noise;
      dmc = s.dmc;
      frame = s.frame;
      pal = s.pal;
    }

abbrev pub with_noise : State → Noise → State
with_noise s n =
    record {
      square1 = s.square1;
      square2 = s.square2;
      triangle = s.triangle;
      noise = n;
      dmc = s.dmc;
      frame = s.frame;
      pal = s.pal;
    }

-- four registers a channel: squares from $4000 and $4004, triangle $4008, noise $400C, DMC $4010; then $4015 and $4017
abbrev pub channel_of : ℕ → ℕ
channel_of register = (register - 0x4000) / 4

abbrev pub place_of : ℕ → ℕ
place_of register = register % 4

-- "A write [to $4015] sets the four enables, a cleared one zeroing its length; clears the DMC flag; bit 4 .."
unfoldable pub enables_written : ℕ → State → State
enables_written value s =
    record {
      square1 = square_enabled (bit_set value 0) s.square1;
      square2 = square_enabled (bit_set value 1) s.square2;
      triangle = triangle_enabled (bit_set value 2) s.triangle;
      noise = noise_enabled (bit_set value 3) s.noise;
      dmc = dmc_enabled (bit_set value 4) s.dmc;
      frame = s.frame;
      pal = s.pal;
    }

-- "A $4017 write sets mode (bit 7) and disable (bit 6)", the clock number 0; "in mode 1 step 1 happens at once"
unfoldable pub sequencer_written : ℕ → State → State
sequencer_written value s =
    pick (bit_set value 7) (stepped 1 (with_frame s (frame_written value s.frame))) (with_frame s (frame_written value s.frame))

-- $4015 and $4017
unfoldable pub control_written : ℕ → ℕ → State → State
control_written place value s = pick (eqb place 1) (enables_written value s) (sequencer_written value s)

-- a write to a place of a channel
unfoldable pub channel_written : ℕ → ℕ → ℕ → State → State
channel_written channel place value s =
    pick (eqb channel 0) (with_square1 s (square_write place value s.square1))
    (pick (eqb channel 1) (with_square2 s (square_write place value s.square2))
    (pick (eqb channel 2) (with_triangle s (triangle_write place value s.triangle))
    (pick (eqb channel 3) (with_noise s (noise_write place value s.noise))
    (pick (eqb channel 4) (with_dmc s (dmc_write place value s.dmc))
    (control_written place value s)))))

-- a write to a register
unfoldable pub register_written : ℕ → ℕ → State → State
register_written register value s = channel_written (channel_of register) (place_of register) value s

-- Between two frame steps only what the timers move, the DMC and the frame's clock number change.
use Rattle.chip_square.specs.Square as square
use Rattle.chip_triangle.specs.Triangle as triangle
use Rattle.chip_noise.specs.Noise as noise
use Rattle.chip_square.specs.declared.Sequencer as square1
use Rattle.chip_triangle.specs.declared.Sequencer as triangle1
use Rattle.chip_noise.specs.declared.Shifter.{Shifter}
use Rattle.chip_dmc.specs.declared.Dmc.{Dmc}
use Rattle.chip_frame.specs.declared.Frame.{Frame}
use Rattle.chip.specs.declared.State.{State}

-- a state with its moving parts replaced
unfoldable pub state_with : square1.Sequencer → square1.Sequencer → triangle1.Sequencer → Shifter → Dmc → Frame → State → State
state_with q1 q2 tq h d f s =
    record {
      square1 = square.with_sequencer s.square1 q1;
      square2 = square.with_sequencer s.square2 q2;
      triangle = triangle.with_sequencer s.triangle tq;
      noise = noise.with_shifter s.noise h;
      dmc = d;
      frame = f;
      pal = s.pal;
    }

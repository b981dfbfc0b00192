-- What a probe sees of the chip. Document 01, "Mixer and records": what each channel gives, and the level; "Dividers and one clock": the line.
use Rattle.std.specs.Prelude.{ℕ, Bool, true, false, eqb}
use Rattle.arith.specs.Pick.{pick, both}
use Rattle.chip_square.specs.Square.{square_output}
use Rattle.chip_triangle.specs.Triangle.{triangle_output}
use Rattle.chip_noise.specs.Noise.{noise_output}
use Rattle.chip_dmc.specs.Clock.{dmc_output}
use Rattle.chip.specs.Level.{state_level}
use Rattle.chip.specs.Line.{line_asserted}
use Rattle.chip.specs.declared.State.{State}
use Rattle.chip_seen.specs.declared.Seen.{Seen}

-- a flag as a number
abbrev pub flag : Bool → ℕ
flag b = pick b 1 0

-- the level, what the five channels give the mixer, the interrupt line and the two flags
unfoldable pub seen_of : State → Seen
seen_of s = record {
  level = state_level s;
  square1 = square_output false s.square1;
  square2 = square_output true s.square2;
  triangle = triangle_output s.triangle;
  noise = noise_output s.noise;
  dmc = dmc_output s.dmc;
  line = flag (line_asserted s);
  frame_flag = flag s.frame.interrupt;
  dmc_flag = flag s.dmc.reader.interrupt;
}

-- nothing that is seen differs
unfoldable pub same_seen : Seen → Seen → Bool
same_seen a b =
    both (eqb a.level b.level)
    (both (eqb a.square1 b.square1)
    (both (eqb a.square2 b.square2)
    (both (eqb a.triangle b.triangle)
    (both (eqb a.noise b.noise)
    (both (eqb a.dmc b.dmc)
    (both (eqb a.line b.line)
    (both (eqb a.frame_flag b.frame_flag) (eqb a.dmc_flag b.dmc_flag))))))))

-- Document 01, "Units", Square: what the timer moves, and the duties.
use Rattle.std.specs.Prelude.{ℕ, ◌+◌, ◌*◌, ◌%◌, not, List, [], ◌∷◌, get_or}
use Rattle.arith.specs.Pick.{pick, both}
use Rattle.divider.specs.Divider.{due}
use Rattle.chip_timer.specs.Timer.{timer_clock}
use Rattle.chip_square.specs.declared.Sequencer.{Sequencer}

-- "Timer period+1; each output flips the half flag, and position advances when it goes from set to clear."
unfoldable pub sequencer_clock : Sequencer → Sequencer
sequencer_clock q =
    record {
      timer = timer_clock q.timer;
      half = pick (due q.timer.count) (not q.half) q.half;
      position = pick (both (due q.timer.count) q.half) ((q.position + 1) % 8) q.position;
    }

-- "Duties by position: 01000000, 01100000, 01111000, 10011111."
abbrev pub duties : List ℕ
duties =
    0 ∷ 1 ∷ 0 ∷ 0 ∷ 0 ∷ 0 ∷ 0 ∷ 0
    ∷ 0 ∷ 1 ∷ 1 ∷ 0 ∷ 0 ∷ 0 ∷ 0 ∷ 0
    ∷ 0 ∷ 1 ∷ 1 ∷ 1 ∷ 1 ∷ 0 ∷ 0 ∷ 0
    ∷ 1 ∷ 0 ∷ 0 ∷ 1 ∷ 1 ∷ 1 ∷ 1 ∷ 1 ∷ []

-- "the duty bit" (a duty is 0..3 and a position 0..7; any other number is taken by its remainder)
unfoldable pub duty_bit : ℕ → ℕ → ℕ
duty_bit duty position = get_or duties (duty % 4 * 8 + position % 8) 0

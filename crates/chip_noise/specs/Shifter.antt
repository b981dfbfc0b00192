-- Document 01, "Units", Noise: what the timer moves, its count and the shift register. Mode and period are arguments.
use Rattle.std.specs.Prelude.{ℕ, ◌+◌, ◌*◌, ◌/◌, ◌%◌, ◌^◌, Bool, true, false, leb}
use Rattle.std.specs.Int.Bits.{bit_xor}
use Rattle.arith.specs.Pick.{pick, both}
use Rattle.arith.specs.Bit.{bit_of}
use Rattle.divider.specs.Divider.{due, tick}
use Rattle.chip_noise.specs.declared.Shifter.{Shifter}

-- the other bit: "bit 1 (mode 0) or bit 6 (mode 1)"
abbrev pub tap_of : Bool → ℕ
tap_of false = 1
tap_of true = 6

-- "On output: bit 0 XOR bit 1 (mode 0) or bit 6 (mode 1), shift right, put it in bit 14."
unfoldable pub shifted_of : Bool → ℕ → ℕ
shifted_of mode r = r / 2 % 2 ^ 14 + bit_xor (bit_of r 0) (bit_of r (tap_of mode)) * 2 ^ 14

-- one clock of a timer of period n
unfoldable pub shifter_clock : ℕ → Bool → Shifter → Shifter
shifter_clock n mode h =
    record {
      timer = tick n h.timer;
      register = pick (due h.timer) (shifted_of mode h.register) h.register;
    }

-- "timer 1..4068, shift register 1..32767"; request 9: the timer's range follows the machine's largest period, `top`
unfoldable pub shifter_in : ℕ → Shifter → Bool
shifter_in top h =
    both (both (leb 1 h.timer) (leb h.timer top)) (both (leb 1 h.register) (leb h.register 32767))

-- Document 01, "Units", Triangle: the linear counter. `halt` is document 01's linear-halt flag.
use Rattle.std.specs.Prelude.{ℕ, ◌-◌, ◌%◌, Bool, true, false, leb}
use Rattle.arith.specs.Pick.{pick, both}
use Rattle.arith.specs.Bit.{bit_set}
use Rattle.chip_linear.specs.declared.Linear.{Linear}

-- "Clocked: halted takes reload, else falls if nonzero; then control clear clears linear-halt."
unfoldable pub linear_clock : Linear → Linear
linear_clock l =
    record {
      control = l.control;
      reload = l.reload;
      count = pick l.halt l.reload (l.count - 1);
      halt = pick l.control l.halt false;
    }

-- "$4008 control 7, reload 6-0"
unfoldable pub linear_set : ℕ → Linear → Linear
linear_set value l = record { control = bit_set value 7; reload = value % 128; count = l.count; halt = l.halt }

-- "$400B sets linear-halt."
unfoldable pub linear_halted : Linear → Linear
linear_halted l = record { control = l.control; reload = l.reload; count = l.count; halt = true }

-- "reload and linear 0..127"
unfoldable pub linear_in : Linear → Bool
linear_in l = both (leb l.reload 127) (leb l.count 127)

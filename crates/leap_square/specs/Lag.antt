-- Between crates: what is kept of a square in a stretch; that it is the square at each clock is proved (leap_stretch/proofs/SquareLaws).
-- A square as a stretch between two frame steps keeps it: its next possible change, what it gives up to then and for how long it gives the
-- other behind it, in one number, and that number's sum with the one that takes its place at the change.
use Rattle.std.specs.Prelude.{ℕ, ◌+◌, ◌-◌, ◌*◌, ◌/◌, ◌%◌, ◌==◌}
use Rattle.arith.specs.Pick.{pick}
use Rattle.leap_square.specs.Leap.{beat_gives, square_still, beat_turned}
use Rattle.leap_square.specs.declared.Beat.{Beat}
use Rattle.leap_square.specs.declared.lag.SquareLag.{SquareLag}

-- the clocks up to its next change, as far as the field holds them
unfoldable pub square_span : ℕ → ℕ → Beat → ℕ
square_span row amount b = (square_still row amount b + 1) % 4294967296

-- what it gives, and the clocks of its next run
unfoldable pub run_word : ℕ → ℕ → ℕ
run_word out span = out * 4294967296 + span

-- the number kept at b
unfoldable pub square_kept : ℕ → ℕ → Beat → ℕ
square_kept row amount b = run_word (beat_gives row amount b) (square_span row amount (beat_turned row b))

-- kept from clock `at` of the stretch on, where it is b
unfoldable pub square_lag : ℕ → ℕ → Beat → ℕ → SquareLag
square_lag row amount b at =
    record {
      next = at + square_still row amount b + 1;
      kept = square_kept row amount b;
      both = (square_kept row amount b + square_kept row amount (beat_turned row b)) % 18446744073709551616;
    }

-- what it gives up to its next change
unfoldable pub square_lag_out : SquareLag → ℕ
square_lag_out l = l.kept / 4294967296

-- the other of two numbers, from their sum in 64 bits
unfoldable pub run_then : ℕ → ℕ → ℕ
run_then both kept = (both + 18446744073709551616 - kept) % 18446744073709551616

-- at clock e: where that is its next change, the other number takes its place
unfoldable pub square_renewed : SquareLag → ℕ → SquareLag
square_renewed l e =
    record {
      next = pick (l.next == e) (e + l.kept % 4294967296) l.next;
      kept = pick (l.next == e) (run_then l.both l.kept) l.kept;
      both = l.both;
    }

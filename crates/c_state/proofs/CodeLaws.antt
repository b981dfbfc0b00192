-- A state written as bytes is read back, and what bytes stand for. Assumes nothing.
use mathlib.Core.Path.{◌≡◌, refl, sym, ap, ◌∙◌}
use mathlib.Core.Bool.{Bool, true, false, false≢true}
use mathlib.Core.List.{List, [], append-nil}
use Prim.Native.Nat.{ℕ, ◌+◌, ◌*◌}
use native.Mathlib.Omega.{arith}
use lib.ListN.{length}
use lib.Dec.{leb, eqb}
use borrow.Author.Tests.{le-leb}
use Rattle.arith.specs.Pick.{pick}
use Rattle.arith.proofs.PickLaws.{both_true}
use Rattle.text.specs.Key.{starts_with, exactly}
use Rattle.text.proofs.KeyLaws.{starts_joined, exactly_is}
use Rattle.chip_square.specs.Range.{square_in}
use Rattle.chip.specs.Range.{in_range}
use Rattle.chip.specs.declared.State.{State}
use Rattle.c_bytes.specs.Fields.{flag_byte, low, high}
use Rattle.c_state.specs.Bytes.{state_size, square_bytes, triangle_bytes, noise_bytes, dmc_bytes, frame_bytes, state_bytes, square_of, triangle_of, noise_of, dmc_of, frame_of, state_of, is_state, outside, state_in}
use Rattle.c_state.specs.Flags.{flags_right, told}

-- WRITTEN AND READ BACK

-- "a flag is 0 or 1"
flag_read : (on : Bool) → eqb (flag_byte on) 1 ≡ on
flag_read true = refl
flag_read false = refl

flag_most : (on : Bool) → leb (flag_byte on) 1 ≡ true
flag_most true = refl
flag_most false = refl

-- "two bytes, low first"
pair_read : (x : ℕ) → low x + 256 * high x ≡ x
pair_read x = omega arith

-- how many bytes a state is
pub state_size_lem : (s : State) → length (state_bytes s) ≡ state_size
unfolding square_bytes triangle_bytes noise_bytes dmc_bytes frame_bytes state_bytes
state_size_lem s = refl

-- its flags are 0 or 1
pub state_told : (s : State) → told (state_bytes s) ≡ true
unfolding square_bytes triangle_bytes noise_bytes dmc_bytes frame_bytes state_bytes flags_right told
state_told s = simp flag_most

-- what was written is read
pub written_read : (s : State) → state_of (state_bytes s) ≡ s
unfolding square_bytes triangle_bytes noise_bytes dmc_bytes frame_bytes state_bytes square_of triangle_of noise_of dmc_of frame_of state_of
written_read s = simp (flag_read, pair_read)

-- BYTES THAT ARE A STATE'S

-- bytes are themselves and nothing else
pub exactly_same : (b : List ℕ) → exactly b b ≡ true
unfolding exactly
exactly_same b =
    both_true (starts_with b b) (leb (length b) (length b)) (ap (starts_with b) (sym (append-nil b)) ∙ starts_joined b [])
    (le-leb (length b) (length b) (omega arith))

-- a state's bytes are
pub state_right : (s : State) → is_state (state_bytes s) ≡ true
unfolding is_state
state_right s = rw (written_read s) (exactly_same (state_bytes s))

-- they are written back as they were
pub read_written : (b : List ℕ) → is_state b ≡ true → state_bytes (state_of b) ≡ b
unfolding is_state
read_written b e = sym (exactly_is (state_bytes (state_of b)) b e)

-- they have a state's length
pub state_long : (b : List ℕ) → is_state b ≡ true → length b ≡ state_size
state_long b e = ap length (sym (read_written b e)) ∙ state_size_lem (state_of b)

-- WHAT BYTES STAND FOR

-- a state's bytes stand for it
pub written_in : (s : State) → state_in (state_bytes s) ≡ s
unfolding state_in
written_in s = rw (state_right s) (written_read s)

-- bytes that are no state's stand for one out of range
pub outside_out : in_range outside ≡ false
unfolding in_range square_in outside state_of square_of
outside_out = refl

-- so bytes that stand for a state in range have a state's length
pub in_long : (b : List ℕ) → in_range (state_in b) ≡ true → length b ≡ state_size
unfolding state_in
in_long b e = by (is_state b) refl e
  where
    by : (t : Bool) → is_state b ≡ t → in_range (pick t (state_of b) outside) ≡ true → length b ≡ state_size
    by true f g = state_long b f
    by false f g = absurd (false≢true (sym outside_out ∙ g))

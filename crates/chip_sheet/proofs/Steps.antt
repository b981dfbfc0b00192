-- The two readings of a byte agree from 16 to 111: k steps that no end stops move the level by four times the count of ones, less 2k.
-- By induction over the steps. Assumes nothing.
use mathlib.Core.Path.{◌≡◌, refl}
use Prim.Native.Nat.{ℕ, zero, suc, ◌+◌, ◌*◌, ◌/◌, ◌%◌, ◌^◌, ◌<◌, ◌≤◌}
use native.Mathlib.Nat.{pow-suc}
use native.Mathlib.Omega.{arith}
use lib.Count.{ones, ones_step, ones-le}
use borrow.Author.Tests.{lt-ltb, eq-eqb, ne_eqb}
use Rattle.chip_dmc_output.specs.Output.{level_moved}
use Rattle.chip_sheet.specs.Byte.{low_steps, Agree}

-- one step away from the ends: 2 down, and 4 up for a set bit
one : (byte b l : ℕ) → byte % 2 ≡ b → 2 ≤ l → l ≤ 125 → level_moved byte l + 2 ≡ l + 4 * b
unfolding level_moved
one byte zero l e h k = rw (eq-eqb (byte % 2) 0 e, lt-ltb 1 l (omega arith)) (omega arith)
one byte (suc zero) l e h k = rw (ne_eqb (byte % 2) 0 (λ z. omega arith), lt-ltb l 126 (omega arith)) (omega arith)
one byte (suc (suc b)) l e h k = absurd (omega arith)

steps : (k byte level : ℕ) → byte < 2 ^ k → 2 * k ≤ level → level + 2 * k ≤ 127
    → low_steps k byte level + 2 * k ≡ level + 4 * ones byte
unfolding low_steps
steps zero byte level hb h l = omega (arith, ones-le 0 byte hb)
steps (suc k) byte level hb h l =
    let e = one byte (byte % 2) level refl (omega arith) (omega arith) in
    let p : byte < 2 ^ k * 2 = rw pow-suc at hb in
    let ih = steps k (byte / 2) (level_moved byte level) (omega arith) (omega arith) (omega arith) in
    rw (ones_step byte) (omega arith)

-- BOTH READINGS AGREE FROM 16 TO 111, for every byte
pub agree : Agree
agree byte level b h k = let e = steps 8 byte level (omega arith) (omega arith) (omega arith) in omega arith

-- the move is at most 16 either way
pub ones_most : (byte : ℕ) → byte ≤ 255 → ones byte ≤ 8
ones_most byte b = ones-le 8 byte (omega arith)

-- a step taken off the front
pub steps_on : (k byte level : ℕ) → low_steps (suc k) byte level ≡ low_steps k (byte / 2) (level_moved byte level)
unfolding low_steps
steps_on k byte level = refl

pub steps_none : (byte level : ℕ) → low_steps 0 byte level ≡ level
unfolding low_steps
steps_none byte level = refl

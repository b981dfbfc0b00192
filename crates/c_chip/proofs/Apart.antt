-- The parts of an access's answer don't run into one another: each can be had again. Assumes nothing.
use Prim.Native.Nat.{◌/◌, ◌%◌, ◌^◌, ◌≤◌, ◌<◌}
use mathlib.Core.Path.{◌≡◌}
use mathlib.Core.Bool.{Bool, true, false}
use native.Mathlib.Omega.{arith}
use Rattle.c_bytes.specs.Fields.{flag_byte}
use Rattle.chip_api.specs.declared.Answered.{Answered}
use Rattle.c_chip.specs.Boundary.{access_packed}

pub record Apart (a : Answered) : Type 0 where
  pub number : access_packed a % 2 ^ 8 ≡ a.number
  pub byte : access_packed a / 2 ^ 8 % 2 ^ 8 ≡ a.byte
  pub level : access_packed a / 2 ^ 16 % 2 ^ 16 ≡ a.level
  pub differs : access_packed a / 2 ^ 32 ≡ flag_byte a.differs

flag_small : (b : Bool) → flag_byte b ≤ 1
flag_small true = omega arith
flag_small false = omega arith

-- THE PARTS OF AN ACCESS'S ANSWER, whose number and byte are bytes and whose level has 16 bits
pub apart : (a : Answered) → a.number < 2 ^ 8 → a.byte < 2 ^ 8 → a.level < 2 ^ 16 → Apart a
apart a n b l =
    let f = flag_small a.differs in
    record { number = omega arith; byte = omega arith; level = omega arith; differs = omega arith }

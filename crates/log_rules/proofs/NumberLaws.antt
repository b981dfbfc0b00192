-- The number, place and value of what is read of a line and of a block. Assumes nothing.
use Rattle.std.specs.Prelude.{Result, Ok, Err}
use mathlib.Core.Path.{◌≡◌, refl}
use mathlib.Core.Bool.{Bool, true, false}
use mathlib.Core.List.{List, []}
use Prim.Native.Nat.{ℕ}
use lib.ListN.{length}
use lib.Dec.{ltb}
use Rattle.refusal.specs.declared.Refusal.{Refusal}
use Rattle.refusal.specs.Refusal.{refusal}
use Rattle.arith.specs.Pick.{pick}
use Rattle.log_line.specs.declared.Line.{Line}
use Rattle.log_fault.specs.declared.Stand.{Stand}
use Rattle.log_fault.specs.Fault.{spot_of}
use Rattle.log_fault.specs.Numbers.{spotted_number, spotted_place, spotted_lines}
use Rattle.log_rules.specs.declared.Block.{Block}
use Rattle.log_rules.specs.Lines.{bytes_at, next_line}
use Rattle.log_rules.specs.Reading.{reading_number, reading_place, reading_lines, taken, read_in, read_number, read_place, read_lines, ReadingIs}
use Rattle.log_rules.specs.Block.{Got, closed, stopped, refused, block_answer, BlockIs}

-- a reading has those of the answers that the two tests choose from
abbrev Chosen : Bool → Bool → ℕ → ℕ → Result Line Refusal → Result (Line × ℕ) Refusal → Type 0
Chosen a b at n f r =
    (reading_number r ≡ pick a 5 (pick b (spotted_number f) 18)) × (reading_place r ≡ pick a 0 (pick b (spotted_place at f) n))
    × (reading_lines r ≡ pick a [] (pick b (spotted_lines f) []))

chosen : (a b : Bool) (at next n : ℕ) (f : Result Line Refusal) → Chosen a b at n f (pick a (Err (refusal 5 0)) (pick b (taken at next f) (Err (refusal 18 n))))
chosen true b at next n f = (refl, refl, refl)
chosen false true at next n (Ok l) = (refl, refl, refl)
chosen false true at next n (Err e) = (refl, refl, refl)
chosen false false at next n f = (refl, refl, refl)

reading_is : (st : Stand) (log : List ℕ) (at : ℕ) → ReadingIs st log at (read_in st log at)
unfolding read_in read_number read_place read_lines
reading_is st log at = chosen (ltb 60000 (length log)) (ltb at (length log)) at (next_line log at) (length log) (spot_of st (bytes_at log at))

pub reading_numbers : (st : Stand) (log : List ℕ) (at : ℕ) (r : Result (Line × ℕ) Refusal) → r ≡ read_in st log at → (r ≡ read_in st log at) × ReadingIs st log at r
reading_numbers st log at r e = (e, rw e (reading_is st log at))

block_is : (g : Got) → BlockIs g (block_answer g)
unfolding block_answer
block_is (closed b p q) = (refl, refl, refl)
block_is (stopped b p q n) = (refl, refl, refl)
block_is (refused k p) = (refl, refl, refl)

pub block_numbers : (g : Got) (r : Result Block Refusal) → r ≡ block_answer g → (r ≡ block_answer g) × BlockIs g r
block_numbers g r e = (e, rw e (block_is g))

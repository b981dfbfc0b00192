-- Number, place and value can be had again from the one number, and the bytes stand for the state reached. Assumes nothing.
use Prim.Native.Nat.{ℕ, ◌/◌, ◌%◌, ◌^◌}
use mathlib.Core.Path.{◌≡◌, refl}
use mathlib.Core.Bool.{Bool, true, false}
use mathlib.Core.List.{List}
use native.Mathlib.Omega.{arith}
use borrow.Author.Tests.{eq-eqb}
use lib.ListN.{length}
use lib.Dec.{eqb}
use Rattle.arith.specs.Pick.{pick}
use Rattle.arith.proofs.PickLaws.{pick_both}
use Rattle.chip_api.specs.Answer.{is_memory}
use Rattle.play_at.specs.declared.At.{At}
use Rattle.play_at.specs.Reached.{refused_at, state_at}
use Rattle.c_state.specs.Bytes.{state_size, state_in}
use Rattle.c_state.proofs.CodeLaws.{written_in}
use Rattle.c_at.specs.Packed.{at_answer, at_packed, at_bytes}
use Rattle.c_at.proofs.AtLaws.{Limited, at_limits}

module _ (log memory : List ℕ) (c : ℕ) (b : List ℕ) where
  answer_limits : Limited (at_answer log memory c b)
  unfolding at_answer
  answer_limits =
      pick_both Limited (is_memory memory)
      (pick_both Limited (eqb (length b) state_size) (at_limits log memory c) (record { number = omega arith; clock = omega arith; place = omega arith }))
      (record { number = omega arith; clock = omega arith; place = omega arith })

  -- THE PARTS OF AN ANSWER
  pub apart : let a = at_answer log memory c b in
      (at_packed a % 2 ^ 8 ≡ a.number) × (at_packed a / 2 ^ 8 % 2 ^ 24 ≡ a.place) × (at_packed a / 2 ^ 32 ≡ a.clock)
  apart =
      let h = answer_limits.number in
      let i = answer_limits.place in
      let j = answer_limits.clock in
      (omega arith, omega arith, omega arith)

  -- a number of 0 is that of the state at the clock
  done_is : (at_answer log memory c b).number ≡ 0 → at_answer log memory c b ≡ state_at log memory c
  unfolding at_answer
  done_is h = by (is_memory memory) (eqb (length b) state_size) (state_at log memory c) h
    where
      by : (t u : Bool) (a : At) → (pick t (pick u a (refused_at 2 0)) (refused_at 1 0)).number ≡ 0 → pick t (pick u a (refused_at 2 0)) (refused_at 1 0) ≡ a
      by true true a h = refl
      by true false a h = absurd (omega arith)
      by false u a h = absurd (omega arith)

  -- THE BYTES STAND FOR THE STATE AT THE CLOCK, where nothing is refused
  pub stands : (at_answer log memory c b).number ≡ 0 → state_in (at_bytes (at_answer log memory c b) b) ≡ (state_at log memory c).state
  stands h = rw (eq-eqb (at_answer log memory c b).number 0 h, written_in (at_answer log memory c b).state, done_is h)

-- The machine that the check hands out is the log's, where it passes: so `begin` answers as it is to. Assumes nothing.
use Prim.Native.Nat.{ℕ}
use mathlib.Core.Path.{◌≡◌, refl, ap}
use mathlib.Core.Bool.{Bool, true, false}
use mathlib.Core.List.{List}
use lib.Dec.{eqb}
use lib.ListN.{length}
use borrow.Author.Tests.{eq-eqb, eqb-true}
use Rattle.arith.specs.Pick.{pick}
use Rattle.recording.specs.Whole.{machine_of}
use Rattle.recording.specs.Whole.{check_of}
use Rattle.log_rules.specs.declared.Checked.{Checked}
use Rattle.recording.proofs.Passing.{passes}
use Rattle.play_rules.specs.Turns.{fresh_player, ended_player}
use Rattle.play_rules.specs.declared.Player.{Player}
use Rattle.play_begin.specs.declared.Begun.{Begun}
use Rattle.play_begin.specs.Whole.{play_number, play_place, begun_of}

abbrev opened : ℕ → ℕ → Player → Begun
opened number place player = record { number = number; place = place; player = player }

module _ (log : List ℕ) where
  machine_passed : (check_of log).number ≡ 0 → (check_of log).pal ≡ machine_of log
  machine_passed h = ap (λ (k : Checked). k.pal) (passes log h)

  first_of : pick (eqb (check_of log).number 0) (fresh_player (check_of log).pal) ended_player ≡ pick (eqb (check_of log).number 0) (fresh_player (machine_of log)) ended_player
  first_of = by (eqb (check_of log).number 0) refl
    where
      by : (b : Bool) → eqb (check_of log).number 0 ≡ b → pick b (fresh_player (check_of log).pal) ended_player ≡ pick b (fresh_player (machine_of log)) ended_player
      by true e = ap fresh_player (machine_passed (eqb-true (check_of log).number 0 e))
      by false e = refl

  -- what the check hands out, with the player of its machine
  pub begun_is : (memory : List ℕ) → length memory ≡ 32768 → (k : Checked) → k ≡ check_of log
      → opened k.number k.place (pick (eqb k.number 0) (fresh_player k.pal) ended_player) ≡ begun_of log memory
  unfolding begun_of play_number play_place
  begun_is memory long k e = rw (e, eq-eqb (length memory) 32768 long) (ap (opened (check_of log).number (check_of log).place) first_of)

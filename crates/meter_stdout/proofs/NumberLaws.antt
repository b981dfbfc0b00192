-- What a log and a sample memory are refused by. Assumes nothing.
use Prim.Native.Nat.{ℕ}
use mathlib.Core.Path.{◌≡◌, refl, sym, ◌∙◌}
use mathlib.Core.Bool.{Bool, true, false}
use mathlib.Core.List.{List}
use lib.Dec.{eqb}
use lib.ListN.{length}
use borrow.Author.Tests.{eqb-true}
use Rattle.arith.specs.Pick.{pick}
use Rattle.recording.specs.Whole.{machine_of, tree_of, check_of}
use Rattle.log_rules.specs.Tree.{acts}
use Rattle.play_begin.specs.Whole.{play_number}
use Rattle.play_meter.specs.declared.Answer.{Answer}
use Rattle.play_meter.specs.Meters.{acts_meter, refused_answer, log_meter}

module _ (log memory : List ℕ) where
  -- the meter's number is that of playing
  pub metered_number_lem : (log_meter log memory).number ≡ play_number log memory
  unfolding log_meter play_number
  metered_number_lem =
      by (eqb (length memory) 32768) (eqb (check_of log).number 0) (record { number = 0; place = 0; meter = acts_meter (machine_of log) memory (acts (tree_of log)) }) refl refl
    where
      by : (a b : Bool) (x : Answer) → x.number ≡ 0 → eqb (check_of log).number 0 ≡ b
          → (pick a (pick b x (refused_answer (check_of log).number (check_of log).place)) (refused_answer 1 0)).number ≡ pick a (check_of log).number 1
      by true true x z e = z ∙ sym (eqb-true (check_of log).number 0 e)
      by true false x z e = refl
      by false b x z e = refl

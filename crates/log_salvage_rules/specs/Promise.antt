-- What is promised of a repaired log: it passes; "A passing log comes back byte for byte with an empty list"; and repaired again it stays as it is.
use Rattle.std.specs.Prelude.{ℕ, ◌≡◌, List, []}
use Rattle.log_rules.specs.Whole.{check_of}
use Rattle.log_salvage_rules.specs.Mending.{mended}

pub record Mends (log new : List ℕ) (entries : ℕ) : Type 0 where
  pub passes : (check_of new).number ≡ 0
  pub unchanged : (check_of log).number ≡ 0 → (new ≡ log) × (entries ≡ 0)
  pub again : ((mended new).new ≡ new) × ((mended new).list ≡ [])

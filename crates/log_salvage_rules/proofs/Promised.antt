-- What is promised of a repaired log holds. Assumes nothing.
use mathlib.Core.Path.{◌≡◌, ap}
use mathlib.Core.List.{List}
use mathlib.Core.Bool.{false}
use Prim.Native.Nat.{ℕ, ◌≤◌}
use lib.ListN.{length}
use Rattle.log_rules.specs.Whole.{heavy}
use Rattle.log_salvage_rules.specs.Mending.{mended, mended_tree}
use Rattle.log_salvage_rules.specs.Promise.{Mends}
use Rattle.log_salvage_rules.proofs.Mends.{mends}
use Rattle.log_salvage_rules.proofs.Unchanged.{unchanged}

pub promised : (log : List ℕ) → heavy (mended_tree log) ≡ false → length (mended log).new ≤ 60000 → Mends log (mended log).new (length (mended log).list)
promised log light short =
    let p = mends log light short in
    let s = unchanged (mended log).new p in
    record {
      passes = p;
      unchanged = λ h. ((unchanged log h).new, ap length (unchanged log h).list);
      again = (s.new, s.list);
    }

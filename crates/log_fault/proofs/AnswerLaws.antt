-- The answer by what the line comes to as a whole. Assumes nothing.
use Rattle.std.specs.Prelude.{Result, Ok, Err}
use mathlib.Core.Path.{◌≡◌, ap, sym, ◌∙◌}
use mathlib.Core.List.{List}
use Prim.Native.Nat.{ℕ}
use Rattle.refusal.specs.declared.Refusal.{Refusal}
use Rattle.refusal.specs.Refusal.{refusal}
use Rattle.log_line.specs.declared.Line.{Line}
use Rattle.log_line.specs.Said.{line_of}
use Rattle.log_fault.specs.declared.Stand.{Stand}
use Rattle.log_begins.specs.declared.Keys.{Keys}
use Rattle.log_fault.specs.declared.Whole.{Whole}
use Rattle.log_fault.specs.declared.Whole.TheVariants.{Fine, Start, Other}
use Rattle.log_form.specs.Forms.{reach}
use Rattle.log_begins.specs.Begins.{begins}
use Rattle.log_fault.specs.Allowed.{keys_of}
use Rattle.log_fault.specs.Fault.{whole_of, fault_at, spotted, spot_of}

module _ (st : Stand) (s : List ℕ) (k : Keys) (l : Line) (w : Whole) (a : k ≡ keys_of st) (b : l ≡ line_of s) (e : w ≡ whole_of k l) where
  spot_by : (v : Whole) → w ≡ v → spot_of st s ≡ spotted k s l v
  unfolding spot_of
  spot_by v f = rw (← a, ← b, ← e, f)

  pub spot_fine : w ≡ Fine → Ok l ≡ spot_of st s
  unfolding spotted
  spot_fine f = sym (spot_by Fine f)

  pub spot_start : (n : ℕ) → w ≡ Start n → Err (refusal n 0) ≡ spot_of st s
  unfolding spotted
  spot_start n f = sym (spot_by (Start n) f)

  pub spot_other : (i : ℕ) (r : Result Line Refusal) → w ≡ Other → i ≡ reach (begins k) s → r ≡ fault_at s i → r ≡ spot_of st s
  unfolding spotted
  spot_other i r f p q = q ∙ (ap (fault_at s) p ∙ sym (spot_by Other f))

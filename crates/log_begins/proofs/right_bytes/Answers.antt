-- What each call ensures, put into the law of the first byte at fault of all allowed lines, `reach_begins`. Assumes nothing.
use mathlib.Core.Path.{◌≡◌, sym}
use Prim.Native.Nat.{ℕ, max}
use native.Mathlib.Omega.{arith}
use Rattle.log_line.specs.Printed.{ended}
use Rattle.log_begins.proofs.Furthest.{reach_begins}
use Rattle.log_begins.proofs.right_bytes.Goals as goal

max_assoc : (a b c : ℕ) → max (max a b) c ≡ max a (max b c)
max_assoc a b c = omega arith

pub returns : goal.returns
unfolding ended
returns c =
    let a = c.args in
    simp (
      max_assoc,
      c.max-7.ensures,
      c.count_bytes-3.ensures,
      c.max-6.ensures,
      c.form_bytes-5.ensures,
      c.max-5.ensures,
      c.count_bytes-2.ensures,
      c.max-4.ensures,
      c.form_bytes-4.ensures,
      c.max-3.ensures,
      c.form_bytes-3.ensures,
      c.max-2.ensures,
      c.count_bytes.ensures,
      c.max.ensures,
      c.form_bytes-2.ensures,
      c.form_bytes.ensures,
    )
    (sym (reach_begins a.k a.l.now))

-- Parts stored one behind the other. Assumes nothing.
use mathlib.Core.Path.{◌≡◌, sym, ap, ◌∙◌}
use mathlib.Core.List.{List, ◌++◌, append-nil}
use Prim.Native.Nat.{ℕ, ◌+◌}
use native.Mathlib.Omega.{arith}
use lib.ListN.{length, drop_of_length-le}
use lib.Seq.{sets, sets-eq}
use Rattle.text_print.proofs.StoreLaws.{sets_append}

-- a part, and another one behind it
pub put_next : (u v old b₁ b₂ : List ℕ) (i j : ℕ) → i + length u ≡ j → b₁ ≡ sets old i u → b₂ ≡ sets b₁ j v → b₂ ≡ sets old i (u ++ v)
put_next u v old b₁ b₂ i j l e f = f ∙ ap (λ (b : List ℕ). sets b j v) e ∙ ap (λ (k : ℕ). sets (sets old i u) k v) (sym l) ∙ sets_append u v old i

-- a part that is all
pub put_all : (u old b : List ℕ) → length u ≡ length old → b ≡ sets old 0 u → b ≡ u
put_all u old b l e =
    e
    ∙ sets-eq u old 0 (omega arith)
    ∙ ap (λ (r : List ℕ). u ++ r) (drop_of_length-le old {i = 0 + length u} (omega arith))
    ∙ append-nil u
